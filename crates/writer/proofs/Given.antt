-- A time that a writer's bits are taken for is one of the range, and can be shown. Assumes nothing.
use mathlib.Core.Path.{◌≡◌, sym, ◌∙◌}
use Prim.Native.Nat.{ℕ, ◌≤◌}
use native.Mathlib.Omega.{arith}
use lib.IntN.{nat_abs}
use lib.Ieee.{Float}
use Rattle.std.specs.Prelude.{Option, Some}
use Rattle.float.specs.Whole.{trunc_z}
use Rattle.timevalue.specs.declared.TimeValue.{TimeValue as Given}
use Rattle.timevalue.specs.declared.TimeValue.TheVariants.{Time}
use Rattle.timevalue.specs.TimeValue.{IsTime, time_value_of}
use Rattle.timevalue.proofs.Laws.{time-taken}
use Rattle.writer.specs.Inner.{IsShown}

-- the time value v that the bits were judged to be is the time t
module _ (time : ℕ) {v : Option Given} {t : Float} (judged : v ≡ time_value_of time) (is : v ≡ Some (Time t)) where
  pub time-is : IsTime t
  time-is = (time-taken time t (sym judged ∙ is)).time

  pub time-shown : IsShown t
  time-shown = record { whole = time-is.whole; shown = wider (nat_abs (trunc_z t)) time-is.range }
    where
      wider : (n : ℕ) → n ≤ 8_640_000_000_000_000 → n ≤ 8_640_000_086_399_000
      wider n h = omega arith
