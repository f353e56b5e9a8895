-- `calendar::year_from_time` meets its contract: the estimate, less the bit of the test. Assumes nothing.
use Rattle.std.proofs.lemmas.Int as signed
use Rattle.std.proofs.lemmas.Int.{wrapping_sub_is, int_wrap_fits}
use mathlib.Core.Path.{◌≡◌, refl, sym, ap, ◌∙◌}
use mathlib.Core.Bool.{Bool, true, false, cond}
use Prim.Native.Nat.{◌<◌}
use native.Mathlib.Omega.{arith}
use mir.Syntax.{w32}
use mir.Val.{bool_byte}
use lib.IntN.{ℤ, pos, ◌-ℤ◌}
use lib.Signed.{mag}
use lib.Ieee.{Float, binary64, lt, of_int}
use Rattle.integers.proofs.Machine.{kept}
use Rattle.calendar.specs.Calendar.{time_from_year_f, wrap32, year_estimate_f, year_from_time_f}
use Rattle.calendar.proofs.Wrap.{of-32, wrap-is}
use Rattle.calendar.proofs.year_from_time.Goals as goal

-- an i32, stepped back or not
wrapped : (x : ℤ) (b : Bool) → mag x < 2147483648 → wrap32 (x -ℤ pos (bool_byte b)) ≡ cond b (wrap32 (x -ℤ pos 1)) x
wrapped x true f = refl
wrapped x false f = ap wrap32 (omega (arith, signed.ints)) ∙ sym (wrap-is x) ∙ int_wrap_fits w32 x (of-32 f)

-- the year, by the test b of t against the time at which the year y starts
stepped : (t : Float) (y : ℤ) (b : Bool) → mag y < 2147483648 → y ≡ year_estimate_f t → b ≡ lt t (time_from_year_f (of_int binary64 y)) → wrap32 (y -ℤ pos (bool_byte b)) ≡ year_from_time_f t
unfolding year_from_time_f
stepped t y b f e g =
    wrapped y b f ∙ ap (λ b. cond b (wrap32 (y -ℤ pos 1)) y) g
    ∙ ap (λ y. cond (lt t (time_from_year_f (of_int binary64 y))) (wrap32 (y -ℤ pos 1)) y) e

pub returns : goal.returns
returns c =
    let y = c.year_estimate-year in
    let late = c.starts_after-late in
    wrapping_sub_is w32 y.result c.from.result (of-32 y.type_inv) (of-32 c.from.type_inv) ∙ wrap-is (y.result -ℤ c.from.result)
    ∙ ap (λ (i : ℤ). wrap32 (y.result -ℤ i)) c.from.ensures
    ∙ stepped c.args.t y.result late.result y.type_inv y.ensures (late.ensures ∙ ap (λ z. lt c.args.t (time_from_year_f (of_int binary64 z))) (kept (of-32 y.type_inv)))
