-- `calendar::days_into` meets its contract: the days of the count and of the year's first, as the f64 operations give their difference.
-- Assumes nothing.
use Rattle.std.proofs.lemmas.Int as signed
use mathlib.Core.Path.{◌≡◌, ap, subst, ◌∙◌}
use Prim.Native.Nat.{◌/◌, ◌≤◌}
use native.Mathlib.Omega.{arith}
use lib.IntN.{ℤ, pos, nat_abs, ◌-ℤ◌}
use lib.Signed.{lt_z}
use mir.Syntax.{w64}
use mir.Val.{to_z, of_z}
use Rattle.integers.proofs.Machine.{kept}
use Rattle.ecma262.specs.Date.{day_of_time, day_from_year}
use Rattle.float.specs.Whole.{trunc_z, WholeWithin}
use Rattle.calendar.specs.Calendar.{year_counted}
use Rattle.calendar.proofs.Counting.{day-counted}
use Rattle.calendar.proofs.Quick.{days-into-small, starts-quick, within-quick}
use Rattle.calendar.proofs.days_into.Goals as goal
use Rattle.calendar.proofs.days_into.Goals.{After-first_day}

module _ (c : After-first_day) where
  abbrev n : Prim.Native.Nat.ℕ
  n = c.in_ok-n.n

  -- ---- a shown time and a near year
  shown : WholeWithin 8_640_000_086_399_000 c.args.t
  shown = c.in_ok-n.ensures.count.0

  number : year_counted c.in_ok-counted.counted.count ≡ c.args.year
  number = c.in_ok-counted.ensures.count.1 ∙ kept c.ranges.year

  near : nat_abs c.args.year ≤ 280_001
  near = subst (λ (y : ℤ). nat_abs y ≤ 280_001) (kept c.ranges.year) c.in_ok-counted.ensures.count.0

  -- ---- the difference, as the machine takes it
  day : pos (n / 86_400_000) -ℤ pos 439_010_162 ≡ day_of_time (trunc_z c.args.t)
  day = day-counted (trunc_z c.args.t) n c.in_ok-n.ensures.count.1

  first : c.first_day.result ≡ day_from_year c.args.year
  first = c.first_day.ensures ∙ ap day_from_year number

  abbrev days : ℤ
  days = day_of_time (trunc_z c.args.t) -ℤ day_from_year c.args.year

  small : nat_abs days ≤ 300_000_000
  small = days-into-small shown c.args.year near

  result-is : to_z w64 (of_z w64 (to_z w64 (of_z w64 (to_z w64 (n / 86_400_000) -ℤ pos 439_010_162)) -ℤ to_z w64 (of_z w64 c.first_day.result))) ≡ days
  result-is = omega (arith, signed.ints, day, first, small)

pub overflow_sub-result-2 : goal.overflow_sub-result-2
overflow_sub-result-2 c = omega (arith, signed.ints, day c, first c, small c)

pub returns-clause-exact : goal.returns-clause-exact
returns-clause-exact c = result-is c ∙ within-quick (shown c) c.args.year (near c)

pub returns-clause-negative : goal.returns-clause-negative
returns-clause-negative c = ap (λ (z : ℤ). lt_z z (pos 0)) (result-is c) ∙ starts-quick (shown c) c.args.year (near c)
