-- `calendar::is_leap_year` meets its contract: of a near year by the rule in whole numbers. Assumes nothing.
use mathlib.Core.Path.{sym, ap, subst, ◌∙◌}
use Prim.Native.Nat.{◌≤◌}
use native.Mathlib.Omega.{arith}
use lib.IntN.{ℤ, nat_abs}
use Rattle.integers.proofs.Machine.{kept}
use Rattle.ecma262.specs.Date.{leap_of}
use Rattle.calendar.proofs.Whole.{leap-whole}
use Rattle.calendar.proofs.is_leap_year.Goals as goal

pub returns-in-Some : goal.returns-in-Some
returns-in-Some c =
    let near : nat_abs c.args.year ≤ 280_001 = subst (λ (y : ℤ). nat_abs y ≤ 280_001) (kept c.ranges.year) c.in-Some.ensures.count.0 in
    c.is_leap.ensures ∙ ap leap_of (c.in-Some.ensures.count.1 ∙ kept c.ranges.year) ∙ sym (leap-whole c.args.year (omega (arith, near)))
