-- `calendar::CountedYear::is_leap` meets its contract: the rule of the counted year, which is that of the year. Assumes nothing.
use mathlib.Core.Path.{◌≡◌, refl, ap, ◌∙◌}
use mathlib.Core.Bool.{Bool, true, false, not, cond}
use Prim.Native.Nat.{ℕ, ◌+◌, ◌%◌}
use native.Mathlib.Omega.{arith}
use borrow.Author.Tests.{eq-eqb, ne_eqb}
use lib.Dec.{eqb}
use Rattle.ecma262.specs.Date.{leap_of}
use Rattle.calendar.specs.Calendar.{year_counted}
use Rattle.calendar.proofs.Counting.{leap-by}
use Rattle.calendar.proofs.CountedYear.is_leap.Goals as goal

-- where 4 divides the year, and 400 does not
by-hundreds : (n : ℕ) → eqb ((n + 1) % 400) 0 ≡ false → eqb ((n + 1) % 4) 0 ≡ true → (b : Bool) → eqb ((n + 1) % 100) 0 ≡ b
    → cond (not b) 1 0 ≡ leap_of (year_counted n)
by-hundreds n e g true f = leap-by n false true true e f g
by-hundreds n e g false f = leap-by n false false true e f g

pub returns-then-n-eq0 : goal.returns-then-n-eq0
returns-then-n-eq0 c =
    let e = eq-eqb _ 0 c.if-n-eq0.true in
    ap (λ (b : Bool). cond b 1 0) e ∙ leap-by c.args.self.count true _ _ e refl refl

pub returns-then-n-eq0-2 : goal.returns-then-n-eq0-2
returns-then-n-eq0-2 c =
    by-hundreds c.args.self.count (ne_eqb _ 0 c.if-n-eq0.false) (eq-eqb _ 0 c.if-n-eq0-2.true) _ refl

pub returns-else-n-eq0-2 : goal.returns-else-n-eq0-2
returns-else-n-eq0-2 c =
    let e = ne_eqb _ 0 c.if-n-eq0-2.false in
    let f : eqb ((c.args.self.count + 1) % 100) 0 ≡ false = ne_eqb _ 0 (omega (arith, c.if-n-eq0-2.false)) in
    ap (λ (b : Bool). cond b 1 0) e ∙ leap-by c.args.self.count false false false (ne_eqb _ 0 c.if-n-eq0.false) f e
