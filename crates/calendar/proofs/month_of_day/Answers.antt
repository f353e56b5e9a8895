-- `calendar::month_of_day` meets its contract. Assumes nothing.
use borrow.Author.Tests.{lt-ltb, le-ltb}
use mathlib.Core.Path.{sym, ap, ◌∙◌, subst}
use mathlib.Core.Bool.{cond}
use Prim.Native.Nat.{◌+◌, ◌/◌, ◌≤◌, ◌<◌}
use native.Mathlib.Omega.{arith}
use Rattle.calendar.proofs.Months.{month-by-32, month-late}
use Rattle.calendar.proofs.Wrap.{bit}
use Rattle.calendar.proofs.month_of_day.Goals as goal

pub returns-then-month-gt10 : goal.returns-then-month-gt10
returns-then-month-gt10 c = sym (month-late _ c.args.d (bit c.args.leap) (omega arith))

pub returns-then-d-days_before : goal.returns-then-d-days_before
returns-then-d-days_before c =
    let a = c.args in
    sym (month-by-32 _ a.d (bit a.leap) (omega arith) ∙ ap (λ b. cond b (a.d / 32) (a.d / 32 + 1)) (lt-ltb a.d _ (subst (λ n. a.d < n) c.days_before.ensures c.if-d-days_before.true)))

pub returns-else-d-days_before : goal.returns-else-d-days_before
returns-else-d-days_before c =
    let a = c.args in
    sym (month-by-32 _ a.d (bit a.leap) (omega arith) ∙ ap (λ b. cond b (a.d / 32) (a.d / 32 + 1)) (le-ltb a.d _ (subst (λ n. n ≤ a.d) c.days_before.ensures c.if-d-days_before.false)))
