-- `calendar::days_before` meets its contract: each way of its test is the formula's, and the one test over the 24 pairs is computed of the
-- numbers that the code has. Assumes nothing.
use Rattle.std.proofs.Common.{rules}
use native.Mathlib.Omega.{arith}
use Rattle.ecma262.specs.Date.{days_before}
use Rattle.calendar.proofs.Months.{early-is, late-is}
use Rattle.calendar.proofs.days_before.Goals as goal

pub returns-then-month-lt-MARCH : goal.returns-then-month-lt-MARCH
unfolding days_before
returns-then-month-lt-MARCH c = search (rules, early-is 2)

pub overflow_sub-result : goal.overflow_sub-result
overflow_sub-result c = search rules

pub returns : goal.returns
unfolding days_before
returns c =
    omega (arith, late-is _ _ _ _ _ _ c.args.leap _ (overflow_sub-result c.before) c.from.ensures c.if-month-lt-MARCH.false c.requires tt)
