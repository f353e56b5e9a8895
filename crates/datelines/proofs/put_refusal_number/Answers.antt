-- `datelines::put_refusal_number` meets its contract: a number of one digit by the digit, any other as it is printed. Assumes nothing.
use mathlib.Core.Path.{sym}
use native.Mathlib.Omega.{arith}
use Rattle.text.proofs.Runs.{appended_own}
use Rattle.datelines.proofs.Decimal.{decimal-is, one_digit}
use Rattle.datelines.proofs.put_refusal_number.Goals as goal

pub returns-then-number-lt10 : goal.returns-then-number-lt10
returns-then-number-lt10 c = appended_own c.put.ensures (sym (one_digit c.args.number c.if-number-lt10.true))

pub returns-else-number-lt10 : goal.returns-else-number-lt10
returns-else-number-lt10 c = appended_own c.put_number.ensures.digits (decimal-is (omega arith) (omega arith))
