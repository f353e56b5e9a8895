-- `few_digits` reads as the definition does. Assumes nothing.
use borrow.Author.Rules.{rules}
use Rattle.parser.proofs.Runs.{run_more}
use Rattle.parser.proofs.few_digits.Goals as goal

pub loop-i-preserved : goal.loop-i-preserved
loop-i-preserved c = run_more c.loop-i.invariant c.loop-i-test.true c.in-Some.ensures (search rules)
