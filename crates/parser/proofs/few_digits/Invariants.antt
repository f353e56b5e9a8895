-- `few_digits` reads as the definition does. The loop keeps a run: i digits are read, and their number. Assumes nothing.
use Rattle.parser.proofs.Runs.{Run}
use Rattle.parser.proofs.few_digits.Given as goal

abbrev pub invariant-loop-i : goal.invariant-loop-i
invariant-loop-i l = Run l.text l.at l.n l.i l.value
