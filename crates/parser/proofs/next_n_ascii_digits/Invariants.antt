-- `next_n_ascii_digits` gathers the digits that the definition reads. The loop keeps their block, one byte more at each turn. Assumes nothing.
use Rattle.parser.proofs.Runs.{Gathered}
use Rattle.parser.proofs.next_n_ascii_digits.Given as goal

abbrev pub invariant-loop-i : goal.invariant-loop-i
invariant-loop-i l = Gathered l.text l.at l.n l.i l.block
