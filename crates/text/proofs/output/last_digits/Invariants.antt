-- `text::last_digits` meets its contract. The loop's invariant: from the place i on the bytes are the number's digits. Assumes nothing.
use Rattle.text.proofs.Places.{FromPlace}
use Rattle.text.proofs.output.last_digits.Given as goal

abbrev pub invariant-loop-i : goal.invariant-loop-i
invariant-loop-i g l = FromPlace g.row.N l.t l.i l.rest l.bytes
