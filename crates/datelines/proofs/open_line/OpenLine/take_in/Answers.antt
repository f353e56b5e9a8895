-- `datelines::OpenLine::take_in` meets its contract, by the byte: a newline, a byte that is kept, a byte past the 33. Assumes nothing.
use mathlib.Core.Path.{refl}
use native.Mathlib.Omega.{arith}
use Rattle.datelines.proofs.Bytes.{line_ends, byte_kept, byte_dropped}
use Rattle.datelines.proofs.open_line.OpenLine.take_in.Goals as goal

pub returns-then-b-eq-NEWLINE : goal.returns-then-b-eq-NEWLINE
returns-then-b-eq-NEWLINE c = line_ends c.args.self.now _ _ _ _ (omega arith) c.put_line.ensures refl refl

pub returns-then-self-lt-MOST_KEPT : goal.returns-then-self-lt-MOST_KEPT
returns-then-self-lt-MOST_KEPT c = byte_kept c.args.self.now _ _ _ c.if-b-eq-NEWLINE.false (omega arith) (omega arith) (omega arith) refl refl

pub returns-else-self-lt-MOST_KEPT : goal.returns-else-self-lt-MOST_KEPT
returns-else-self-lt-MOST_KEPT c = byte_dropped c.args.self.now _ _ _ c.if-b-eq-NEWLINE.false (omega arith) (omega arith) refl refl
