-- `datelines::OpenLine::feed` meets its contract. The loop's invariant: the output and the open line are those of the first bytes of the chunk.
-- Assumes nothing.
use Rattle.datelines.proofs.Bytes.{FedTo}
use Rattle.datelines.proofs.open_line.OpenLine.feed.Given as goal

abbrev pub invariant-loop-b : goal.invariant-loop-b
invariant-loop-b l = FedTo l.chunk l.fn.self l.fn.output l.b-index l.self l.output
