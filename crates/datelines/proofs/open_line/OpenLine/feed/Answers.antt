-- `datelines::OpenLine::feed` meets its contract: each byte goes on from those before it. Assumes nothing.
use mathlib.Core.Path.{refl}
use native.Mathlib.Omega.{arith}
use Rattle.datelines.proofs.Bytes.{none_fed, one_more}
use Rattle.datelines.proofs.open_line.OpenLine.feed.Goals as goal

pub loop-b-init : goal.loop-b-init
loop-b-init c = none_fed c.args.chunk.now c.args.self.now c.args.output.now refl (omega arith)

pub loop-b-preserved : goal.loop-b-preserved
loop-b-preserved c = one_more c.args.chunk.now c.args.self.now c.args.output.now _ c.loop-b.invariant (omega arith) c.take_in.ensures
