-- `datelines::put_line` meets its contract: the reader's answer by cases. Assumes nothing.
use mathlib.Core.Path.{sym, ap, ◌∙◌}
use native.Mathlib.Omega.{arith}
use Rattle.datelines.specs.Lines.{refused_line}
use Rattle.text.proofs.Runs.{appended_own}
use Rattle.datelines.proofs.Times.{read-bits}
use Rattle.datelines.proofs.Streams.{line-of}
use Rattle.datelines.proofs.put_line.Goals as goal

pub put_accepted-requires : goal.put_accepted-requires
put_accepted-requires c = (read-bits _ _ _ (sym c.read.ensures ∙ c.in-Ok.is), omega (arith, c.requires))

pub returns-in-Ok : goal.returns-in-Ok
returns-in-Ok c = appended_own c.put_accepted.ensures (line-of _ _ (sym c.read.ensures ∙ c.in-Ok.is))

pub returns-in-Err : goal.returns-in-Err
returns-in-Err c = appended_own c.put_refused.ensures (ap refused_line c.into.ensures ∙ line-of _ _ (sym c.read.ensures ∙ c.in-Err.is))
