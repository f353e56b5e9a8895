-- `text::put_text` meets its contract. Assumes nothing.
use mathlib.Core.Path.{refl}
use native.Mathlib.Omega.{arith}
use borrow.Author.Rules.{rules}
use Rattle.text.proofs.Runs.{prints_whole}
use Rattle.text.proofs.put_text.Goals as goal

pub returns : goal.returns
returns c = prints_whole c.put_all.ensures c.new.ensures.same_bytes c.new.ensures.at_start (search rules) refl (omega arith)
