-- `datelines::put_refused` meets its contract. Assumes nothing.
use mathlib.Core.Path.{refl}
use native.Mathlib.Omega.{arith}
use Rattle.datelines.specs.Lines.{refused_line}
use Rattle.text.proofs.Runs.{appended_own, appended_then}
use Rattle.datelines.proofs.Decimal.{within}
use Rattle.datelines.proofs.put_refused.Goals as goal

pub put_all-requires : goal.put_all-requires
put_all-requires c = omega (arith, within 20 c.args.number, c.put_refusal_number.ensures.next, c.put_refusal_number.ensures.size, c.requires)

pub returns : goal.returns
unfolding refused_line
returns c = appended_own (appended_then c.put_refusal_number.ensures c.put_all.ensures) refl
