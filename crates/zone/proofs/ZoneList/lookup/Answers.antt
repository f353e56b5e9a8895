-- `ZoneList::lookup` meets its contract: ten halvings leave the record that decides. Assumes nothing.
use mathlib.Core.Path.{ap, ◌∙◌}
use native.Mathlib.Omega.{arith}
use mir.Syntax.{w32}
use Rattle.integers.proofs.Machine.{kept}
use Rattle.zone.specs.Zone.{records, offset_at}
use Rattle.zone.proofs.Rule.{records-length}
use Rattle.zone.proofs.Narrowed.{narrowed-all, narrowed-one}
use Rattle.zone.proofs.ZoneList.lookup.Goals as goal

pub halve_five_times-some-requires : goal.halve_five_times-some-requires
halve_five_times-some-requires c = narrowed-all c.args.self.bytes.now c.args.self.accepted _

pub returns : goal.returns
returns c =
    let list = c.args.self in
    let one = c.halve_five_times-one in
    kept {w = w32} (record { sfits = c.offset_at.type_inv }) ∙ c.offset_at.ensures
    ∙ narrowed-one list.bytes.now list.accepted _ _ _ one.ensures.0 (omega (arith, list.accepted.rule.few, records-length list.bytes.now))
    ∙ ap (offset_at (records list.bytes.now)) (kept c.ranges.second)
