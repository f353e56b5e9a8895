-- `zone_records::lookup` meets its contract: the library's partition point is the first record after the second. Assumes nothing.
use Rattle.std.proofs.Common.{◌∙◌, ap, rules, w32}
use Rattle.std.proofs.lemmas.List.Sorted.{IsPartitionPoint-from_clause}
use lib.Signed.{le_z}
use lib.ListN.{get_or}
use mir.Val.{SFits}
use Rattle.integers.proofs.Machine.{kept}
use Rattle.zone_records.proofs.Slices.{none, partitioned, decided}
use Rattle.zone_records.proofs.lookup.Goals as goal

pub returns : goal.returns
returns c =
    let list = c.args.zone.now in
    let t = c.args.second in
    let after = c.partition_point-after in
    let point = IsPartitionPoint-from_clause (λ z. le_z z.second t) list _ after.ensures.partitioned (partitioned list c.requires t) (λ a r q k. search rules) in
    let fits : SFits w32 (get_or list c.saturating_sub.result none).offset = search rules in
    kept fits ∙ ap (λ k. (get_or list k none).offset) c.saturating_sub.ensures ∙ decided list c.requires t _ after.ensures.bound point
