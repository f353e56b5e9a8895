-- `zone::all_keep_rule` meets its contract: before a pair, every record so far keeps the rule. Assumes nothing.
use Prim.Native.Nat.{◌*◌}
use Rattle.std.proofs.Common.{◌≡◌, true}
use Rattle.zone.specs.Zone.{records, keeps, all_below}
use Rattle.zone.proofs.all_keep_rule.Given as goal

abbrev pub invariant-loop-pair : goal.invariant-loop-pair
invariant-loop-pair l = all_below (2 * l.pair) (keeps (records l.zone)) ≡ true
