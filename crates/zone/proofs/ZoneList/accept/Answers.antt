-- `ZoneList::accept` meets its contract: what the test says yes to keeps the rule. Assumes nothing.
use mathlib.Core.Path.{sym, ◌∙◌}
use Rattle.zone.proofs.Rule.{accepts-sound}
use Rattle.zone.proofs.ZoneList.accept.Goals as goal

pub invariant_of-result : goal.invariant_of-result
invariant_of-result c = record { accepted = accepts-sound _ (sym c.accepts.ensures ∙ c.if-accepts.true) }
