-- `zone_records_main::judge` is safe: what `accept` has accepted may be asked. Assumes nothing.
use mathlib.Core.Path.{sym, ◌∙◌}
use Rattle.integers.proofs.Machine.{true-T}
use Rattle.zone.proofs.Rule.{is_zone_list-sound}
use Rattle.zone_records_main.proofs.judge.Goals as goal

pub lookup-offset-requires : goal.lookup-offset-requires
lookup-offset-requires c = is_zone_list-sound _ (true-T _ (sym c.accept.ensures ∙ c.if-not-accept.false))
