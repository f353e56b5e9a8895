-- `datelines::put_accepted` meets its contract: five runs, one behind the other. Assumes nothing.
use mathlib.Core.Path.{refl, ◌∙◌}
use Rattle.datelines.specs.Lines.{accepted_line}
use Rattle.text.proofs.Runs.{appended_own, appended_then}
use Rattle.datelines.proofs.Decimal.{signed-is}
use Rattle.datelines.proofs.Times.{cast-time}
use Rattle.datelines.proofs.put_accepted.Goals as goal

pub returns : goal.returns
unfolding accepted_line
returns c =
    let time = appended_own c.put_number.ensures.digits (signed-is (record { sfits = c.time_of.type_inv }) (c.time_of.ensures ∙ cast-time c.requires.0)) in
    appended_own (appended_then (appended_then (appended_then (appended_then c.put_all.ensures time) c.put.ensures) c.put_iso.ensures) c.end_line.ensures) refl
