-- `writer::to_date_string_t` meets its contract. Assumes nothing.
use mathlib.Core.Path.{ap, ◌∙◌}
use Prim.Native.Nat.{ℕ}
use Rattle.writer.specs.Inner.{IsShown, replied}
use Rattle.writer.proofs.Written.{prints-leaves, prints-as}
use Rattle.writer.proofs.Local.{local-is-shown, offset-printable, local-text}
use Rattle.writer.proofs.to_date_string_t.Goals as goal
use Rattle.writer.proofs.to_date_string_t.Goals.{After-local_time-t}

shown : (c : After-local_time-t) → IsShown c.local_time-t.result
shown c =
    local-is-shown c.args.zone.bytes.now c.args.zone.accepted c.requires c.local_time-t.ensures

pub date_fields-requires : goal.date_fields-requires
date_fields-requires c = shown (goal.at.date_fields-requires c).After-local_time-t

pub local_string-printed-requires : goal.local_string-printed-requires
local_string-printed-requires c =
    offset-printable c.args.zone.bytes.now c.args.zone.accepted c.requires c.local_time-t.ensures c.local_timezone_offset_seconds-offset.ensures

pub returns : goal.returns
returns c =
    prints-leaves _
    (prints-as (local-text c.args.zone.bytes.now c.args.zone.accepted c.requires c.local_time-t.ensures c.local_timezone_offset_seconds-offset.ensures c.date_fields.ensures) c.local_string-printed.ensures)
    (c.reply.ensures ∙ ap (λ (v : ℕ). replied v c.local_string-printed.result) c.bits_of.ensures)
