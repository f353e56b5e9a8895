-- `writer::to_utc_string` meets its contract: a time that the bits are taken for is one of the range. Assumes nothing.
use mathlib.Core.Path.{ap, ◌∙◌}
use Rattle.std.specs.Prelude.{Some}
use Rattle.writer.proofs.Given.{time-shown}
use Rattle.writer.proofs.to_utc_string.Goals as goal

pub write_utc-requires : goal.write_utc-requires
write_utc-requires c = time-shown _ c.time_value.ensures (c.in_ok-ok_or.ensures.ok_part ∙ ap Some c.in-Time.is)
