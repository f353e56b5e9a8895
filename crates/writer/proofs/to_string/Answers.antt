-- `writer::to_string` meets its contract: a time that the bits are taken for is one of the range. Assumes nothing.
use mathlib.Core.Path.{ap, ◌∙◌}
use Rattle.std.specs.Prelude.{Some}
use Rattle.writer.proofs.Given.{time-is}
use Rattle.writer.proofs.to_string.Goals as goal

pub to_date_string_t-requires : goal.to_date_string_t-requires
to_date_string_t-requires c = time-is _ c.time_value.ensures (c.in_ok-ok_or.ensures.ok_part ∙ ap Some c.in-Time.is)
