-- `calendar::clock_of` meets its contract: of a shown time by its count, else by the f64 operations. Assumes nothing.
use mathlib.Core.Path.{ap, ◌∙◌}
use lib.Ieee.{of_bits, of_int, to_unsigned}
use Rattle.calendar.specs.Calendar.{hour_from_time_f, min_from_time_f, sec_from_time_f, ms_from_time_f}
use Rattle.calendar.proofs.Quick.{hour-quick, min-quick, sec-quick, ms-quick}
use Rattle.calendar.proofs.clock_of.Goals as goal

pub returns-in-Some : goal.returns-in-Some
returns-in-Some c =
    let n = c.in-Some.n in
    let w = c.in-Some.ensures.count.0 in
    let e = c.in-Some.ensures.count.1 in
    (hour-quick w n e, min-quick w n e, sec-quick w n e, ms-quick w n e)

pub returns : goal.returns
unfolding hour_from_time_f min_from_time_f sec_from_time_f ms_from_time_f of_bits of_int
returns c = (c.clock_field.ensures, c.clock_field-2.ensures, c.clock_field-3.ensures, c.as_u16.ensures ∙ ap (to_unsigned 16) c.rem_euclid.ensures)
