-- `calendar::week_day` meets its contract: of a shown time by its count, else by the f64 operations. Assumes nothing.
use mathlib.Core.Path.{ap, ◌∙◌}
use lib.Ieee.{Float, binary64, add, of_bits, of_int, to_unsigned}
use Rattle.float.specs.Rounding.{rem_euclid_f}
use Rattle.calendar.specs.Calendar.{num, week_day_f}
use Rattle.calendar.proofs.Quick.{week-day-quick}
use Rattle.calendar.proofs.week_day.Goals as goal

pub returns-in-Some : goal.returns-in-Some
returns-in-Some c = let e = c.in-Some.ensures.count in week-day-quick e.0 c.in-Some.n e.1

pub returns : goal.returns
unfolding week_day_f of_bits of_int
returns c =
    c.as_u8.ensures
    ∙ ap (to_unsigned 8) (c.rem_euclid.ensures ∙ ap (λ (d : Float). rem_euclid_f (add binary64 d (num 4)) (num 7)) c.day.ensures)
