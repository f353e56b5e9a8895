-- `calendar::day_from_year` meets its contract: each quotient is the floor that the definition has. Assumes nothing.
use lib.Ieee.{binary64, add, sub, mul, of_bits, of_int}
use Rattle.calendar.specs.Calendar.{num, day_from_year_f}
use Rattle.calendar.proofs.day_from_year.Goals as goal

pub returns : goal.returns
unfolding day_from_year_f of_bits of_int
returns c =
    let y = c.args.y in
    λ i. add binary64
    (sub binary64
    (add binary64 (mul binary64 (num 365) (sub binary64 y (num 1970))) (c.floor-num_years_4.ensures i))
    (c.floor-num_years_100.ensures i))
    (c.floor-num_years_400.ensures i)
