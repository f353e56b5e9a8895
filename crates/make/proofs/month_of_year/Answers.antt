-- `make::month_of_year` meets its contract. Assumes nothing.
use mathlib.Core.Path.{ap, ◌∙◌}
use lib.Ieee.{of_bits, of_int, to_unsigned}
use Rattle.make.specs.Make.{month_of_year}
use Rattle.make.proofs.month_of_year.Goals as goal

pub returns : goal.returns
unfolding month_of_year of_bits of_int
returns c = c.as_u8.ensures ∙ ap (to_unsigned 8) c.rem_euclid.ensures
