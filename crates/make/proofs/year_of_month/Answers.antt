-- `make::year_of_month` meets its contract. Assumes nothing.
use mathlib.Core.Path.{ap}
use lib.Ieee.{binary64, add, of_bits, of_int}
use Rattle.make.specs.Make.{year_of_month}
use Rattle.make.proofs.year_of_month.Goals as goal

pub returns : goal.returns
unfolding year_of_month of_bits of_int
returns c = ap (add binary64 c.args.y) c.floor.ensures
