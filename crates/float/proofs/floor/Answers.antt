-- `float::floor` meets its contract: `floor_bits` is `floor_f` of a pattern's value. Assumes nothing.
use Rattle.std.proofs.Common.{◌≡◌, refl}
use lib.Ieee.{nan}
use Rattle.float.specs.Rounding.{floor_f}
use Rattle.float.proofs.Clearing.{floor-number}
use Rattle.float.proofs.Changed.{changed-number, changed}
use Rattle.float.proofs.floor.Goals as goal

of-nan : floor_f nan ≡ nan
unfolding floor_f
of-nan = refl

pub by_bits-requires-clause-number : goal.by_bits-requires-clause-number
by_bits-requires-clause-number c = changed-number floor_f of-nan floor-number c.args.x c.well_formed.0.1

pub returns : goal.returns
returns c = changed floor_f of-nan floor-number c.args.x c.well_formed.0.1 c.by_bits.result c.by_bits.ensures.nan c.by_bits.ensures.number
