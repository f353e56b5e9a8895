-- `float::trunc` meets its contract: `trunc_bits` is `trunc_f` of a pattern's value. Assumes nothing.
use Rattle.std.proofs.Common.{◌≡◌, refl}
use lib.Ieee.{nan}
use Rattle.float.specs.Rounding.{trunc_f}
use Rattle.float.proofs.Clearing.{trunc-number}
use Rattle.float.proofs.Changed.{changed-number, changed}
use Rattle.float.proofs.trunc.Goals as goal

of-nan : trunc_f nan ≡ nan
unfolding trunc_f
of-nan = refl

pub by_bits-requires-clause-number : goal.by_bits-requires-clause-number
by_bits-requires-clause-number c = changed-number trunc_f of-nan trunc-number c.args.x c.well_formed.0.1

pub returns : goal.returns
returns c = changed trunc_f of-nan trunc-number c.args.x c.well_formed.0.1 c.by_bits.result c.by_bits.ensures.nan c.by_bits.ensures.number
