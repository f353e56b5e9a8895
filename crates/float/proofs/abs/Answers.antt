-- `float::abs` meets its contract. Assumes nothing.
use Rattle.float.proofs.Changed.{abs_number, abs_made}
use Rattle.float.proofs.abs.Goals as goal

pub by_bits-requires-clause-number : goal.by_bits-requires-clause-number
by_bits-requires-clause-number c = abs_number c.args.x c.well_formed.0.1

pub returns : goal.returns
returns c = abs_made c.args.x c.well_formed.0.1 c.by_bits.result c.by_bits.ensures.nan c.by_bits.ensures.number
