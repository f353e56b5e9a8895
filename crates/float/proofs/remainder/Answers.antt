-- `float::remainder` meets its contract: the remainder that is worked out is of two finite values, and no NaN. Assumes nothing.
use Rattle.std.proofs.Common.{sym, ◌∙◌}
use Rattle.float.proofs.Digits.{no_nan_made}
use Rattle.float.proofs.remainder.Goals as goal

pub float_from_bits-result : goal.float_from_bits-result
float_from_bits-result c =
    no_nan_made c.rem_bits.result c.args.x c.args.y c.rem_bits.ensures c.well_formed.0.1 c.well_formed.1.0.1
    (sym c.is_finite.ensures.value ∙ c.if-not-is_finite.false) (sym c.is_nan.ensures.value ∙ c.if-is_nan.false)
    c.if-y.false (sym c.is_infinite.ensures.value ∙ c.if-is_infinite.false)
