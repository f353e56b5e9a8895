-- `float::is_whole_within` meets its contract: of a number within the bound the patterns are compared. Assumes nothing.
use Rattle.std.proofs.Common.{sym, ◌∙◌}
use Rattle.float.proofs.Within.{same_pattern}
use Rattle.float.proofs.is_whole_within.Goals as goal

pub returns-then-abs-most : goal.returns-then-abs-most
returns-then-abs-most c =
    same_pattern _ _ _ _ c.if-abs-most.true c.abs.ensures c.trunc_bits.ensures c.trunc_bits.type_inv c.well_formed.0.1 (sym c.is_nan.ensures.value ∙ c.if-is_nan.false)
