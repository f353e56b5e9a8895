-- The time values of document 01: "The range is |t| ≤ 8,640,000,000,000,000; a time value is NaN or a whole number in the range (-0 counts as
-- 0)." That `is_time` is `IsTime`, both ways, is a law (proofs/Laws.antt). Definitions only. Assumes nothing.
use Rattle.std.specs.Prelude.{Bool, cond, ℕ, pos, Float, Option, Some, None}
use Rattle.std.specs.Float.{binary64}
use Rattle.std.specs.Float.Ieee.{of_bits, of_int, is_nan}
use Rattle.ecma262.specs.Date.{time_range, InRange}
use Rattle.float.specs.Whole.{IsWhole, trunc_z}
use Rattle.float.specs.Rounding.{is_whole_within, plus_zero}
use Rattle.timevalue.specs.declared.TimeValue.{TimeValue}
use Rattle.timevalue.specs.declared.TimeValue.TheVariants.{Time, Nan}

-- x is a whole number in the range
pub record IsTime (x : Float) : Type 0 where
  pub whole : IsWhole x (trunc_z x)
  pub range : InRange (trunc_z x)

-- The same as a test.
unfoldable pub is_time : Float → Bool
is_time x = is_whole_within (of_int binary64 (pos time_range)) x

abbrev pub judged : Float → Option TimeValue
judged x = cond (is_nan x) (Some Nan) (cond (is_time x) (Some (Time (plus_zero x))) None)

-- What a call takes the 64 bits of a time value for: every pattern of a NaN is NaN. Row 2 of the table, "infinite, fractional or beyond the
-- range", is `None`.
unfoldable pub time_value_of : ℕ → Option TimeValue
time_value_of bits = judged (of_bits binary64 bits)
