-- Patterns from outside: how Rust prints `f64::to_bits`. Computed. Assumes nothing.
use mathlib.Core.Path.{◌≡◌, refl}
use lib.Ieee.{binary64, of_bits, of_int, eq, le, is_nan}
use lib.IntN.{pos, negsuc}
use Rattle.std.specs.Prelude.{Some, None}
use Rattle.float.specs.Whole.{trunc_z}
use Rattle.float.specs.Rounding.{trunc_f, abs_f, is_whole_within}
use Rattle.timevalue.specs.declared.TimeValue.TheVariants.{Time, Nan}
use Rattle.timevalue.specs.TimeValue.{is_time, time_value_of}

-- -0 counts as 0
minus-zero : time_value_of 0x8000_0000_0000_0000 ≡ Some (Time (of_bits binary64 0))
unfolding time_value_of is_time is_whole_within of_bits of_int eq le is_nan trunc_f trunc_z abs_f
minus-zero = refl

-- the ends of the range, ±8,640,000,000,000,000, and the next f64 beyond them
last : time_value_of 0x433E_B208_C2DC_0000 ≡ Some (Time (of_int binary64 (pos 8_640_000_000_000_000)))
unfolding time_value_of is_time is_whole_within of_bits of_int eq le is_nan trunc_f trunc_z abs_f
last = refl

first : time_value_of 0xC33E_B208_C2DC_0000 ≡ Some (Time (of_int binary64 (negsuc 8_639_999_999_999_999)))
unfolding time_value_of is_time is_whole_within of_bits of_int eq le is_nan trunc_f trunc_z abs_f
first = refl

beyond : time_value_of 0x433E_B208_C2DC_0001 ≡ None
unfolding time_value_of is_time is_whole_within of_bits of_int eq le is_nan trunc_f trunc_z abs_f
beyond = refl

-- the smallest subnormal is a fraction, and so is 0.5
subnormal : time_value_of 1 ≡ None
unfolding time_value_of is_time is_whole_within of_bits of_int eq le is_nan trunc_f trunc_z abs_f
subnormal = refl

half : time_value_of 0x3FE0_0000_0000_0000 ≡ None
unfolding time_value_of is_time is_whole_within of_bits of_int eq le is_nan trunc_f trunc_z abs_f
half = refl

-- an infinity, and NaNs of either sign and other payloads
infinity : time_value_of 0xFFF0_0000_0000_0000 ≡ None
unfolding time_value_of is_time is_whole_within of_bits of_int eq le is_nan trunc_f trunc_z abs_f
infinity = refl

nan-minus : time_value_of 0xFFF8_0000_0000_0000 ≡ Some Nan
unfolding time_value_of of_bits is_nan
nan-minus = refl

nan-payload : time_value_of 0x7FF0_0000_0000_0001 ≡ Some Nan
unfolding time_value_of of_bits is_nan
nan-payload = refl
