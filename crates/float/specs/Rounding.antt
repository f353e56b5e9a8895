-- What Rust's `floor`, `trunc`, `abs`, `copysign` and `rem_euclid` of an `f64` are, and ECMA-262's ToIntegerOrInfinity, over the values of
-- logic/Lib/Ieee.antt. Definitions only.
use Rattle.std.specs.Prelude.{Bool, false, cond, ◌&&◌, pos, from_bits, Float}
use Rattle.std.specs.Float.{nan, inf, fin, binary64}
use Rattle.std.specs.Float.Ieee.{of_int, add, rem, lt, le, eq}
use Rattle.float.specs.Whole.{floor_z, trunc_z}

-- x with the sign s in place of its own
unfoldable pub with_sign : Bool → Float → Float
with_sign s nan = nan
with_sign s (inf t) = inf s
with_sign s (fin t m e) = fin s m e

-- Whether x's sign is a minus: of -0.0 too. There is one NaN, and it counts as having none.
unfoldable pub is_negative : Float → Bool
is_negative nan = false
is_negative (inf s) = s
is_negative (fin s m e) = s

-- Rust's `trunc`, IEEE 754's roundToIntegralTowardZero: the whole number `trunc_z x`. A zero has the sign of x, so -0.5 gives -0.0.
unfoldable pub trunc_f : Float → Float
unfolding with_sign
trunc_f nan = nan
trunc_f (inf s) = inf s
trunc_f (fin s m e) = with_sign s (of_int binary64 (trunc_z (fin s m e)))

-- Rust's `floor`, IEEE 754's roundToIntegralTowardNegative: the whole number `floor_z x`. A zero has the sign of x, so -0.0 gives -0.0; -0.5 gives -1.0.
unfoldable pub floor_f : Float → Float
unfolding with_sign
floor_f nan = nan
floor_f (inf s) = inf s
floor_f (fin s m e) = with_sign s (of_int binary64 (floor_z (fin s m e)))

-- Rust's `abs`: |x|
unfoldable pub abs_f : Float → Float
unfolding with_sign
abs_f x = with_sign false x

-- Rust's `copysign`: the magnitude of x with the sign of y. A NaN y counts as positive.
unfoldable pub copysign_f : Float → Float → Float
unfolding with_sign is_negative
copysign_f x y = with_sign (is_negative y) x

-- Rust's `rem_euclid`: `let r = x % y; if r < 0.0 { r + y.abs() } else { r }`, the sum rounded once.
unfoldable pub rem_euclid_f : Float → Float → Float
unfolding abs_f
rem_euclid_f x y = cond (lt (rem binary64 x y) (from_bits binary64 0)) (add binary64 (rem binary64 x y) (abs_f y)) (rem binary64 x y)

-- ECMA-262, ToIntegerOrInfinity of a number: NaN, +0 and -0 give 0; an infinity is itself; any other is cut toward zero. A zero has no sign there: it is +0 here.
unfoldable pub to_integer_or_infinity : Float → Float
to_integer_or_infinity nan = from_bits binary64 0
to_integer_or_infinity (inf s) = inf s
to_integer_or_infinity (fin s m e) = of_int binary64 (trunc_z (fin s m e))

-- Whether x is a whole number, and no larger than `most` either way: its own whole part. An infinity is larger; a NaN equals nothing.
unfoldable pub is_whole_within : Float → Float → Bool
is_whole_within most x = eq (trunc_f x) x && le (abs_f x) most

-- x, but +0 for either zero: "-0 counts as 0"
abbrev pub plus_zero : Float → Float
plus_zero x = cond (eq (abs_f x) (of_int binary64 (pos 0))) (of_int binary64 (pos 0)) x
