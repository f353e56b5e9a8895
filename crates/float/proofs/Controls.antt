-- The definitions at written values, computed: each row's answers are those of another program (Python's math.floor, math.trunc, math.fmod and int). A value
-- is written as its pattern. Assumes nothing.
use Rattle.std.proofs.Common.{ℕ, Bool, true, ◌&&◌, T, eqb, List, [], ◌∷◌, ℤ, pos, negsuc}
use lib.Ieee.{Float, binary64, of_bits, to_bits, to_unsigned, to_signed, add, rem, lt, of_int}
use Rattle.float.specs.Whole.{floor_z, trunc_z}
use Rattle.float.specs.Rounding.{trunc_f, floor_f, abs_f, copysign_f, rem_euclid_f, to_integer_or_infinity}
use Rattle.float.proofs.Order.{eq_z}

-- a value, and what each definition gives
data Row : Type 0 where
  rounds : ℕ → ℕ → ℕ → ℕ → Row
  rem-euclid : ℕ → ℕ → ℕ → Row
  copysign : ℕ → ℕ → ℕ → Row
  integer : ℕ → ℕ → Row
  cast : ℕ → ℕ → ℕ → ℤ → ℤ → Row

-- x has the pattern b
abbrev is : Float → ℕ → Bool
is x b = eqb (to_bits binary64 x) b

right : Row → Bool
right (rounds x f t a) = is (floor_f (of_bits binary64 x)) f && is (trunc_f (of_bits binary64 x)) t && is (abs_f (of_bits binary64 x)) a
right (rem-euclid x y r) = is (rem_euclid_f (of_bits binary64 x) (of_bits binary64 y)) r
right (copysign x y r) = is (copysign_f (of_bits binary64 x) (of_bits binary64 y)) r
right (integer x r) = is (to_integer_or_infinity (of_bits binary64 x)) r
right (cast x b w i l) = let v = of_bits binary64 x in eqb (to_unsigned 8 v) b && eqb (to_unsigned 16 v) w && eq_z (to_signed 31 v) i && eq_z (to_signed 63 v) l

every : List Row → Bool
unfolding right
every [] = true
every (r ∷ rs) = right r && every rs

-- x, then its floor, its whole part and its magnitude
rounded : List Row
rounded =
    rounds 0x0000000000000000 0x0000000000000000 0x0000000000000000 0x0000000000000000 ∷  -- 0.0
    rounds 0x8000000000000000 0x8000000000000000 0x8000000000000000 0x0000000000000000 ∷  -- -0.0
    rounds 0x3fe0000000000000 0x0000000000000000 0x0000000000000000 0x3fe0000000000000 ∷  -- 0.5
    rounds 0xbfe0000000000000 0xbff0000000000000 0x8000000000000000 0x3fe0000000000000 ∷  -- -0.5
    rounds 0x3ff8000000000000 0x3ff0000000000000 0x3ff0000000000000 0x3ff8000000000000 ∷  -- 1.5
    rounds 0xbff8000000000000 0xc000000000000000 0xbff0000000000000 0x3ff8000000000000 ∷  -- -1.5
    rounds 0xc000000000000000 0xc000000000000000 0xc000000000000000 0x4000000000000000 ∷  -- -2.0
    rounds 0x4007ffffffffffff 0x4000000000000000 0x4000000000000000 0x4007ffffffffffff ∷  -- 2.9999999999999996
    rounds 0x8000000000000001 0xbff0000000000000 0x8000000000000000 0x0000000000000001 ∷  -- -5e-324
    rounds 0x0000000000000001 0x0000000000000000 0x0000000000000000 0x0000000000000001 ∷  -- 5e-324
    rounds 0xc32fffffffffffff 0xc330000000000000 0xc32ffffffffffffe 0x432fffffffffffff ∷  -- -4503599627370495.5
    rounds 0x432fffffffffffff 0x432ffffffffffffe 0x432ffffffffffffe 0x432fffffffffffff ∷  -- 4503599627370495.5
    rounds 0xc33fffffffffffff 0xc33fffffffffffff 0xc33fffffffffffff 0x433fffffffffffff ∷  -- -9007199254740991.0
    rounds 0x7e37e43c8800759c 0x7e37e43c8800759c 0x7e37e43c8800759c 0x7e37e43c8800759c ∷  -- 1e+300
    rounds 0xfe37e43c8800759c 0xfe37e43c8800759c 0xfe37e43c8800759c 0x7e37e43c8800759c ∷  -- -1e+300
    rounds 0x7fefffffffffffff 0x7fefffffffffffff 0x7fefffffffffffff 0x7fefffffffffffff ∷  -- 1.7976931348623157e+308
    rounds 0x7ff0000000000000 0x7ff0000000000000 0x7ff0000000000000 0x7ff0000000000000 ∷  -- inf
    rounds 0xfff0000000000000 0xfff0000000000000 0xfff0000000000000 0x7ff0000000000000 ∷  -- -inf
    rounds 0xc33eb208c2dc0000 0xc33eb208c2dc0000 0xc33eb208c2dc0000 0x433eb208c2dc0000 ∷  -- -8640000000000000.0
    rounds 0xbff0000000000001 0xc000000000000000 0xbff0000000000000 0x3ff0000000000001 ∷  -- -1.0000000000000002
    rounds 0xbfefffffffffffff 0xbff0000000000000 0x8000000000000000 0x3fefffffffffffff ∷  -- -0.9999999999999999
    rounds 0xfff8000000000001 0x7ff8000000000000 0x7ff8000000000000 0x7ff8000000000000 ∷  -- a NaN
    []

-- x, y, then x.rem_euclid(y)
remainders : List Row
remainders =
    rem-euclid 0xbff0000000000000 0x401c000000000000 0x4018000000000000 ∷  -- -1.0 by 7.0
    rem-euclid 0xc02c000000000000 0x401c000000000000 0x8000000000000000 ∷  -- -14.0 by 7.0
    rem-euclid 0x402e000000000000 0x401c000000000000 0x3ff0000000000000 ∷  -- 15.0 by 7.0
    rem-euclid 0x402c000000000000 0xc01c000000000000 0x0000000000000000 ∷  -- 14.0 by -7.0
    rem-euclid 0xbff0000000000000 0xc01c000000000000 0x4018000000000000 ∷  -- -1.0 by -7.0
    rem-euclid 0x8000000000000000 0x401c000000000000 0x8000000000000000 ∷  -- -0.0 by 7.0
    rem-euclid 0x4016000000000000 0x4000000000000000 0x3ff8000000000000 ∷  -- 5.5 by 2.0
    rem-euclid 0xc016000000000000 0x4000000000000000 0x3fe0000000000000 ∷  -- -5.5 by 2.0
    rem-euclid 0xbff0000000000000 0x4194997000000000 0x4194996ffc000000 ∷  -- -1.0 by 86400000.0
    rem-euclid 0x8000000000000001 0x4008000000000000 0x4008000000000000 ∷  -- -5e-324 by 3.0
    rem-euclid 0x7e37e43c8800759c 0x401c000000000000 0x3ff0000000000000 ∷  -- 1e+300 by 7.0
    rem-euclid 0xc33eb208c2dc0000 0x408f400000000000 0x8000000000000000 ∷  -- -8640000000000000.0 by 1000.0
    rem-euclid 0x4008000000000000 0x7ff0000000000000 0x4008000000000000 ∷  -- 3.0 by inf
    rem-euclid 0x3ff0000000000000 0x0000000000000000 0x7ff8000000000000 ∷  -- 1.0 by 0.0
    rem-euclid 0x7ff0000000000000 0x4000000000000000 0x7ff8000000000000 ∷  -- inf by 2.0
    rem-euclid 0xc008000000000000 0xfff0000000000000 0x7ff0000000000000 ∷  -- -3.0 by -inf
    rem-euclid 0x7ff8000000000000 0x4000000000000000 0x7ff8000000000000 ∷  -- NaN by 2.0
    []

-- x, y, then x.copysign(y). A NaN has no sign here.
signs : List Row
signs =
    copysign 0x3ff8000000000000 0x8000000000000000 0xbff8000000000000 ∷  -- 1.5, -0.0
    copysign 0xbff8000000000000 0x4000000000000000 0x3ff8000000000000 ∷  -- -1.5, 2.0
    copysign 0x0000000000000000 0xfff0000000000000 0x8000000000000000 ∷  -- 0.0, -inf
    copysign 0xfff0000000000000 0x3ff0000000000000 0x7ff0000000000000 ∷  -- -inf, 1.0
    copysign 0xc000000000000000 0xfff8000000000000 0x4000000000000000 ∷  -- -2.0, a NaN
    []

-- x, then ToIntegerOrInfinity of it
integers : List Row
integers =
    integer 0x8000000000000000 0x0000000000000000 ∷  -- -0.0
    integer 0xbfe0000000000000 0x0000000000000000 ∷  -- -0.5
    integer 0x3feff7ced916872b 0x0000000000000000 ∷  -- 0.999
    integer 0xbff8000000000000 0xbff0000000000000 ∷  -- -1.5
    integer 0x7e37e43c8800759c 0x7e37e43c8800759c ∷  -- 1e+300
    integer 0x7ff0000000000000 0x7ff0000000000000 ∷  -- inf
    integer 0xfff0000000000000 0xfff0000000000000 ∷  -- -inf
    integer 0x7ff8000000000000 0x0000000000000000 ∷  -- NaN
    []

-- x, then x as u8, as u16, as i32, as i64
casts : List Row
casts =
    cast 0x4072c00000000000 255 300 (pos 300) (pos 300) ∷  -- 300.0
    cast 0xbff0000000000000 0 0 (negsuc 0) (negsuc 0) ∷  -- -1.0
    cast 0x8000000000000000 0 0 (pos 0) (pos 0) ∷  -- -0.0
    cast 0xbfe0000000000000 0 0 (pos 0) (pos 0) ∷  -- -0.5
    cast 0x406ffccccccccccd 255 255 (pos 255) (pos 255) ∷  -- 255.9
    cast 0x40effff000000000 255 65535 (pos 65535) (pos 65535) ∷  -- 65535.5
    cast 0x40f0000000000000 255 65535 (pos 65536) (pos 65536) ∷  -- 65536.0
    cast 0x41e0000000000000 255 65535 (pos 2147483647) (pos 2147483648) ∷  -- 2147483648.0
    cast 0xc1e0000000200000 0 0 (negsuc 2147483647) (negsuc 2147483648) ∷  -- -2147483649.0
    cast 0x43e02207973f6440 255 65535 (pos 2147483647) (pos 9223372036854775807) ∷  -- 9.3e+18
    cast 0xc3e02207973f6440 0 0 (negsuc 2147483647) (negsuc 9223372036854775807) ∷  -- -9.3e+18
    cast 0x4340000000000001 255 65535 (pos 2147483647) (pos 9007199254740994) ∷  -- 9007199254740994.0
    cast 0x7e37e43c8800759c 255 65535 (pos 2147483647) (pos 9223372036854775807) ∷  -- 1e+300
    cast 0xfe37e43c8800759c 0 0 (negsuc 2147483647) (negsuc 9223372036854775807) ∷  -- -1e+300
    cast 0x7ff0000000000000 255 65535 (pos 2147483647) (pos 9223372036854775807) ∷  -- inf
    cast 0xfff0000000000000 0 0 (negsuc 2147483647) (negsuc 9223372036854775807) ∷  -- -inf
    cast 0x7ff8000000000000 0 0 (pos 0) (pos 0) ∷  -- nan
    []

computed : T (every rounded) × T (every remainders) × T (every signs) × T (every integers) × T (every casts)
unfolding every rounded remainders signs integers casts floor_f floor_z trunc_f trunc_z abs_f copysign_f rem_euclid_f to_integer_or_infinity to_unsigned to_signed to_bits of_bits of_int rem add lt
computed = (tt, tt, tt, tt, tt)
