-- The definitions at written times, computed by the checker. Each row's answers are those of the original's Rust, compiled and run over a hook that looks its
-- list up. A time is written as its pattern. Assumes nothing.
use mathlib.Core.Path.{◌≡◌, refl}
use mathlib.Core.Bool.{Bool, true, ◌&&◌}
use mathlib.Core.List.{List, [], ◌∷◌}
use Prim.Native.Nat.{ℕ}
use lib.Dec.{T, eqb}
use lib.IntN.{ℤ, pos, negsuc}
use lib.Ieee.{Float, binary64, of_bits, to_bits, of_int, add, sub, mul, div, rem, lt, to_signed}
use Rattle.float.specs.Rounding.{abs_f, rem_euclid_f}
use Rattle.float.proofs.Order.{eq_z}
use Rattle.zone.specs.Zone.{Record, decides, offset_at}
use Rattle.local.specs.Local.{asked_second, offset_of_instant, offset_of_local, offset_of_suffix, local_time, utc_time, asked_second_f, offset_seconds_f, local_time_f, utc_f}

-- document 01's (0, 7200) (3600, 3600); records before 1970; the ends of 64 bits
marked : List Record
marked = record { second = pos 0; offset = pos 7200 } ∷ record { second = pos 3600; offset = pos 3600 } ∷ []

before : List Record
before = record { second = negsuc 4; offset = negsuc 99 } ∷ record { second = negsuc 0; offset = pos 10 } ∷ record { second = pos 0; offset = pos 20 } ∷ []

ends : List Record
ends = record { second = negsuc 9223372036854775807; offset = negsuc 86398 } ∷ record { second = pos 9223372036854775807; offset = pos 86399 } ∷ []

-- "local of 0 .. `Thu Jan 01 1970 02:00:00 GMT+0100`": two hours on, and the suffix of the local time's second. That local time is read back as 3,600,000:
-- the standard's search would find 0.
marked-times :
    (local_time marked (pos 0) ≡ pos 7200000) × (offset_of_suffix marked (pos 7200000) ≡ pos 3600)
    × (utc_time marked (pos 7200000) ≡ pos 3600000) × (local_time marked (negsuc 0) ≡ pos 7199999)
unfolding marked asked_second offset_of_instant offset_of_local offset_of_suffix local_time utc_time decides offset_at
marked-times = (refl, refl, refl, refl)

-- the second before 1970 is rounded down: -1 ms lies in second -1
before-1970 : (asked_second (negsuc 0) ≡ negsuc 0) × (asked_second (negsuc 999) ≡ negsuc 0) × (asked_second (negsuc 1000) ≡ negsuc 1) × (asked_second (pos 999) ≡ pos 0)
unfolding asked_second
before-1970 = (refl, refl, refl, refl)

-- a list and a time, then the offset, the local time and the instant of the time read as local
data Row : Type 0 where
  row : List Record → ℕ → ℤ → ℕ → ℕ → Row

-- x has the pattern b
abbrev is : Float → ℕ → Bool
is x b = eqb (to_bits binary64 x) b

right : Row → Bool
right (row list t o l u) =
    let x = of_bits binary64 t in
    eq_z (offset_seconds_f list x) o && is (local_time_f list x) l && is (utc_f list x) u

every : List Row → Bool
unfolding right
every [] = true
every (r ∷ rs) = right r && every rs

rows : List Row
rows =
    row marked 0x0000000000000000 (pos 7200) 0x415b774000000000 0xc15b774000000000 ∷  -- 0.0: 7200, 7200000.0, -7200000.0
    row marked 0x414b773f80000000 (pos 7200) 0x4164996fe0000000 0xc14b774080000000 ∷  -- 3599999.0: 7200, 10799999.0, -3600001.0
    row marked 0x414b774000000000 (pos 3600) 0x415b774000000000 0x0000000000000000 ∷  -- 3600000.0: 3600, 7200000.0, 0.0
    row marked 0x415b774000000000 (pos 3600) 0x4164997000000000 0x414b774000000000 ∷  -- 7200000.0: 3600, 10800000.0, 3600000.0
    row marked 0xbff0000000000000 (pos 7200) 0x415b773fc0000000 0xc15b774040000000 ∷  -- -1.0: 7200, 7199999.0, -7200001.0
    row marked 0xc08f400000000000 (pos 7200) 0x415b764600000000 0xc15b783a00000000 ∷  -- -1000.0: 7200, 7199000.0, -7201000.0
    row marked 0x414b773fc0000000 (pos 7200) 0x4164996ff0000000 0xc14b774040000000 ∷  -- 3599999.5: 7200, 10799999.5, -3600000.5
    row marked 0x433eb208c2dc0000 (pos 3600) 0x433eb208c312ee80 0x433eb208c2a51180 ∷  -- 8640000000000000.0: 3600, 8640000003600000.0, 8639999996400000.0
    row marked 0xc33eb208c2dc0000 (pos 7200) 0xc33eb208c26e2300 0xc33eb208c349dd00 ∷  -- -8640000000000000.0: 7200, -8639999992800000.0, -8640000007200000.0
    row marked 0x7ff8000000000000 (pos 7200) 0x7ff8000000000000 0x7ff8000000000000 ∷  -- nan: 7200, nan, nan
    row marked 0x7ff0000000000000 (pos 7200) 0x7ff0000000000000 0x7ff8000000000000 ∷  -- inf: 7200, inf, nan
    row marked 0xfff0000000000000 (pos 7200) 0xfff0000000000000 0x7ff8000000000000 ∷  -- -inf: 7200, -inf, nan
    row before 0xbff0000000000000 (pos 10) 0x40c3878000000000 0xc0c3888000000000 ∷  -- -1.0: 10, 9999.0, -10001.0
    row before 0xc08f380000000000 (pos 10) 0x40c1948000000000 0xc0c57b8000000000 ∷  -- -999.0: 10, 9001.0, -10999.0
    row before 0xc08f400000000000 (pos 10) 0x40c1940000000000 0xc0c57c0000000000 ∷  -- -1000.0: 10, 9000.0, -11000.0
    row before 0xc08f480000000000 (negsuc 99) 0xc0f8a89000000000 0x40f82b7000000000 ∷  -- -1001.0: -100, -101001.0, 98999.0
    row before 0xbfe0000000000000 (pos 10) 0x40c387c000000000 0xc0c3884000000000 ∷  -- -0.5: 10, 9999.5, -10000.5
    row before 0xc0b3890000000000 (negsuc 99) 0xc0f9a29000000000 0x40f7317000000000 ∷  -- -5001.0: -100, -105001.0, 94999.0
    row before 0x0000000000000000 (pos 20) 0x40d3880000000000 0xc0d3880000000000 ∷  -- 0.0: 20, 20000.0, -20000.0
    row ends 0x0000000000000000 (negsuc 86398) 0xc194996060000000 0x4194996060000000 ∷  -- 0.0: -86399, -86399000.0, 86399000.0
    row ends 0x447f8276d367cfcd (pos 86399) 0x447f8276d367d01f 0x447f8276d367cf7b ∷  -- 9.3e+21: 86399, 9.300000000000086e+21, 9.299999999999914e+21
    row ends 0xc47f8276d367cfcd (negsuc 86398) 0xc47f8276d367d01f 0xc47f8276d367cf7b ∷  -- -9.3e+21: -86399, -9.300000000000086e+21, -9.299999999999914e+21
    row ends 0x7e37e43c8800759c (pos 86399) 0x7e37e43c8800759c 0x7e37e43c8800759c ∷  -- 1e+300: 86399, 1e+300, 1e+300
    row ends 0xfe37e43c8800759c (negsuc 86398) 0xfe37e43c8800759c 0xfe37e43c8800759c ∷  -- -1e+300: -86399, -1e+300, -1e+300
    row ends 0x433ff973cafa7fff (negsuc 86398) 0x433ff973c5d427e7 0x433ff973d020d817 ∷  -- 8999999999999999.0: -86399, 8999999913600999.0, 9000000086398999.0
    row ends 0xc33ff973cafa7fff (negsuc 86398) 0xc33ff973d020d817 0xc33ff973c5d427e7 ∷  -- -8999999999999999.0: -86399, -9000000086398999.0, -8999999913600999.0
    row ends 0x447f3fffffffffff (negsuc 86398) 0x447f3fffffffffad 0x447f400000000051 ∷  -- 9.223372036854775e+21: -86399, 9.223372036854689e+21, 9.223372036854861e+21
    row ends 0x7ff8000000000000 (negsuc 86398) 0x7ff8000000000000 0x7ff8000000000000 ∷  -- nan: -86399, nan, nan
    []

rows_right : T (every rows)
unfolding right every rows marked before ends decides offset_at asked_second_f offset_seconds_f local_time_f utc_f abs_f rem_euclid_f of_bits to_bits of_int add sub mul div rem lt to_signed
rows_right = tt
