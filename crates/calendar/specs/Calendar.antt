-- The calendar of builtins/date/utils.rs on f64: the original's operations in its order, each rounded once, for every value. What they are
-- on whole numbers, ECMA-262's calendar, are laws (proofs/Whole.antt). Definitions only. Assumes nothing.
use Rattle.std.specs.Prelude.{Bool, cond, ℕ, ◌%◌, eqb, ℤ, pos, nat_abs, ◌+ℤ◌, ◌-ℤ◌, Float}
use Rattle.std.specs.Float.{binary64}
use Rattle.std.specs.Float.Ieee.{add, sub, mul, div, lt, eq, of_int, to_unsigned, to_signed}
use Rattle.integers.specs.Whole.{floor_mod}
use Rattle.ecma262.specs.Date.{month_of, date_of}
use Rattle.float.specs.Rounding.{floor_f, rem_euclid_f}

-- a whole number as an f64
abbrev pub num : ℕ → Float
num n = of_int binary64 (pos n)

-- (t / MS_PER_DAY).floor()
unfoldable pub day_f : Float → Float
day_f t = floor_f (div binary64 t (num 86_400_000))

-- t.rem_euclid(MS_PER_DAY)
unfoldable pub time_within_day_f : Float → Float
time_within_day_f t = rem_euclid_f t (num 86_400_000)

-- whether y.rem_euclid(n) == 0.0
abbrev pub divides : ℕ → Float → Bool
divides n y = eq (rem_euclid_f y (num n)) (num 0)

-- 366 where 400 divides y; 365 where 100 does; 366 where 4 does; else 365
unfoldable pub days_in_year_f : Float → ℕ
days_in_year_f y = cond (divides 400 y) 366 (cond (divides 100 y) 365 (cond (divides 4 y) 366 365))

-- ((y - from) / n).floor()
abbrev pub years_by : ℕ → ℕ → Float → Float
years_by n from y = floor_f (div binary64 (sub binary64 y (num from)) (num n))

-- 365.0 * num_years_1 + num_years_4 - num_years_100 + num_years_400
unfoldable pub day_from_year_f : Float → Float
day_from_year_f y =
    add binary64 (sub binary64 (add binary64 (mul binary64 (num 365) (sub binary64 y (num 1970))) (years_by 4 1969 y)) (years_by 100 1901 y)) (years_by 400 1601 y)

-- MS_PER_DAY * day_from_year(y)
unfoldable pub time_from_year_f : Float → Float
time_from_year_f y = mul binary64 (num 86_400_000) (day_from_year_f y)

-- an i32 from a sum or a difference that may leave its range: modulo 2^32, as the original's release build has it
unfoldable pub wrap32 : ℤ → ℤ
wrap32 z = pos (floor_mod (z +ℤ pos 2_147_483_648) 4_294_967_296) -ℤ pos 2_147_483_648

-- ((t + MS_PER_AVERAGE_YEAR / 2.0) / MS_PER_AVERAGE_YEAR).floor() as i32 + 1970, the mean year being 365.2425 days, 31,556,952,000 ms
unfoldable pub year_estimate_f : Float → ℤ
year_estimate_f t = wrap32 (to_signed 31 (floor_f (div binary64 (add binary64 t (num 15_778_476_000)) (num 31_556_952_000))) +ℤ pos 1970)

-- the estimate, less 1 where time_from_year of it > t
unfoldable pub year_from_time_f : Float → ℤ
year_from_time_f t = cond (lt t (time_from_year_f (of_int binary64 (year_estimate_f t)))) (wrap32 (year_estimate_f t -ℤ pos 1)) (year_estimate_f t)

-- (day(t) - day_from_year(year.into())) as u16
abbrev pub day_within_f : ℤ → Float → ℕ
day_within_f year t = to_unsigned 16 (sub binary64 (day_f t) (day_from_year_f (of_int binary64 year)))

-- of the year of t
unfoldable pub day_within_year_f : Float → ℕ
day_within_year_f t = day_within_f (year_from_time_f t) t

-- 1 where days_in_year(year.into()) == 366, else 0
abbrev pub leap_f : ℤ → ℕ
leap_f year = cond (eqb (days_in_year_f (of_int binary64 year)) 366) 1 0

-- of the year of t
unfoldable pub in_leap_year_f : Float → ℕ
in_leap_year_f t = leap_f (year_from_time_f t)

-- the month by the standard's steps
unfoldable pub month_from_time_f : Float → ℕ
month_from_time_f t = month_of (in_leap_year_f t) (pos (day_within_year_f t))

-- the date by the standard's steps, and its low 8 bits, as u8
unfoldable pub date_from_time_f : Float → ℕ
date_from_time_f t = nat_abs (date_of (in_leap_year_f t) (pos (day_within_year_f t)) (month_from_time_f t)) % 256

-- (day(t) + 4.0).rem_euclid(7.0) as u8
unfoldable pub week_day_f : Float → ℕ
week_day_f t = to_unsigned 8 (rem_euclid_f (add binary64 (day_f t) (num 4)) (num 7))

-- (t / unit).floor().rem_euclid(count) as u8
abbrev pub clock_f : ℕ → ℕ → Float → ℕ
clock_f unit count t = to_unsigned 8 (rem_euclid_f (floor_f (div binary64 t (num unit))) (num count))

unfoldable pub hour_from_time_f : Float → ℕ
hour_from_time_f t = clock_f 3_600_000 24 t

unfoldable pub min_from_time_f : Float → ℕ
min_from_time_f t = clock_f 60_000 60 t

unfoldable pub sec_from_time_f : Float → ℕ
sec_from_time_f t = clock_f 1_000 60 t

-- t.rem_euclid(MS_PER_SECOND) as u16
unfoldable pub ms_from_time_f : Float → ℕ
ms_from_time_f t = to_unsigned 16 (rem_euclid_f t (num 1_000))

-- ---- what the code counts
-- the year that is counted as n, from 1,199,999 back
abbrev pub year_counted : ℕ → ℤ
year_counted n = pos n -ℤ pos 1_199_999
