-- The makers of builtins/date/utils.rs on f64: the original's operations in its order, each rounded once, for every value. What they are
-- in the exact domain, ECMA-262's makers in whole numbers, are laws (proofs/Exact.antt, proofs/Clip.antt). Definitions only. Assumes nothing.
use Rattle.std.specs.Prelude.{◌≡◌, cond, ◌&&◌, ℕ, T, ltb, ℤ, Float}
use Rattle.std.proofs.Math.Option.{Option, some, none}
use Rattle.std.specs.Float.{nan, binary64}
use Rattle.std.specs.Float.Ieee.{fits, add, sub, mul, div, lt, le, is_nan, of_int, to_unsigned}
use Rattle.std.specs.Float.Ieee.Scale.{finite}
use Rattle.ecma262.specs.Date.{days_before, InRange}
use Rattle.float.specs.Whole.{trunc_z}
use Rattle.float.specs.Rounding.{floor_f, trunc_f, abs_f, copysign_f, rem_euclid_f, to_integer_or_infinity, plus_zero}
use Rattle.calendar.specs.Calendar.{num, day_f, day_from_year_f}

-- x.abs().floor().copysign(x), as the makers cut a field
abbrev pub whole_part : Float → Float
whole_part x = copysign_f (floor_f (abs_f x)) x

-- ((h * MS_PER_HOUR + m * MS_PER_MINUTE) + s * MS_PER_SECOND) + milli
abbrev pub join_time : Float → Float → Float → Float → Float
join_time h m s milli =
    add binary64 (add binary64 (add binary64 (mul binary64 h (num 3_600_000)) (mul binary64 m (num 60_000))) (mul binary64 s (num 1_000))) milli

-- NaN unless every argument is finite; else their whole parts joined
unfoldable pub make_time_f : Float → Float → Float → Float → Float
make_time_f hour min sec ms =
    cond (finite hour && finite min && finite sec && finite ms) (join_time (whole_part hour) (whole_part min) (whole_part sec) (whole_part ms)) nan

-- y + (m / 12.0).floor()
unfoldable pub year_of_month : Float → Float → Float
year_of_month y m = add binary64 y (floor_f (div binary64 m (num 12)))

-- m.rem_euclid(12.0) as u8
unfoldable pub month_of_year : Float → ℕ
month_of_year m = to_unsigned 8 (rem_euclid_f m (num 12))

-- 1 for a month past February, else 0
abbrev pub rest : ℕ → ℕ
rest mn = cond (ltb 1 mn) 1 0

-- (day_from_year(ym + rest) - 365.0 * rest + days_within_year_to_end_of_month) * MS_PER_DAY, by the common year's row
unfoldable pub month_start_f : Float → ℕ → Float
month_start_f ym mn =
    let toMonth = sub binary64 (day_from_year_f (add binary64 ym (num (rest mn)))) (mul binary64 (num 365) (num (rest mn))) in
    mul binary64 (add binary64 toMonth (num (days_before 0 mn))) (num 86_400_000)

-- day(t) + dt - 1.0, of the month's start t; NaN where the year ym is not finite
unfoldable pub day_of_month_f : Float → ℕ → Float → Float
day_of_month_f ym mn dt = cond (finite ym) (sub binary64 (add binary64 (day_f (month_start_f ym mn)) dt) (num 1)) nan

-- NaN unless every argument is finite; else, of their whole parts, by the year after the month's carry, the month and the date
unfoldable pub make_day_f : Float → Float → Float → Float
make_day_f year month date =
    cond (finite year && finite month && finite date)
    (day_of_month_f (year_of_month (whole_part year) (whole_part month)) (month_of_year (whole_part month)) (whole_part date)) nan

-- x, but NaN where x is not finite
abbrev pub if_finite : Float → Float
if_finite x = cond (finite x) x nan

-- NaN unless both are finite; else day * MS_PER_DAY + time, and NaN where that is not finite
unfoldable pub make_date_f : Float → Float → Float
make_date_f day time = cond (finite day && finite time) (if_finite (add binary64 (mul binary64 day (num 86_400_000)) time)) nan

-- 1900 + i for a whole i from 0 to 99, else i
unfoldable pub full_year : Float → Float
full_year i = cond (le (num 0) i && le i (num 99)) (add binary64 (num 1900) i) i

-- "ECMA-262's ToIntegerOrInfinity defines it": NaN for NaN; else by ToIntegerOrInfinity(year)
unfoldable pub make_full_year_f : Float → Float
make_full_year_f year = cond (is_nan year) nan (full_year (to_integer_or_infinity year))

-- "not finite or beyond the range gives NaN; below 1 in magnitude gives +0. It tests first and truncates after."
unfoldable pub time_clip_f : Float → Float
time_clip_f time = cond (finite time) (cond (lt (num 8_640_000_000_000_000) (abs_f time)) nan (plus_zero (trunc_f time))) nan

-- ---- what the laws speak of

-- "fields finite and truncated": x is a finite f64, and z is its value without its fraction
pub record IsField (x : Float) (z : ℤ) : Type 0 where
  pub format : T (fits binary64 x)
  pub number : T (finite x)
  pub cut : trunc_z x ≡ z

-- The f64 of a clipped time: NaN where TimeClip gives no value. The f64 of 0 is +0.
abbrev pub time_value : Option ℤ → Float
time_value none = nan
time_value (some z) = of_int binary64 z

-- "a time value is NaN or a whole number in the range", and never -0
pub data IsTimeValue : Float → Type 0 where
  no-time : IsTimeValue nan
  time : (z : ℤ) → InRange z → IsTimeValue (of_int binary64 z)
