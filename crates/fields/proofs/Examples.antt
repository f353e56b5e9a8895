-- The outcomes at written arguments, computed by the checker: document 01's two marked rows, its corners, and each refusal in its order. A value
-- is written as its pattern. Assumes nothing.
use mathlib.Core.Bool.{Bool, true, false, ◌&&◌}
use mathlib.Core.List.{List, [], ◌∷◌, ◌++◌}
use Prim.Native.Nat.{ℕ, zero, suc, ◌/◌, ◌%◌}
use lib.Count.{ones}
use lib.Dec.{T, eqb}
use lib.Ieee.{is_nan, of_bits, to_bits, of_int, eq, le, lt, add, sub, mul, div, rem, to_unsigned, to_signed}
use Rattle.ecma262.specs.Date.{month_of, date_of, days_before}
use Rattle.float.specs.Whole.{floor_z, trunc_z}
use Rattle.float.specs.Rounding.{trunc_f, floor_f, abs_f, copysign_f, rem_euclid_f, to_integer_or_infinity, is_whole_within}
use Rattle.calendar.specs.Calendar.{day_f, time_within_day_f, day_from_year_f, time_from_year_f, year_estimate_f, year_from_time_f, day_within_year_f, in_leap_year_f, days_in_year_f, month_from_time_f, date_from_time_f, hour_from_time_f, min_from_time_f, sec_from_time_f, ms_from_time_f, wrap32}
use Rattle.make.specs.Make.{make_time_f, make_day_f, make_date_f, make_full_year_f, full_year, time_clip_f, year_of_month, month_of_year, month_start_f, day_of_month_f}
use Rattle.little_endian.specs.Bytes.{little_endian, twos_complement}
use Rattle.zone.specs.Zone.{accepts, records, record_at, is_zone_list, decides, offset_at}
use Rattle.local.specs.Local.{local_time_f, utc_f, offset_seconds_f, asked_second_f}
use Rattle.timevalue.specs.TimeValue.{time_value_of, is_time}
use Rattle.field_record.specs.FieldRecord.{has_length, has_other_bit, place_of, field_at, field_or}
use Rattle.answer.specs.declared.Refusal.{Refusal}
use Rattle.std.specs.Prelude.{Result}
use Rattle.answer.specs.Answer.{answer_of_time}
use Rattle.new_date.specs.declared.Part.{Part}
use Rattle.new_date.specs.declared.Part.TheVariants.{Milliseconds, Seconds, Minutes, Hours, Date, Month, FullYear}
use Rattle.new_date.specs.Calls.{or_zero, absent, new_date, new_date_of, value_from}
use Rattle.fields.specs.Outcome.{start_of, build_outcome, set_outcome}

-- n bytes of x, low byte first
low : ℕ → ℕ → List ℕ
low zero x = []
low (suc n) x = x % 256 ∷ low n (x / 256)

abbrev patterns : List ℕ → List ℕ
unfolding low
patterns [] = []
patterns (x ∷ xs) = low 8 x ++ patterns xs

-- a record of this map and these fields
abbrev fields_of : ℕ → List ℕ → List ℕ
fields_of map xs = map ∷ patterns xs

-- (0, 7200) (3600, 3600)
marked : List ℕ
unfolding low
marked = low 8 0 ++ low 4 7200 ++ low 8 3600 ++ low 4 3600

-- the arguments, then the number and the value
data Row : Type 0 where
  set : Part → Bool → List ℕ → ℕ → List ℕ → ℕ → ℕ → Row
  built : Bool → List ℕ → List ℕ → ℕ → ℕ → Row

abbrev is : Result ℕ Refusal → ℕ → ℕ → Bool
is r number value = eqb (answer_of_time r).number number && eqb (answer_of_time r).value value && eqb (answer_of_time r).length 0

right : Row → Bool
right (set first local zone time fields n v) = is (set_outcome first local zone time fields) n v
right (built local zone fields n v) = is (build_outcome local zone fields) n v

every : List Row → Bool
unfolding right
every [] = true
every (r ∷ rs) = right r && every rs

rows : List Row
unfolding low marked
rows =
    set Month false [] 0x4278d5cd0bc00000 (fields_of 1 (0x3ff0000000000000 ∷ [])) 0 0x4278dfc75e000000 ∷  -- document 01: month setter, 1706659200000, month 1: 1709337600000
    set FullYear false [] 0x7ff8000000000000 (fields_of 1 (0x409fa00000000000 ∷ [])) 0 0x4278cc251f400000 ∷  -- document 01: full year setter, NaN, 2024: 1704067200000
    set FullYear true marked 0xfff8000000000001 (fields_of 1 (0x409ec80000000000 ∷ [])) 0 0xc15b774000000000 ∷  -- NaN starts from 0 with no shift in; the shift out still applies: -7200000
    set Hours false [] 0x418a524800000000 (fields_of 2 (0x403e000000000000 ∷ [])) 0 0x418a9b8600000000 ∷  -- the minute alone: of 15:20 the hour remains, 15:30
    set Seconds false [] 0x419578e324000000 (fields_of 2 (0x4014000000000000 ∷ [])) 0 0x419578e334000000 ∷  -- of 01:01:01.001 the second remains
    set Minutes false [] 0x419578e324000000 (fields_of 4 (0x4014000000000000 ∷ [])) 0 0x419578e334000000 ∷  -- minute and second remain
    set Month false [] 0x419578e324000000 (fields_of 2 (0x4014000000000000 ∷ [])) 0 0x41b4d14cc9000000 ∷  -- of 2 January the month remains
    set FullYear false [] 0x4278df2292800000 (fields_of 4 (0x3ff0000000000000 ∷ [])) 0 0x4278d61f71800000 ∷  -- of 2024-02-29, date 1: year and month remain, 2024-02-01
    set Minutes true marked 0x0 (fields_of 0 []) 0 0x414b774000000000 ∷  -- locally a bare map of 0 is `utc_t` of `local_time`, here another instant
    set Milliseconds false [] 0x419578e324000000 (fields_of 0 []) 0 0x419578e324000000 ∷  -- in UTC it gives the time back
    set Date false [] 0x419578e324000000 (fields_of 0 []) 0 0x419578e324000000 ∷  -- the date remains
    set FullYear false [] 0x7ff8000000000000 (fields_of 0 []) 0 0x0 ∷  -- the full year of a NaN date is 1970
    set FullYear true marked 0x7ff8000000000000 (fields_of 0 []) 0 0xc15b774000000000 ∷  -- and locally 0 is shifted out: -7200000
    set Hours false [] 0x7ff8000000000000 (fields_of 0 []) 0 0x7ff8000000000000 ∷  -- any other setter of NaN is NaN
    set Hours false [] 0x418a524800000000 (fields_of 1 (0x7ff8000000000000 ∷ [])) 0 0x7ff8000000000000 ∷  -- a NaN first field clears the date
    set FullYear false [] 0x4278df2292800000 (fields_of 5 (0x409f9c0000000000 ∷ 0x3ff0000000000000 ∷ [])) 0 0x427860a45ec00000 ∷  -- a gap keeps its present value: of 2024-02-29, year 2023 and date 1: 2023-02-01
    set Hours true marked 0x0 (fields_of 1 (0x0 ∷ [])) 0 0xc15b774000000000 ∷  -- 02:00 local to 00:00 local: -7200000
    set Milliseconds false [] 0x8000000000000000 (fields_of 1 (0xbff8000000000000 ∷ [])) 0 0xbff0000000000000 ∷  -- -0 is 0, and -1.5 is cut to -1
    set Seconds false [] 0xbff0000000000000 (fields_of 1 (0x0 ∷ [])) 0 0xc0eccf2000000000 ∷  -- before 1970: 23:59:00.999
    set Minutes false [] 0x0 (fields_of 7 (0x3ff0000000000000 ∷ 0x4000000000000000 ∷ 0x4008000000000000 ∷ [])) 0 0x40ee466000000000 ∷  -- three arguments
    set Date false [] 0x433eb208c2dc0000 (fields_of 1 (0x402c000000000000 ∷ [])) 0 0x7ff8000000000000 ∷  -- out of range is NaN with 0
    set Date true [] 0x0 (fields_of 1 (0x3ff0000000000000 ∷ [])) 1 0x7ff8000000000000 ∷  -- no list
    set Date false [] 0x3fe0000000000000 (fields_of 3 (0x3ff0000000000000 ∷ [])) 2 0x7ff8000000000000 ∷  -- 2 before 3
    set Date false [] 0x7ff8000000000000 ([]) 3 0x7ff8000000000000 ∷  -- an empty record, of a NaN date too
    set Date false [] 0x0 (fields_of 3 (0x3ff0000000000000 ∷ [])) 3 0x7ff8000000000000 ∷  -- 3 before 4: two ones and one field
    set Date false [] 0x0 (fields_of 3 (0x3ff0000000000000 ∷ 0x3ff0000000000000 ∷ [])) 4 0x7ff8000000000000 ∷  -- date has one bit
    built false [] (fields_of 1 (0xbfe0000000000000 ∷ [])) 0 0xc280128ff1200000 ∷  -- -0.5 gives 1900
    built false [] (fields_of 127 (0x409fa00000000000 ∷ 0x3ff0000000000000 ∷ 0x403d000000000000 ∷ 0x4028000000000000 ∷ 0x0 ∷ 0x0 ∷ 0x0 ∷ [])) 0 0x4278df4bc5600000 ∷  -- all seven: 2024-02-29T12:00:00Z
    built false [] (fields_of 2 (0x3ff0000000000000 ∷ [])) 0 0x7ff8000000000000 ∷  -- no year is NaN
    built true marked (fields_of 3 (0x409ec80000000000 ∷ 0x0 ∷ [])) 0 0xc15b774000000000 ∷  -- a local year and month
    built true [] [] 1 0x7ff8000000000000 ∷  -- 1 before 3
    built false [] (fields_of 128 (0x3ff0000000000000 ∷ [])) 4 0x7ff8000000000000 ∷  -- the builder has seven bits
    []

outcomes-right : T (every rows)
unfolding set_outcome build_outcome start_of value_from new_date_of new_date absent or_zero field_or field_at place_of has_length has_other_bit little_endian ones time_value_of is_time is_whole_within is_nan of_bits to_bits of_int eq le lt add sub mul div rem to_unsigned to_signed trunc_f floor_f abs_f copysign_f rem_euclid_f to_integer_or_infinity floor_z trunc_z make_time_f make_day_f make_date_f make_full_year_f full_year time_clip_f year_of_month month_of_year month_start_f day_of_month_f day_f time_within_day_f day_from_year_f time_from_year_f year_estimate_f year_from_time_f day_within_year_f in_leap_year_f days_in_year_f month_from_time_f date_from_time_f hour_from_time_f min_from_time_f sec_from_time_f ms_from_time_f wrap32 month_of date_of days_before accepts records record_at twos_complement is_zone_list decides offset_at local_time_f utc_f offset_seconds_f asked_second_f marked low right every rows
outcomes-right = tt
