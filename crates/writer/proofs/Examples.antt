-- Whole outcomes at written bits, lists and outputs, computed by the checker: document 01's marked rows of the writers, and the order of the
-- refusals. The texts are 01's own; a time is written as its pattern. Assumes nothing.
use mathlib.Core.Path.{◌≡◌, refl}
use mathlib.Core.List.{List, [], ◌∷◌, ◌++◌}
use Prim.Native.Nat.{ℕ, ◌-◌}
use lib.ListN.{replicate}
use lib.Ieee.{of_bits, to_bits, of_int, eq, le, is_nan}
use Rattle.ecma262.specs.Date.{days_in_year, day_from_year, year_from_time, month_of, date_of, days_before}
use Rattle.ecma262.specs.Texts.{ascii, iso_year, day_name, month_name, padded_year, year_sign, offset_sign}
use Rattle.float.specs.Whole.{trunc_z}
use Rattle.float.specs.Rounding.{trunc_f, abs_f, is_whole_within}
use Rattle.little_endian.specs.Bytes.{little_endian, twos_complement}
use Rattle.zone.specs.Zone.{record_at, records, is_zone_list, accepts, decides, offset_at}
use Rattle.local.specs.Local.{asked_second, offset_of_instant, offset_of_suffix, local_time}
use Rattle.timevalue.specs.TimeValue.{is_time, time_value_of}
use Rattle.answer.specs.Answer.{nan_value, text_reply}
use Rattle.answer.specs.declared.Refusal.TheVariants.{ZoneList, TimeValue, NoTime, Output}
use Rattle.writer.specs.Outcome.{Outcome, refused, written}
use Rattle.writer.specs.Writer.{iso_outcome, utc_outcome, local_outcome}

-- an output of 40 bytes with the text in front
wrote : ℕ → List ℕ → ℕ → Outcome
wrote value text n = record { reply = text_reply value n; output = text ++ replicate (40 - n) 126 }

blank : ℕ → List ℕ
blank n = replicate n 126

-- -62167219200001, the last millisecond of year -1
before-year-0 :
    (iso_outcome 0xC2CC_4537_8230_0080 (blank 40) ≡ wrote 0xC2CC_4537_8230_0080 (ascii "-000001-12-31T23:59:59.999Z") 27)
    × (utc_outcome 0xC2CC_4537_8230_0080 (blank 40) ≡ wrote 0xC2CC_4537_8230_0080 (ascii "Fri, 31 Dec -0001 23:59:59 GMT") 30)
unfolding iso_outcome utc_outcome written wrote blank time_value_of is_time is_whole_within of_bits to_bits of_int eq le is_nan trunc_f trunc_z abs_f iso_year day_name month_name padded_year year_sign year_from_time day_from_year days_in_year month_of date_of days_before
before-year-0 = (refl, refl)

-- "local of 0, list (0, 7200) (3600, 3600)": the clock is two hours on, and the suffix that of the local time; 7200 is 0x1C20, and 3600 is 0x0E10
list : List ℕ
list = 0 ∷ 0 ∷ 0 ∷ 0 ∷ 0 ∷ 0 ∷ 0 ∷ 0 ∷ 0x20 ∷ 0x1C ∷ 0 ∷ 0 ∷ 0x10 ∷ 0x0E ∷ 0 ∷ 0 ∷ 0 ∷ 0 ∷ 0 ∷ 0 ∷ 0x10 ∷ 0x0E ∷ 0 ∷ 0 ∷ []

local-of-0 : local_outcome list 0 (blank 40) ≡ wrote 0 (ascii "Thu Jan 01 1970 02:00:00 GMT+0100") 33
unfolding local_outcome written wrote blank list time_value_of is_time is_whole_within of_bits to_bits of_int eq le is_nan trunc_f trunc_z abs_f day_name month_name padded_year year_sign offset_sign year_from_time day_from_year days_in_year month_of date_of days_before records record_at little_endian twos_complement is_zone_list accepts decides offset_at asked_second offset_of_instant offset_of_suffix local_time
local-of-0 = refl

-- -0 is answered as 0, and a text has room in an output of its own length, but not in one that is a byte shorter
zero :
    (iso_outcome 0x8000_0000_0000_0000 (blank 24) ≡ record { reply = text_reply 0 24; output = ascii "1970-01-01T00:00:00.000Z" })
    × (iso_outcome 0 (blank 23) ≡ refused Output (blank 23))
unfolding iso_outcome written blank time_value_of is_time is_whole_within of_bits to_bits of_int eq le is_nan trunc_f trunc_z abs_f iso_year year_from_time day_from_year days_in_year month_of date_of days_before
zero = (refl, refl)

-- NaN, by another of its patterns
nan-texts :
    (iso_outcome 0xFFF8_0000_0000_0000 (blank 40) ≡ refused NoTime (blank 40))
    × (utc_outcome 0xFFF8_0000_0000_0000 (blank 40) ≡ wrote nan_value (ascii "Invalid Date") 12)
    × (local_outcome list 0xFFF8_0000_0000_0000 (blank 40) ≡ wrote nan_value (ascii "Invalid Date") 12)
unfolding iso_outcome utc_outcome local_outcome written wrote blank list time_value_of of_bits is_nan records record_at little_endian twos_complement is_zone_list accepts decides offset_at
nan-texts = (refl, refl, refl)

-- the first row that applies: 1 before 2, 2 and 10 before 11
rows-in-order :
    (local_outcome [] 0x7FF0_0000_0000_0000 [] ≡ refused ZoneList [])
    × (local_outcome list 0x7FF0_0000_0000_0000 [] ≡ refused TimeValue [])
    × (utc_outcome 0x3FE0_0000_0000_0000 [] ≡ refused TimeValue [])
    × (iso_outcome 0xFFF8_0000_0000_0000 [] ≡ refused NoTime [])
    × (utc_outcome 0xFFF8_0000_0000_0000 [] ≡ refused Output [])
unfolding iso_outcome utc_outcome local_outcome written list time_value_of is_time is_whole_within of_bits to_bits of_int eq le is_nan trunc_f trunc_z abs_f records record_at little_endian twos_complement is_zone_list accepts decides offset_at
rows-in-order = (refl, refl, refl, refl, refl)
