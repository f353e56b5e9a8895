-- The reading at written texts, computed: document 01's marked rows that are about texts, and the cases that are easy to get wrong.
-- Assumes nothing.
use mathlib.Core.Path.{◌≡◌, refl}
use mathlib.Core.Bool.{Bool, true, false, cond}
use mathlib.Core.List.{List, [], ◌∷◌}
use Prim.Native.Nat.{ℕ}
use Prim.Native.String.{String}
use lib.Dec.{T, eqb}
use Rattle.ecma262.specs.Texts.{ascii}
use Rattle.ecma262.specs.Format.{Zone, Form}
use Rattle.ecma262.specs.Format.Year.{four, six}
use Rattle.ecma262.specs.Format.Date.{toYear, toMonth, toDay}
use Rattle.ecma262.specs.Format.Time.{toMinute, toSecond, toDecimals}
use Rattle.ecma262.specs.Format.Form.{date, timed}
use Rattle.parser.specs.declared.Fault.TheVariants.{Short, Bad, Range, Trailing}
use Rattle.parser.specs.Reading.{after, give, choose, byte, digits_after, all_of, within, signed_year, read_year, read_day, read_date, decimals_of, read_decimals, read_second, read_time, read_offset_minute, read_offset, read_zone, Out, ok, fault, ending, time_part, rest, read}

-- how precise a text was, how many decimals it had, and how its zone was written, is kept
accepted : (read (ascii "1970") ≡ ok (date (four 1970) toYear) [])
    × (read (ascii "+001970") ≡ ok (date (six false 1970) toYear) [])
    × (read (ascii "+000000") ≡ ok (date (six false 0) toYear) [])
    × (read (ascii "-271821-04") ≡ ok (date (six true 271821) (toMonth 4)) [])
    × (read (ascii "2023-02-31") ≡ ok (date (four 2023) (toDay 2 31)) [])
    × (read (ascii "1970T00:00") ≡ ok (timed (four 1970) toYear (toMinute 0 0) Zone.absent) [])
    × (read (ascii "2024-02-29T12:00:00Z") ≡ ok (timed (four 2024) (toDay 2 29) (toSecond 12 0 0) Zone.zulu) [])
    × (read (ascii "2023-12-31T24:00:00Z") ≡ ok (timed (four 2023) (toDay 12 31) (toSecond 24 0 0) Zone.zulu) [])
    × (read (ascii "2023-12-31T24:00:00.000-23:59") ≡ ok (timed (four 2023) (toDay 12 31) (toDecimals 24 0 0 3 0) (Zone.toMinute true 23 59)) [])
    × (read (ascii "+275760-09-13T01:00:00+01:00") ≡ ok (timed (six false 275760) (toDay 9 13) (toSecond 1 0 0) (Zone.toMinute false 1 0)) [])
    × (read (ascii "0000-01T23:59:59.999-05") ≡ ok (timed (four 0) (toMonth 1) (toDecimals 23 59 59 3 999) (Zone.toHour true 5)) [])
    × (read (ascii "2024T19:30:00.5") ≡ ok (timed (four 2024) toYear (toDecimals 19 30 0 1 5) Zone.absent) [])
    × (read (ascii "2024T19:30:00.50Z") ≡ ok (timed (four 2024) toYear (toDecimals 19 30 0 2 50) Zone.zulu) [])
    × (read (ascii "2024T19:30:00.05+01") ≡ ok (timed (four 2024) toYear (toDecimals 19 30 0 2 5) (Zone.toHour false 1)) [])
    × (read (ascii "2024T24:00:00.0-01:30") ≡ ok (timed (four 2024) toYear (toDecimals 24 0 0 1 0) (Zone.toMinute true 1 30)) [])
unfolding after give choose byte digits_after all_of within signed_year read_year read_day read_date decimals_of read_decimals read_second read_time read_offset_minute read_offset read_zone ending time_part rest read
accepted = (refl, refl, refl, refl, refl, refl, refl, refl, refl, refl, refl, refl, refl, refl, refl)

-- a text and its number
data Row : Type 0 where
  row : String → ℕ → Row

number_of : Out Form → ℕ
number_of (ok f s) = 0
number_of (fault Short) = 5
number_of (fault Bad) = 6
number_of (fault Range) = 7
number_of (fault Trailing) = 8

every : List Row → Bool
every [] = true
every (row text n ∷ rows) = cond (eqb (number_of (read (ascii text))) n) (every rows) false

rows : List Row
rows =
    -- a text ends where a byte is needed
    row "" 5 ∷ row "197" 5 ∷ row "+" 5 ∷ row "+00000" 5 ∷ row "2023-" 5 ∷ row "2023-3" 5 ∷ row "2023-01-" 5 ∷ row "2023T" 5 ∷ row "2023T01" 5
    ∷ row "2023T01:" 5 ∷ row "2023T01:00:" 5 ∷ row "2023T01:00:00." 5 ∷ row "2023T01:00+" 5
    ∷ row "2023T01:00+01:" 5
    -- bounds are tested after all digits of a field
    ∷ row "2023-1x" 6 ∷ row "2023-13x" 7 ∷ row "2023-13" 7 ∷ row "2023-00" 7 ∷ row "2023-12-32" 7 ∷ row "2023-12-00" 7 ∷ row "2023T25:00" 7
    ∷ row "2023T23:60" 7 ∷ row "2023T23:59:60" 7 ∷ row "2023T23:59+24" 7 ∷ row "2023T23:59+23:60" 7
    -- `-000000` is 7 whatever follows
    ∷ row "-000000" 7 ∷ row "-000000x" 7 ∷ row "-00000x" 6 ∷ row "-000001" 0 ∷ row "+000000" 0
    -- 8 only after a day, after `Z` and after an offset's minute
    ∷ row "2023x" 6 ∷ row "2023-12x" 6 ∷ row "2023-12-31x" 8 ∷ row "2023T01:00x" 6 ∷ row "2023T01:00:00x" 6 ∷ row "2023T01:00:00.000x" 6
    ∷ row "2023T01:00Zx" 8 ∷ row "2023T01:00+01x" 6 ∷ row "2023T01:00+01:00x" 8 ∷ row "2023-12-31-" 8 ∷ row "2023T01:00ZZ" 8
    -- hour 24's row stands after 8
    ∷ row "2023T24:00" 0 ∷ row "2023T24:01" 7 ∷ row "2023T24:01x" 6 ∷ row "2023T24:01Zx" 8 ∷ row "2023T24:00:01" 7 ∷ row "2023T24:00:00.001" 7
    ∷ row "2023T24:00+23:59" 0 ∷ row "2023-12-31T24:00:01Z" 7
    -- one to three decimals, and the same may follow fewer than three; no digit is 5 or 6, a fourth is 6
    ∷ row "2023T01:00:00.1" 0 ∷ row "2023T01:00:00.12" 0 ∷ row "2023T01:00:00.123" 0 ∷ row "2023T01:00:00.1Z" 0 ∷ row "2023T01:00:00.12-23:59" 0
    ∷ row "2023T01:00:00.x" 6 ∷ row "2023T01:00:00.Z" 6 ∷ row "2023T01:00:00.+01" 6 ∷ row "2023T01:00:00.1234" 6 ∷ row "2023T01:00:00.1x" 6
    ∷ row "2023T01:00:00.12x" 6 ∷ row "2023T01:00:00.1.2" 6 ∷ row "2023T01:00:00.1+" 5 ∷ row "2023T01:00:00.1+24" 7 ∷ row "2023T01:00:00.12Zx" 8
    ∷ row "2023T24:00:00.0" 0 ∷ row "2023T24:00:00.00Z" 0 ∷ row "2023T24:00:00.1" 7 ∷ row "2023T24:00:00.01" 7 ∷ row "2023T24:00:00.1Zx" 8
    -- small letters, blanks and bytes above 127 have no number of their own
    ∷ row "2023t01:00" 6 ∷ row "2023-12-31t01:00" 8 ∷ row "2023T01:00z" 6 ∷ row " 2023" 6 ∷ row "2023 " 6 ∷ row "é023" 6 ∷ row "2023-12-31é" 8
    ∷ row "20230101" 6 ∷ row "02023" 6 ∷ []

numbers : T (every rows)
unfolding every rows number_of after give choose byte digits_after all_of within signed_year read_year read_day read_date decimals_of read_decimals read_second read_time read_offset_minute read_offset read_zone ending time_part rest read
numbers = tt
