-- Reading a date text from left to right: the form that it is of, or the first fault. What is read, and in which order, is 01's
-- "`DateParser::parse` reads in this order", for the decimals with change request 8 (02); which fault, 01's table "Where a call is turned
-- back", rows 5 to 8 and the 7 after 8. Definitions only. Assumes nothing.
use Rattle.std.specs.Prelude.{Bool, true, false, cond, List, [], ◌∷◌, ℕ, zero, suc, ◌+◌, ◌-◌, ◌*◌, leb, eqb}
use Rattle.ecma262.specs.Format.{Year, Date, Time, Zone, Form, time_fields}
use Rattle.ecma262.specs.Format.Year.{four, six}
use Rattle.ecma262.specs.Format.Date.{toYear, toMonth, toDay}
use Rattle.ecma262.specs.Format.Time.{toSecond, toDecimals}
use Rattle.ecma262.specs.Format.Zone.{absent, zulu, toHour}
use Rattle.ecma262.specs.Format.Form.{date, timed}
use Rattle.parser.specs.declared.Fault.{Fault}
use Rattle.parser.specs.declared.Fault.TheVariants.{Short, Bad, Range, Trailing}

-- what was read and the bytes that are left, or why not
pub data Out (A : Type 0) : Type 0 where
  ok : A → List ℕ → Out A
  fault : Fault → Out A

abbrev pub Reader : Type 0 → Type 0
Reader A = List ℕ → Out A

abbrev pub bind : {A B : Type 0} → Out A → (A → Reader B) → Out B
bind (ok a s) k = k a s
bind (fault f) k = fault f

-- p, then what k makes of its value
unfoldable pub after : {A B : Type 0} → Reader A → (A → Reader B) → Reader B
after p k s = bind (p s) k

-- a, and nothing is read
unfoldable pub give : {A : Type 0} → A → Reader A
give a s = ok a s

-- where the next byte is b, what p reads after it; else what q reads
unfoldable pub choose : {A : Type 0} → ℕ → Reader A → Reader A → Reader A
choose b p q [] = q []
choose b p q (c ∷ s) = cond (eqb c b) (p s) (q (c ∷ s))

-- the byte b
unfoldable pub byte : ℕ → Reader ℕ
byte b [] = fault Short
byte b (c ∷ s) = cond (eqb c b) (ok c s) (fault Bad)

abbrev pub is_digit : ℕ → Bool
is_digit b = cond (leb 48 b) (leb b 57) false

-- a number as it is written: "the value together with how many" digits write it
pub data Number : Type 0 where
  number : (value count : ℕ) → Number

-- the decimal digits that stand there, at most n of them, after `count` digits that write `value`
unfoldable pub digits_after : ℕ → ℕ → ℕ → Reader Number
digits_after zero value count s = ok (number value count) s
digits_after (suc n) value count [] = ok (number value count) []
digits_after (suc n) value count (b ∷ s) = cond (is_digit b) (digits_after n (10 * value + (b - 48)) (count + 1) s) (ok (number value count) (b ∷ s))

abbrev pub digits_upto : ℕ → Reader Number
digits_upto n = digits_after n 0 0

-- why a digit that is needed isn't there: the text ends, or another byte stands in its place
abbrev pub no_digit : List ℕ → Fault
no_digit [] = Short
no_digit (b ∷ s) = Bad

-- the number of a field that needs all of its n digits
unfoldable pub all_of : ℕ → Number → Reader ℕ
all_of n (number value count) s = cond (eqb count n) (ok value s) (fault (no_digit s))

abbrev pub all_digits : ℕ → Reader ℕ
all_digits n = after (digits_upto n) (all_of n)

-- v, where it lies between its bounds
unfoldable pub within : ℕ → ℕ → ℕ → Reader ℕ
within low high v s = cond (leb low v) (cond (leb v high) (ok v s) (fault Range)) (fault Range)

-- a field of two digits; its bounds are tested after its digits
abbrev pub field : ℕ → ℕ → Reader ℕ
field low high = after (all_digits 2) (within low high)

-- ---- 1. "Year: four digits, or a sign and six; -000000 is refused, +000000 is year 0."

unfoldable pub signed_year : Bool → ℕ → Reader Year
signed_year true y s = cond (eqb y 0) (fault Range) (ok (six true y) s)
signed_year false y s = ok (six false y) s

unfoldable pub read_year : Reader Year
read_year =
    choose 43 (after (all_digits 6) (signed_year false)) (choose 45 (after (all_digits 6) (signed_year true)) (after (all_digits 4) (λ y. give (four y))))

-- ---- 2. "Then the end, `T`, or `-` and a month 01 to 12; then the end, `T`, or `-` and a day 01 to 31; then the end or `T`."

unfoldable pub read_day : ℕ → Reader Date
read_day m = choose 45 (after (field 1 31) (λ d. give (toDay m d))) (give (toMonth m))

unfoldable pub read_date : Reader Date
read_date = choose 45 (after (field 1 12) read_day) (give toYear)

-- ---- 3. "After `T`: hour 00 to 24, `:`, minute 00 to 59; optionally `:` and second 00 to 59; after a second optionally `.`", and by 02
-- "After the point one to three digits are now read". "A fourth digit is still 6", a byte that may not follow, "and no digit is 5 or 6".

unfoldable pub decimals_of : ℕ → ℕ → ℕ → Number → Reader Time
decimals_of h m s (number value count) t = cond (leb 1 count) (ok (toDecimals h m s count value) t) (fault (no_digit t))

unfoldable pub read_decimals : ℕ → ℕ → ℕ → Reader Time
read_decimals h m s = choose 46 (after (digits_upto 3) (decimals_of h m s)) (give (toSecond h m s))

unfoldable pub read_second : ℕ → ℕ → Reader Time
read_second h m = choose 58 (after (field 0 59) (read_decimals h m)) (give (Time.toMinute h m))

unfoldable pub read_time : Reader Time
read_time = after (field 0 24) (λ h. after (byte 58) (λ _. after (field 0 59) (read_second h)))

-- ---- 4. "After any time, optionally `Z`, or a sign and offset hour 00 to 23, then optionally `:` and minute 00 to 59."

unfoldable pub read_offset_minute : Bool → ℕ → Reader Zone
read_offset_minute negative h = choose 58 (after (field 0 59) (λ m. give (Zone.toMinute negative h m))) (give (toHour negative h))

unfoldable pub read_offset : Bool → Reader Zone
read_offset negative = after (field 0 23) (read_offset_minute negative)

unfoldable pub read_zone : Reader Zone
read_zone = choose 90 (give zulu) (choose 43 (read_offset false) (choose 45 (read_offset true) (give absent)))

-- ---- the whole text

-- row 8: "a byte other than `T` after a day, or any byte after `Z` or an offset's minute; a wrong byte anywhere else, as after an
-- offset's hour, is 6"
abbrev pub after_date : Date → Fault
after_date toYear = Bad
after_date (toMonth m) = Bad
after_date (toDay m d) = Trailing

abbrev pub after_zone : Zone → Fault
after_zone absent = Bad
after_zone zulu = Trailing
after_zone (toHour negative h) = Bad
after_zone (Zone.toMinute negative h m) = Trailing

-- 5. "Hour 24 needs all smaller fields 0"; row 7, after 8: "hour 24 with minute, second or decimals not 0; the offset is free"
abbrev pub time_allowed : Time → Bool
time_allowed t = cond (eqb (time_fields t).hour 24) (cond (eqb (time_fields t).minute 0) (cond (eqb (time_fields t).second 0) (eqb (time_fields t).ms 0) false) false) true

unfoldable pub ending : Year → Date → Time → Zone → Reader Form
ending y d t z [] = cond (time_allowed t) (ok (timed y d t z) []) (fault Range)
ending y d t z (b ∷ s) = fault (after_zone z)

unfoldable pub time_part : Year → Date → Reader Form
time_part y d = after read_time (λ t. after read_zone (ending y d t))

unfoldable pub rest : Year → Date → Reader Form
rest y d [] = ok (date y d) []
rest y d (b ∷ s) = cond (eqb b 84) (time_part y d s) (fault (after_date d))

-- the form of a text, of which nothing is left, or the first fault
unfoldable pub read : Reader Form
read = after read_year (λ y. after read_date (rest y))
