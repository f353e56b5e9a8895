-- What only inner contracts use. What the code's answers say: the form of a text constructor by constructor, so that nothing is left free,
-- and a stage's place in the text as the bytes from there on. Definitions only. Assumes nothing.
use Rattle.std.specs.Prelude.{◌≡◌, false, List, [], ◌∷◌, ℕ, ◌+◌, ◌<◌, ◌≤◌, length, drop, Option, Some, None, Result, Ok, Err}
use Rattle.ecma262.specs.Digits.{digits}
use Rattle.ecma262.specs.Format as format
use Rattle.fast_atoi.specs.Inner.{from_le_bytes}
use Rattle.parser.specs.declared.Fault.{Fault}
use Rattle.parser.specs.declared.Year.{Year}
use Rattle.parser.specs.declared.Year.TheVariants.{Four, Six}
use Rattle.parser.specs.declared.Date.{Date}
use Rattle.parser.specs.declared.Date.TheVariants.{ToYear, ToMonth, ToDay}
use Rattle.parser.specs.declared.Time.{Time}
use Rattle.parser.specs.declared.Time.TheVariants as T
use Rattle.parser.specs.declared.Zone.{Zone}
use Rattle.parser.specs.declared.Zone.TheVariants as Z
use Rattle.parser.specs.declared.Form.{Form}
use Rattle.parser.specs.declared.Form.TheVariants as F
use Rattle.parser.specs.Reading.{Out, ok, fault, Reader, Number, number, is_digit, digits_after, digits_upto, all_digits, after, give, choose}

abbrev pub as_year : Year → format.Year
as_year (Four y) = format.Year.four y
as_year (Six negative y) = format.Year.six negative y

abbrev pub as_date : Date → format.Date
as_date ToYear = format.Date.toYear
as_date (ToMonth m) = format.Date.toMonth m
as_date (ToDay m d) = format.Date.toDay m d

abbrev pub as_time : Time → format.Time
as_time (T.ToMinute h m) = format.Time.toMinute h m
as_time (T.ToSecond h m s) = format.Time.toSecond h m s
as_time (T.ToDecimals h m s places decimals) = format.Time.toDecimals h m s places decimals

abbrev pub as_zone : Zone → format.Zone
as_zone Z.Absent = format.Zone.absent
as_zone Z.Zulu = format.Zone.zulu
as_zone (Z.ToHour negative h) = format.Zone.toHour negative h
as_zone (Z.ToMinute negative h m) = format.Zone.toMinute negative h m

abbrev pub as_form : Form → format.Form
as_form (F.Date y d) = format.Form.date (as_year y) (as_date d)
as_form (F.Timed y d t z) = format.Form.timed (as_year y) (as_date d) (as_time t) (as_zone z)

-- nothing is left of a text that was read
abbrev pub as_reading : Result Form Fault → Out format.Form
as_reading (Ok f) = ok (as_form f) []
as_reading (Err f) = fault f

-- ---- the stages' answers

-- what a stage answers: the value, as the definition writes it, with the bytes from the place after it on, or the fault
abbrev pub out : {A B : Type 0} → (A → B) → List ℕ → Result (A × ℕ) Fault → Out B
out as_value text (Ok r) = ok (as_value r.0) (drop r.1 text)
out as_value text (Err f) = fault f

-- a number is written as it is
abbrev pub as_is : {A : Type 0} → A → A
as_is a = a

-- from the place `at` of the text on, the reader p comes to o
pub record Reads {A : Type 0} (p : Reader A) (text : List ℕ) (at : ℕ) (o : Out A) : Type 0 where
  pub same : o ≡ p (drop at text)

-- a text ends at a place, or before it
pub record Ends (text : List ℕ) (at : ℕ) : Type 0 where
  pub same : drop at text ≡ []

-- b is the byte at a place of a text
pub record Next (text : List ℕ) (at b : ℕ) : Type 0 where
  pub inside : at < length text
  pub same : drop at text ≡ b ∷ drop (at + 1) text

-- b is the digit at a place of a text
pub record IsDigit (text : List ℕ) (at b : ℕ) : Type 0 where
  pub here : Next text at b
  pub low : 48 ≤ b
  pub high : b ≤ 57

-- no digit is at a place of a text: digits end there
pub record NoDigit (text : List ℕ) (at : ℕ) : Type 0 where
  pub same : (n value count : ℕ) → digits_after n value count (drop at text) ≡ ok (number value count) (drop at text)

-- a text that does not begin with a digit
abbrev pub NotDigit : List ℕ → Type 0
NotDigit [] = Unit
NotDigit (b ∷ s) = is_digit b ≡ false

-- from the place `at` of the text on, the reader p takes so many digits, inside the text, and comes to that value
pub record Takes (p : Reader Number) (text : List ℕ) (at value count : ℕ) : Type 0 where
  pub same : p (drop at text) ≡ ok (number value count) (drop (at + count) text)
  pub inside : 0 < count → at + count ≤ length text

-- digits as a block, the first of them in the lowest byte
unfoldable pub as_block : Number → Reader Number
as_block (number value count) = give (number (from_le_bytes (digits count value)) count)

abbrev pub block_upto : ℕ → Reader Number
block_upto n = after (digits_upto n) as_block

-- where the next byte is the mark, what p reads after it; else nothing
unfoldable pub optional : ℕ → Reader ℕ → Reader (Option ℕ)
optional mark p = choose mark (after p (λ v. give (Some v))) (give None)

-- a year of four digits
abbrev pub four_digits : Reader format.Year
four_digits = after (all_digits 4) (λ y. give (format.Year.four y))
