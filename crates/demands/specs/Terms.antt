-- What the theorems of demand 2 (proofs/Demand2.antt) are said with, over the definitions that the contracts cite. Definitions only.
-- Assumes nothing.
use Rattle.std.specs.Prelude.{◌≡◌, Bool, true, false, cond, List, [], ◌∷◌, ◌++◌, ℕ, zero, suc, ◌+◌, ◌-◌, ◌*◌, ◌≤◌, ◌<◌, ℤ, pos, nat_abs, replicate, Float}
use Rattle.ecma262.specs.Date.{time_range, day_of_time, time_within_day, days_in_year, day_from_year, time_from_year, year_from_time, day_within_year, in_leap_year, month_from_time, date_from_time, week_day, hour_from_time, min_from_time, sec_from_time, ms_from_time, make_time, make_day, make_date, make_full_year, time_clip, fields_of}
use Rattle.ecma262.specs.Format.{Time, Form, Writes, thousandths}
use Rattle.ecma262.specs.Format.Time.{toSecond, toDecimals}
use Rattle.ecma262.specs.Format.Form.{date, timed}
use Rattle.ecma262.specs.Texts.{ascii, date_string_of, time_string_of, time_zone_string}
use Rattle.float.specs.Whole.{IsWhole}
use Rattle.calendar.specs.Calendar.{day_f, time_within_day_f, days_in_year_f, day_from_year_f, time_from_year_f, year_from_time_f, day_within_year_f, in_leap_year_f, month_from_time_f, date_from_time_f, week_day_f, hour_from_time_f, min_from_time_f, sec_from_time_f, ms_from_time_f}
use Rattle.make.specs.Make.{time_value}
use Rattle.zone.specs.Zone.{records}
use Rattle.field_record.specs.FieldRecord.{stands, field_at}
use Rattle.parser.specs.declared.Fault.TheVariants as F
use Rattle.parser.specs.Reading.{Reader, ok, fault, is_digit}
use Rattle.local.specs.Local.{offset_of_suffix}
use Rattle.answer.specs.Answer.{answer_of_time}
use Rattle.new_date.specs.Calls.{Call}
use Rattle.new_date.specs.Standard.{argument_z, new_date_z, shift_out_z}
use Rattle.reader.specs.Denotes.{Denotes}
use Rattle.reader.specs.Outcome.{read_outcome}

-- ---- the calendar

-- each function of a time, at an f64 t that has the whole number z: what it gives is the standard's of z
pub record CalendarAt (t : Float) (z : ℤ) : Type 0 where
  pub day : IsWhole (day_f t) (day_of_time z)
  pub time-within-day : IsWhole (time_within_day_f t) (pos (time_within_day z))
  pub year : year_from_time_f t ≡ year_from_time z
  pub day-within-year : pos (day_within_year_f t) ≡ day_within_year z
  pub leap : in_leap_year_f t ≡ in_leap_year z
  pub month : month_from_time_f t ≡ month_from_time z
  pub date : pos (date_from_time_f t) ≡ date_from_time z
  pub weekday : week_day_f t ≡ week_day z
  pub hour : hour_from_time_f t ≡ hour_from_time z
  pub minute : min_from_time_f t ≡ min_from_time z
  pub second : sec_from_time_f t ≡ sec_from_time z
  pub ms : ms_from_time_f t ≡ ms_from_time z

-- and each function of a year, at an f64 y that has the whole number z
pub record CalendarOfYear (y : Float) (z : ℤ) : Type 0 where
  pub days : days_in_year_f y ≡ days_in_year z
  pub first-day : IsWhole (day_from_year_f y) (day_from_year z)
  pub start : IsWhole (time_from_year_f y) (time_from_year z)

-- ---- the builder and the setters

-- the builder's new date, from its arguments a: "MakeFullYear, MakeDay, MakeTime, MakeDate"
abbrev pub built : (ℕ → ℤ) → ℤ
built a = make_date (make_day (make_full_year (a 0)) (a 1) (a 2)) (make_time (a 3) (a 4) (a 5) (a 6))

-- a setter's value by "the standard's own steps", from the time t, which is already local for a local call: the new date, by the offset back
-- to UTC for a local call, then TimeClip
abbrev pub steps_from : Call → Bool → List ℕ → ℤ → List ℕ → Float
steps_from call local zone t fields = time_value (time_clip (shift_out_z local (records zone) (new_date_z call t (argument_z call t fields))))

-- "an hours record with only minutes": the minute m, which is bit 1
pub record OnlyMinute (fields : List ℕ) (m : ℕ) : Type 0 where
  pub hour : stands fields 0 ≡ false
  pub minute : stands fields 1 ≡ true
  pub is : IsWhole (field_at fields 1) (pos m)
  pub second : stands fields 2 ≡ false
  pub ms : stands fields 3 ≡ false

-- u is t with the minute m: the day, "the hour", the second and the millisecond "remain"
pub record MinuteSet (t u : ℤ) (m : ℕ) : Type 0 where
  pub day : day_of_time u ≡ day_of_time t
  pub hour : hour_from_time u ≡ hour_from_time t
  pub minute : min_from_time u ≡ m
  pub second : sec_from_time u ≡ sec_from_time t
  pub ms : ms_from_time u ≡ ms_from_time t

-- ---- the reader

-- the number that it answers
abbrev pub read_number : List ℕ → List ℕ → ℕ
read_number zone text = (answer_of_time (read_outcome zone text)).number

-- a number of the rows "text", 5 to 8
abbrev pub OfText : ℕ → Type 0
OfText n = (5 ≤ n) × (n ≤ 8)

-- no form of "the Date Time String Format as 01 sets it" writes the text
abbrev pub NoForm : List ℕ → Type 0
NoForm text = (f : Form) → Writes f text → ⊥

-- the text denotes an instant outside the range
abbrev pub DenotesOutside : List ℕ → List ℕ → Type 0
DenotesOutside zone text = (t : ℤ) × Denotes zone text t × (time_range < nat_abs t)

-- ---- the decimals (02, change request 8)

-- a form whose decimals, where it has any, are three: "exactly three digits", the format before the request
abbrev pub ThreeOrNone : Form → Type 0
ThreeOrNone (date y d) = Unit
ThreeOrNone (timed y d (Time.toMinute h m) z) = Unit
ThreeOrNone (timed y d (toSecond h m s) z) = Unit
ThreeOrNone (timed y d (toDecimals h m s places decimals) z) = places ≡ 3

-- a form with one decimal or two
abbrev pub Short : Form → Type 0
Short (date y d) = ⊥
Short (timed y d (Time.toMinute h m) z) = ⊥
Short (timed y d (toSecond h m s) z) = ⊥
Short (timed y d (toDecimals h m s places decimals) z) = (1 ≤ places) × (places ≤ 2)

-- the text denotes the instant t by a form of a kind
pub record DenotesBy (Kind : Form → Type 0) (zone text : List ℕ) (t : ℤ) : Type 0 where
  pub denotes : Denotes zone text t
  pub kind : Kind denotes.form

-- a form's decimals in thousandths: `.5` is `.500`
abbrev pub with_three : Form → Form
with_three (date y d) = date y d
with_three (timed y d (Time.toMinute h m) z) = timed y d (Time.toMinute h m) z
with_three (timed y d (toSecond h m s) z) = timed y d (toSecond h m s) z
with_three (timed y d (toDecimals h m s places decimals) z) = timed y d (toDecimals h m s 3 (thousandths places decimals)) z

-- n digits after ones that write v, as every number was read before the request: the first that is missing is at fault
unfoldable pub digits_before : ℕ → ℕ → Reader ℕ
digits_before zero v s = ok v s
digits_before (suc n) v [] = fault F.Short
digits_before (suc n) v (b ∷ s) = cond (is_digit b) (digits_before n (10 * v + (b - 48)) s) (fault F.Bad)

-- ---- the local writer

-- ToDateString(tv) up to its suffix: DateString(t), SPACE and TimeString(t), where t is the local time
abbrev pub until_suffix : ℤ → List ℕ
until_suffix t = date_string_of (week_day t) (fields_of t) ++ ascii " " ++ time_string_of (fields_of t)

-- the suffix, TimeZoneString of the offset that is looked up "at the local time, the standard at the instant"
abbrev pub suffix : List ℕ → ℤ → List ℕ
suffix zone t = time_zone_string (offset_of_suffix (records zone) t)

-- ---- cases, so that no clause is empty

-- the zone list (0, 0), one record
abbrev pub zero_list : List ℕ
zero_list = replicate 12 0

-- a field record whose one field is the first argument, 1: bit 0 and the f64 of 1
abbrev pub first_is_one : List ℕ
first_is_one = 1 ∷ 0 ∷ 0 ∷ 0 ∷ 0 ∷ 0 ∷ 0 ∷ 0xF0 ∷ 0x3F ∷ []

-- the f64 of 30, and of 0, low byte first
abbrev pub thirty : List ℕ
thirty = 0 ∷ 0 ∷ 0 ∷ 0 ∷ 0 ∷ 0 ∷ 0x3E ∷ 0x40 ∷ []

abbrev pub nought : List ℕ
nought = replicate 8 0

-- an hours record with the minute 30 alone, and the one that it stands for at time 0: 00:30:00.000
abbrev pub minute_alone : List ℕ
minute_alone = 2 ∷ thirty

abbrev pub minute_and_rest : List ℕ
minute_and_rest = 15 ∷ nought ++ thirty ++ nought ++ nought
