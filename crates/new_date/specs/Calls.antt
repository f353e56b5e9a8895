-- The field builder and the seven setters of builtins/date/mod.rs on f64: what an absent field stands for, and the original's operations in
-- its order, for every record. What they are in the exact domain, the standard's own steps, is in specs/Standard.antt. Definitions only.
-- Assumes nothing.
use Rattle.std.specs.Prelude.{◌≡◌, Bool, true, cond, List, [], ◌∷◌, ℕ, ◌<◌, get_or, Float}
use Rattle.std.specs.Float.{nan, binary64}
use Rattle.std.specs.Float.Ieee.{of_int, is_nan}
use Rattle.zone.specs.Zone.{Record}
use Rattle.calendar.specs.Calendar.{num, day_f, time_within_day_f, year_from_time_f, month_from_time_f, date_from_time_f, hour_from_time_f, min_from_time_f, sec_from_time_f, ms_from_time_f}
use Rattle.make.specs.Make.{make_time_f, make_day_f, make_date_f, make_full_year_f, time_clip_f}
use Rattle.local.specs.Local.{local_time_f, utc_f}
use Rattle.field_record.specs.FieldRecord.{stands, field_at, field_or}
use Rattle.new_date.specs.declared.Part.{Part}
use Rattle.new_date.specs.declared.Part.TheVariants.{Milliseconds, Seconds, Minutes, Hours, Date, Month, FullYear}

-- "`Date::utc` and the many-field constructor are one field builder", and a setter is named after the first part that it sets
pub data Call : Type 0 where
  build : Call
  set : Part → Call

-- "The builder's bits 0 to 6: year, month (January is 0), date, hour, minute, second, millisecond. A setter's bit 0 is its first argument
-- and so on: milliseconds has 1, seconds 2, minutes 3, hours 4, date 1, month 2, full year 3."
abbrev pub bits_of : Call → ℕ
bits_of build = 7
bits_of (set Milliseconds) = 1
bits_of (set Seconds) = 2
bits_of (set Minutes) = 3
bits_of (set Hours) = 4
bits_of (set Date) = 1
bits_of (set Month) = 2
bits_of (set FullYear) = 3

-- a present part of a time, as f64
abbrev pub present : Part → Float → Float
present Milliseconds t = num (ms_from_time_f t)
present Seconds t = num (sec_from_time_f t)
present Minutes t = num (min_from_time_f t)
present Hours t = num (hour_from_time_f t)
present Date t = num (date_from_time_f t)
present Month t = num (month_from_time_f t)
present FullYear t = of_int binary64 (year_from_time_f t)

-- "If t is NaN, set t to +0": `set_full_year` alone, which "starts from 0, with no local shift"
unfoldable pub or_zero : Float → Float
or_zero t = cond (is_nan t) (num 0) t

-- What an absent field stands for, by call and bit, at the time t that a setter starts from (the builder has none). "Absent: in the builder
-- month 0, date 1, others 0, but year NaN; in a setter every absent field keeps its present value, the first too, which parts from the Rust."
unfoldable pub absent : Call → Float → List Float
absent build t = nan ∷ num 0 ∷ num 1 ∷ num 0 ∷ num 0 ∷ num 0 ∷ num 0 ∷ []
absent (set Milliseconds) t = present Milliseconds t ∷ []
absent (set Seconds) t = present Seconds t ∷ present Milliseconds t ∷ []
absent (set Minutes) t = present Minutes t ∷ present Seconds t ∷ present Milliseconds t ∷ []
absent (set Hours) t = present Hours t ∷ present Minutes t ∷ present Seconds t ∷ present Milliseconds t ∷ []
absent (set Date) t = present Date t ∷ []
absent (set Month) t = present Month t ∷ present Date t ∷ []
absent (set FullYear) t = present FullYear (or_zero t) ∷ present Month (or_zero t) ∷ present Date (or_zero t) ∷ []

-- the call's argument of a bit
abbrev pub argument : Call → Float → List ℕ → ℕ → Float
argument call t fields bit = field_or fields bit (get_or (absent call t) bit nan)

-- "A gap … equals the call with the value just said written in": full has every field of the call, and each is the argument of gap. (Two records
-- with some of the gaps filled are each equal to the full one.)
abbrev pub WrittenIn : Call → Float → List ℕ → List ℕ → Type 0
WrittenIn call t gap full = (bit : ℕ) → bit < bits_of call → (stands full bit ≡ true) × (field_at full bit ≡ argument call t gap bit)

-- ---- the new date, from the time t and the arguments a: each line is the original's, in date/mod.rs
unfoldable pub new_date : Call → Float → (ℕ → Float) → Float
new_date build t a = make_date_f (make_day_f (make_full_year_f (a 0)) (a 1) (a 2)) (make_time_f (a 3) (a 4) (a 5) (a 6))
new_date (set Milliseconds) t a = make_date_f (day_f t) (make_time_f (present Hours t) (present Minutes t) (present Seconds t) (a 0))
new_date (set Seconds) t a = make_date_f (day_f t) (make_time_f (present Hours t) (present Minutes t) (a 0) (a 1))
new_date (set Minutes) t a = make_date_f (day_f t) (make_time_f (present Hours t) (a 0) (a 1) (a 2))
new_date (set Hours) t a = make_date_f (day_f t) (make_time_f (a 0) (a 1) (a 2) (a 3))
new_date (set Date) t a = make_date_f (make_day_f (present FullYear t) (present Month t) (a 0)) (time_within_day_f t)
new_date (set Month) t a = make_date_f (make_day_f (present FullYear t) (a 0) (a 1)) (time_within_day_f t)
new_date (set FullYear) t a = make_date_f (make_day_f (a 0) (a 1) (a 2)) (time_within_day_f (or_zero t))

-- of a call with these fields
unfoldable pub new_date_of : Call → Float → List ℕ → Float
new_date_of call t fields = new_date call t (argument call t fields)

-- ---- the value. `const LOCAL` is an argument: a local call shifts the date on the way in and the new one on the way out, by the zone list.

abbrev pub shift_in : Bool → List Record → Float → Float
shift_in local list t = cond local (local_time_f list t) t

abbrev pub shift_out : Bool → List Record → Float → Float
shift_out local list t = cond local (utc_f list t) t

-- time_clip(utc_t(new_date)), or time_clip(new_date)
abbrev pub value_out : Bool → List Record → Float → Float
value_out local list x = time_clip_f (shift_out local list x)

-- the value, from the time t, which is already shifted
unfoldable pub value_from : Call → Bool → List Record → Float → List ℕ → Float
value_from call local list t fields = value_out local list (new_date_of call t fields)
