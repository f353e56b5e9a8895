-- The same calls in whole numbers: ECMA-262's own steps of Date.UTC, the constructor and the setters, where every field is finite. Local
-- times are those of crates/local: t goes in as t + 1,000·off(⌊t/1000⌋), and u comes out as u - 1,000·off(⌊u/1000⌋). Definitions only.
-- Assumes nothing.
use Rattle.std.specs.Prelude.{◌≡◌, Bool, true, false, cond, List, [], ◌∷◌, ℕ, ◌<◌, T, ℤ, pos, get_or}
use Rattle.std.proofs.Math.Option.{Option}
use Rattle.std.specs.Float.Ieee.Scale.{finite}
use Rattle.ecma262.specs.Date.{day_of_time, time_within_day, year_from_time, month_from_time, date_from_time, hour_from_time, min_from_time, sec_from_time, ms_from_time, make_time, make_day, make_date, make_full_year, time_clip}
use Rattle.ecma262.specs.Domain.{ExactDay, ExactTime}
use Rattle.zone.specs.Zone.{Record, Accepted}
use Rattle.local.specs.Local.{local_time, utc_time}
use Rattle.float.specs.Whole.{trunc_z}
use Rattle.field_record.specs.FieldRecord.{stands, has_length, has_other_bit, field_at}
use Rattle.new_date.specs.Calls.{Call, build, set, bits_of}
use Rattle.new_date.specs.declared.Part.TheVariants.{Milliseconds, Seconds, Minutes, Hours, Date, Month, FullYear}

-- What an absent field stands for. The builder's year has no such number: it stands for NaN, and `Finite` below asks for it to be given.
unfoldable pub absent_z : Call → ℤ → List ℤ
absent_z build t = pos 0 ∷ pos 0 ∷ pos 1 ∷ pos 0 ∷ pos 0 ∷ pos 0 ∷ pos 0 ∷ []
absent_z (set Milliseconds) t = pos (ms_from_time t) ∷ []
absent_z (set Seconds) t = pos (sec_from_time t) ∷ pos (ms_from_time t) ∷ []
absent_z (set Minutes) t = pos (min_from_time t) ∷ pos (sec_from_time t) ∷ pos (ms_from_time t) ∷ []
absent_z (set Hours) t = pos (hour_from_time t) ∷ pos (min_from_time t) ∷ pos (sec_from_time t) ∷ pos (ms_from_time t) ∷ []
absent_z (set Date) t = date_from_time t ∷ []
absent_z (set Month) t = pos (month_from_time t) ∷ date_from_time t ∷ []
absent_z (set FullYear) t = year_from_time t ∷ pos (month_from_time t) ∷ date_from_time t ∷ []

-- the call's argument of a bit: a given field without its fraction
abbrev pub argument_z : Call → ℤ → List ℕ → ℕ → ℤ
argument_z call t fields bit = cond (stands fields bit) (trunc_z (field_at fields bit)) (get_or (absent_z call t) bit (pos 0))

-- sec-date.utc and sec-date, MakeDate(MakeDay(MakeFullYear(y), m, dt), MakeTime(h, min, s, milli)); sec-date.prototype.setutchours and its
-- kin, MakeDate(Day(t), MakeTime(h, m, s, milli)); sec-date.prototype.setutcmonth and its kin, MakeDate(MakeDay(y, m, dt), TimeWithinDay(t))
unfoldable pub new_date_z : Call → ℤ → (ℕ → ℤ) → ℤ
new_date_z build t a = make_date (make_day (make_full_year (a 0)) (a 1) (a 2)) (make_time (a 3) (a 4) (a 5) (a 6))
new_date_z (set Milliseconds) t a = make_date (day_of_time t) (make_time (pos (hour_from_time t)) (pos (min_from_time t)) (pos (sec_from_time t)) (a 0))
new_date_z (set Seconds) t a = make_date (day_of_time t) (make_time (pos (hour_from_time t)) (pos (min_from_time t)) (a 0) (a 1))
new_date_z (set Minutes) t a = make_date (day_of_time t) (make_time (pos (hour_from_time t)) (a 0) (a 1) (a 2))
new_date_z (set Hours) t a = make_date (day_of_time t) (make_time (a 0) (a 1) (a 2) (a 3))
new_date_z (set Date) t a = make_date (make_day (year_from_time t) (pos (month_from_time t)) (a 0)) (pos (time_within_day t))
new_date_z (set Month) t a = make_date (make_day (year_from_time t) (a 0) (a 1)) (pos (time_within_day t))
new_date_z (set FullYear) t a = make_date (make_day (a 0) (a 1) (a 2)) (pos (time_within_day t))

abbrev pub shift_in_z : Bool → List Record → ℤ → ℤ
shift_in_z local list t = cond local (local_time list t) t

abbrev pub shift_out_z : Bool → List Record → ℤ → ℤ
shift_out_z local list t = cond local (utc_time list t) t

-- TimeClip(UTC(newDate)), or TimeClip(newDate), from the time t, which is already shifted
unfoldable pub value_from_z : Call → Bool → List Record → ℤ → List ℕ → Option ℤ
value_from_z call local list t fields = time_clip (shift_out_z local list (new_date_z call t (argument_z call t fields)))

-- ---- "The exact domain: fields finite and truncated": the builder's year is given, and every given field is finite
pub record Finite (call : Call) (fields : List ℕ) : Type 0 where
  pub year : call ≡ build → stands fields 0 ≡ true
  pub each : (bit : ℕ) → bit < bits_of call → stands fields bit ≡ true → T (finite (field_at fields bit))

-- and the call's arguments a within its bounds; the builder's year is bounded as MakeFullYear gives it
abbrev pub Bounded : Call → ℤ → (ℕ → ℤ) → Type 0
Bounded build t a = ExactDay (make_full_year (a 0)) (a 1) (a 2) × ExactTime (a 3) (a 4) (a 5) (a 6)
Bounded (set Milliseconds) t a = ExactTime (pos (hour_from_time t)) (pos (min_from_time t)) (pos (sec_from_time t)) (a 0)
Bounded (set Seconds) t a = ExactTime (pos (hour_from_time t)) (pos (min_from_time t)) (a 0) (a 1)
Bounded (set Minutes) t a = ExactTime (pos (hour_from_time t)) (a 0) (a 1) (a 2)
Bounded (set Hours) t a = ExactTime (a 0) (a 1) (a 2) (a 3)
Bounded (set Date) t a = ExactDay (year_from_time t) (pos (month_from_time t)) (a 0)
Bounded (set Month) t a = ExactDay (year_from_time t) (a 0) (a 1)
Bounded (set FullYear) t a = ExactDay (a 0) (a 1) (a 2)

pub record Exact (call : Call) (t : ℤ) (fields : List ℕ) : Type 0 where
  pub numbers : Finite call fields
  pub bounds : Bounded call t (argument_z call t fields)

-- none of the rows 1, 3 and 4 applies
pub record Passes (call : Call) (local : Bool) (zone fields : List ℕ) : Type 0 where
  pub list : local ≡ true → Accepted zone
  pub filled : has_length fields ≡ true
  pub known : has_other_bit (bits_of call) fields ≡ false

-- "a bare map of 0": a record without fields
abbrev pub no_field : List ℕ
no_field = 0 ∷ []
