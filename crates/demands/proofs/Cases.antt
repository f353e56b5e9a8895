-- No clause of the demands is empty: accepted lists exist, and so do, for every call, field records in the exact domain, a record with a
-- gap beside the one where it is filled, and a text with one decimal. Assumes nothing.
use mathlib.Core.Path.{◌≡◌, refl, sym, subst}
use mathlib.Core.Bool.{Bool, true, false, cond, true≢false}
use mathlib.Core.List.{List, []}
use Prim.Native.Nat.{ℕ, zero, suc, ◌<◌}
use native.Mathlib.Omega.{arith}
use lib.Count.{ones}
use lib.Dec.{T, leb, leb→le}
use lib.IntN.{ℤ, pos, nat_abs, ◌+ℤ◌}
use lib.Ieee.{of_fields, of_bits, of_int, to_unsigned, lt, rem, div}
use lib.Ieee.Scale.{finite}
use Rattle.integers.specs.Whole.{floor_div}
use Rattle.integers.proofs.Table.{all-at}
use Rattle.ecma262.specs.Date.{days_in_year, day_from_year, year_from_time, month_of, date_of, days_before, make_day}
use Rattle.ecma262.specs.Domain.{ExactDay, ExactTime}
use Rattle.ecma262.specs.Format.Year.{four}
use Rattle.ecma262.specs.Format.Date.{toYear}
use Rattle.ecma262.specs.Format.Time.{toDecimals}
use Rattle.ecma262.specs.Format.Zone.{zulu}
use Rattle.ecma262.specs.Format.Form.{timed}
use Rattle.ecma262.specs.Texts.{ascii}
use Rattle.float.specs.Whole.{trunc_z, floor_z}
use Rattle.float.specs.Rounding.{floor_f, rem_euclid_f}
use Rattle.calendar.specs.Calendar.{num, hour_from_time_f, min_from_time_f, sec_from_time_f, ms_from_time_f, wrap32}
use Rattle.little_endian.specs.Bytes.{little_endian, twos_complement}
use Rattle.zone.specs.Zone.{Accepted, record_at, records, is_zone_list, accepts, decides, offset_at}
use Rattle.zone.proofs.Rule.{accepts-sound}
use Rattle.local.specs.Local.{asked_second, offset_of_instant, local_time}
use Rattle.field_record.specs.FieldRecord.{stands, has_length, has_other_bit, place_of, field_at, field_or}
use Rattle.new_date.specs.Calls.{Call, build, set, bits_of, absent, WrittenIn}
use Rattle.new_date.specs.declared.Part.TheVariants.{Milliseconds, Seconds, Minutes, Hours, Date, Month, FullYear}
use Rattle.new_date.specs.Standard.{absent_z, argument_z, shift_in_z, Finite, Exact, Passes}
use Rattle.reader.specs.Denotes.{instant_of}
use Rattle.demands.specs.Terms.{Short, DenotesBy, zero_list, first_is_one, minute_alone, minute_and_rest}

pub accepted-lists-exist : Accepted zero_list
unfolding records record_at little_endian twos_complement is_zone_list accepts
accepted-lists-exist = accepts-sound _ refl

-- ---- the record whose one field is 1
passes : (call : Call) (local : Bool) → Passes call local zero_list first_is_one
unfolding has_length has_other_bit ones
passes call local = record { list = λ l. accepted-lists-exist; filled = refl; known = known call }
  where
    known : (call : Call) → has_other_bit (bits_of call) first_is_one ≡ false
    known build = refl
    known (set Milliseconds) = refl
    known (set Seconds) = refl
    known (set Minutes) = refl
    known (set Hours) = refl
    known (set Date) = refl
    known (set Month) = refl
    known (set FullYear) = refl

numbers : (call : Call) → Finite call first_is_one
unfolding field_at place_of little_endian of_bits of_fields ones
numbers call =
    record {
      year = λ e. refl;
      each = λ bit h s.
          subst (λ (b : Bool). T (cond b (finite (field_at first_is_one bit)) true)) s
          (all-at (λ bit. cond (stands first_is_one bit) (finite (field_at first_is_one bit)) true) 7 tt bit (wider call bit h));
    }
  where
    wider : (call : Call) (bit : ℕ) → bit < bits_of call → bit < 7
    wider build bit h = omega arith
    wider (set Milliseconds) bit h = omega arith
    wider (set Seconds) bit h = omega arith
    wider (set Minutes) bit h = omega arith
    wider (set Hours) bit h = omega arith
    wider (set Date) bit h = omega arith
    wider (set Month) bit h = omega arith
    wider (set FullYear) bit h = omega arith

-- bounds that are computed
day : {y m dt : ℤ} → T (leb (nat_abs (y +ℤ floor_div m 12)) 280_000) → T (leb (nat_abs m) 6_000_000) → T (leb (nat_abs dt) 1_000_000) → ExactDay y m dt
day a b c = record { year = leb→le _ _ a; month = leb→le _ _ b; date = leb→le _ _ c }

clock : {h m s ms : ℤ} → T (leb (nat_abs h) 1_000_000) → T (leb (nat_abs m) 10_000_000) → T (leb (nat_abs s) 1_000_000_000) → T (leb (nat_abs ms) 1_000_000_000_000) → ExactTime h m s ms
clock a b c d = record { hour = leb→le _ _ a; minute = leb→le _ _ b; second = leb→le _ _ c; milli = leb→le _ _ d }

exact : (call : Call) → Exact call (pos 0) first_is_one
unfolding absent_z field_at place_of little_endian of_bits of_fields ones trunc_z days_in_year day_from_year year_from_time month_of days_before date_of
exact build = record { numbers = numbers build; bounds = (day tt tt tt, clock tt tt tt tt) }
exact (set Milliseconds) = record { numbers = numbers (set Milliseconds); bounds = clock tt tt tt tt }
exact (set Seconds) = record { numbers = numbers (set Seconds); bounds = clock tt tt tt tt }
exact (set Minutes) = record { numbers = numbers (set Minutes); bounds = clock tt tt tt tt }
exact (set Hours) = record { numbers = numbers (set Hours); bounds = clock tt tt tt tt }
exact (set Date) = record { numbers = numbers (set Date); bounds = day tt tt tt }
exact (set Month) = record { numbers = numbers (set Month); bounds = day tt tt tt }
exact (set FullYear) = record { numbers = numbers (set FullYear); bounds = day tt tt tt }

-- by the list (0, 0) the local time of 0 is 0
start : (local : Bool) → pos 0 ≡ shift_in_z local (records zero_list) (pos 0)
unfolding records record_at little_endian twos_complement decides offset_at asked_second offset_of_instant local_time
start true = refl
start false = refl

pub exact-records-exist : (call : Call) (local : Bool)
    → Passes call local zero_list first_is_one × Exact call (shift_in_z local (records zero_list) (pos 0)) first_is_one
exact-records-exist call local = (passes call local, subst (λ (t : ℤ). Exact call t first_is_one) (start local) (exact call))

-- ---- a gap, and the value that it stands for written in: at time 0 the minute 30 alone is 00:30:00.000
filled-in : WrittenIn (set Hours) (num 0) minute_alone minute_and_rest
unfolding absent field_or field_at place_of little_endian ones of_bits of_fields hour_from_time_f min_from_time_f sec_from_time_f ms_from_time_f floor_f rem_euclid_f wrap32 floor_z of_int to_unsigned lt rem div
filled-in zero k = (refl, refl)
filled-in (suc zero) k = (refl, refl)
filled-in (suc (suc zero)) k = (refl, refl)
filled-in (suc (suc (suc zero))) k = (refl, refl)
filled-in (suc (suc (suc (suc bit)))) k = absurd (omega arith)

in-utc : (fields : List ℕ) → has_length fields ≡ true → has_other_bit 4 fields ≡ false → Passes (set Hours) false [] fields
in-utc fields h b = record { list = λ l. absurd (true≢false (sym l)); filled = h; known = b }

pub gap-filled-exists : Passes (set Hours) false [] minute_alone × Passes (set Hours) false [] minute_and_rest × WrittenIn (set Hours) (num 0) minute_alone minute_and_rest
unfolding has_length has_other_bit ones
gap-filled-exists = (in-utc minute_alone refl refl, in-utc minute_and_rest refl refl, filled-in)

-- the full year of a NaN date, which starts from 0, is 1970 where it is absent
pub absent-year-of-nan : (fields : List ℕ) → stands fields 0 ≡ false → argument_z (set FullYear) (pos 0) fields 0 ≡ pos 1970
unfolding absent_z days_in_year day_from_year year_from_time
absent-year-of-nan fields s = rw s refl

-- ---- a text with one decimal
pub half-a-second : (zone : List ℕ) → DenotesBy Short zone (ascii "1970T00:00:00.5Z") (pos 500)
unfolding day_from_year days_before make_day instant_of
half-a-second zone = record {
  denotes = record {
    form = timed (four 1970) toYear (toDecimals 0 0 0 1 5) zulu;
    writes = record {
      bounds = (omega arith, tt, record { hour-to = omega arith; minute-to = omega arith; second-to = omega arith; decimals-ok = (omega arith, omega arith, omega arith); midnight = λ e. absurd (omega (arith, e)) }, tt);
      printed = refl;
    };
    instant = refl;
  };
  kind = omega arith;
}
