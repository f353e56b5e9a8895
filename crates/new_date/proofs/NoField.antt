-- A setter of a record without fields, in whole numbers: such a record is in the exact domain at each time that can be shown, and there the
-- standard's steps make the time that they start from. Assumes nothing.
use mathlib.Core.Path.{◌≡◌, ap, ◌∙◌}
use mathlib.Core.Bool.{Bool}
use mathlib.Core.List.{List}
use Prim.Native.Nat.{◌^◌}
use native.Mathlib.Nat.{zero-div}
use native.Mathlib.Omega.{arith}
use lib.IntN.{ℤ, pos, ◌+ℤ◌}
use Rattle.integers.specs.Whole.{floor_div}
use Rattle.ecma262.specs.Date.{time_within_day, year_from_time, month_from_time, date_from_time, hour_from_time, min_from_time, sec_from_time, ms_from_time, make_day, make_date, time_clip}
use Rattle.ecma262.specs.Domain.{ExactDay, ExactTime, Shown}
use Rattle.integers.proofs.Int.{ints, abs-out, at, ◌+ᵗ◌, ◌/ᵗ◌, read}
use Rattle.ecma262.proofs.Clock.{make-date-of, make-date-clock}
use Rattle.ecma262.proofs.Fields.{fields-valid, make-day-of, month-range, date-small}
use Rattle.ecma262.proofs.Range.{year-range}
use Rattle.zone.specs.Zone.{Record}
use Rattle.new_date.specs.Calls.{set}
use Rattle.new_date.specs.declared.Part.{Part}
use Rattle.new_date.specs.declared.Part.TheVariants.{Milliseconds, Seconds, Minutes, Hours, Date, Month, FullYear}
use Rattle.new_date.specs.Standard.{no_field, absent_z, argument_z, new_date_z, shift_out_z, value_from_z, Bounded, Exact}

-- ---- the exact domain
clock-bounds : (t : ℤ) → ExactTime (pos (hour_from_time t)) (pos (min_from_time t)) (pos (sec_from_time t)) (pos (ms_from_time t))
clock-bounds t =
    let v = fields-valid t in
    record { hour = omega (arith, v.hour-ok); minute = omega (arith, v.minute-ok); second = omega (arith, v.second-ok); milli = omega (arith, v.ms-ok) }

day-bounds : (t : ℤ) → Shown t → ExactDay (year_from_time t) (pos (month_from_time t)) (date_from_time t)
day-bounds t h =
    record {
      year = abs-out (year_from_time t +ℤ floor_div (pos (month_from_time t)) 12) (omega (ints, year-range t h, month-range t, read (at (year_from_time t) +ᵗ at (pos (month_from_time t)) /ᵗ 12)));
      month = omega (arith, month-range t);
      date = omega (arith, date-small t);
    }

bounds : (first : Part) (t : ℤ) → Shown t → Bounded (set first) t (argument_z (set first) t no_field)
unfolding absent_z
bounds Milliseconds t h = clock-bounds t
bounds Seconds t h = clock-bounds t
bounds Minutes t h = clock-bounds t
bounds Hours t h = clock-bounds t
bounds Date t h = day-bounds t h
bounds Month t h = day-bounds t h
bounds FullYear t h = day-bounds t h

pub no-field-exact : (first : Part) (t : ℤ) → Shown t → Exact (set first) t no_field
no-field-exact first t h = record { numbers = record { year = λ e. cc e; each = λ bit k s. cc (zero-div (2 ^ bit), s) }; bounds = bounds first t h }

-- ---- the standard's steps
by-day : (t : ℤ) → make_date (make_day (year_from_time t) (pos (month_from_time t)) (date_from_time t)) (pos (time_within_day t)) ≡ t
by-day t = ap (λ (d : ℤ). make_date d (pos (time_within_day t))) (make-day-of t) ∙ make-date-of t

unchanged : (first : Part) (t : ℤ) → new_date_z (set first) t (argument_z (set first) t no_field) ≡ t
unfolding new_date_z absent_z
unchanged Milliseconds t = make-date-clock t
unchanged Seconds t = make-date-clock t
unchanged Minutes t = make-date-clock t
unchanged Hours t = make-date-clock t
unchanged Date t = by-day t
unchanged Month t = by-day t
unchanged FullYear t = by-day t

-- THE LAW: the value is that of the time itself, shifted out
pub no-field-value : (first : Part) (local : Bool) (list : List Record) (t : ℤ) → value_from_z (set first) local list t no_field ≡ time_clip (shift_out_z local list t)
unfolding value_from_z
no-field-value first local list t = ap (λ (u : ℤ). time_clip (shift_out_z local list u)) (unchanged first t)
