-- 02, change request 2: "Cue authors send an hours record with only minutes and expect the hour to remain." The date that such a record
-- makes has the minute that was sent, and for the rest the day and the clock that the date had. Assumes nothing.
use mathlib.Core.Path.{◌≡◌, sym, ap, ◌∙◌}
use mathlib.Core.Bool.{Bool, true, true≢false}
use mathlib.Core.List.{List}
use Prim.Native.Nat.{ℕ, zero, suc, ◌+◌, ◌*◌, ◌<◌}
use native.Mathlib.Omega.{arith}
use lib.Dec.{T}
use lib.IntN.{ℤ, pos}
use lib.Ieee.{binary64, of_bits}
use lib.Ieee.Scale.{finite}
use Rattle.ecma262.specs.Date.{InRange, day_of_time, hour_from_time, sec_from_time, ms_from_time, make_date, time_clip, Valid, fields_of}
use Rattle.ecma262.specs.Domain.{ExactTime}
use Rattle.ecma262.proofs.Clock.{hour-digit, min-digit, sec-digit, ms-digit, make-time, make-date-parts}
use Rattle.ecma262.proofs.Fields.{fields-valid}
use Rattle.float.specs.Whole.{IsWhole}
use Rattle.float.proofs.Rounding.{trunc_z-whole, whole-finite}
use Rattle.make.specs.Make.{time_value}
use Rattle.zone.specs.Zone.{records}
use Rattle.field_record.specs.FieldRecord.{stands, field_at}
use Rattle.new_date.specs.Calls.{set}
use Rattle.new_date.specs.declared.Part.TheVariants.{Hours}
use Rattle.new_date.specs.Standard.{absent_z, argument_z, new_date_z, shift_in_z, shift_out_z, value_from_z, Exact, Passes}
use Rattle.fields.specs.Outcome.{time_reply, set_outcome}
use Rattle.fields.proofs.Outcomes.{set-exact}
use Rattle.demands.specs.Terms.{OnlyMinute, MinuteSet}

module _ {fields : List ℕ} {m : ℕ} (o : OnlyMinute fields m) (h : m < 60) (t : ℤ) where
  v : Valid (fields_of t)
  v = fields-valid t

  -- the milliseconds of the day that the record asks for
  abbrev within : ℕ
  within = 3600000 * hour_from_time t + 60000 * m + 1000 * sec_from_time t + ms_from_time t

  abbrev made : ℤ
  made = make_date (day_of_time t) (pos within)

  minute-set : MinuteSet t made m
  minute-set =
      let p = make-date-parts (day_of_time t) within (omega (arith, v.hour-ok, h, v.second-ok, v.ms-ok)) in
      record {
        day = p.0;
        hour = omega (arith, hour-digit made, p.1, h, v.second-ok, v.ms-ok);
        minute = omega (arith, min-digit made, p.1, h, v.second-ok, v.ms-ok);
        second = omega (arith, sec-digit made, p.1, v.second-ok, v.ms-ok);
        ms = omega (arith, ms-digit made, p.1, v.ms-ok);
      }

  -- the record is in the exact domain, and there the standard's steps make that date
  each : (bit : ℕ) → bit < 4 → stands fields bit ≡ true → T (finite (field_at fields bit))
  each zero k s = absurd (true≢false (sym s ∙ o.hour))
  each (suc zero) k s = whole-finite o.is
  each (suc (suc zero)) k s = absurd (true≢false (sym s ∙ o.second))
  each (suc (suc (suc zero))) k s = absurd (true≢false (sym s ∙ o.ms))
  each (suc (suc (suc (suc bit)))) k s = absurd (omega arith)

  bounds : ExactTime (pos (hour_from_time t)) (pos m) (pos (sec_from_time t)) (pos (ms_from_time t))
  bounds =
      record {
        hour = omega (arith, v.hour-ok);
        minute = omega (arith, h);
        second = omega (arith, v.second-ok);
        milli = omega (arith, v.ms-ok);
      }

  exact : Exact (set Hours) t fields
  unfolding absent_z
  exact = record { numbers = record { year = λ e. cc e; each = each }; bounds = rw (o.hour, o.minute, trunc_z-whole o.is, o.second, o.ms) bounds }

  makes : new_date_z (set Hours) t (argument_z (set Hours) t fields) ≡ made
  unfolding new_date_z absent_z
  makes =
      rw (o.hour, o.minute, trunc_z-whole o.is, o.second, o.ms)
      (ap (make_date (day_of_time t)) (make-time (hour_from_time t) m (sec_from_time t) (ms_from_time t)))

pub hour-remains : (local : Bool) (zone : List ℕ) (time : ℕ) (fields : List ℕ) (z : ℤ) (m : ℕ) → Passes (set Hours) local zone fields
    → IsWhole (of_bits binary64 time) z → InRange z → OnlyMinute fields m → m < 60
    → (u : ℤ) × MinuteSet (shift_in_z local (records zone) z) u m
    × (set_outcome Hours local zone time fields ≡ time_reply (time_value (time_clip (shift_out_z local (records zone) u))))
unfolding value_from_z
hour-remains local zone time fields z m p w r o h =
    let t = shift_in_z local (records zone) z in (
      made o h t,
      minute-set o h t,
      set-exact Hours local zone fields p time z w r (exact o h t)
          ∙ ap (λ (u : ℤ). time_reply (time_value (time_clip (shift_out_z local (records zone) u)))) (makes o h t),
    )
