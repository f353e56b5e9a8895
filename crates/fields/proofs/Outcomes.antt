-- The promises of the builder and the setters, said of their whole outcomes: in the exact domain the answer is the standard's own steps in
-- whole numbers; outside it a field that is not finite gives NaN; a gap is the call with its value written in, and a setter of no field gives
-- the date that it starts from; and every answer is a refusal or a time value. Assumes nothing.
use mathlib.Core.Path.{◌≡◌, refl, sym, ap, ◌∙◌, subst}
use mathlib.Core.Bool.{Bool, true, false, not, cond, ◌&&◌}
use mathlib.Core.List.{List, []}
use Prim.Native.Nat.{ℕ, ◌<◌, ◌^◌}
use borrow.Author.Tests.{lt-leb}
use lib.Count.{ones}
use lib.Dec.{lit≤}
use lib.Pow.{pow_pos}
use lib.IntN.{ℤ, pos}
use lib.Ieee.{Float, nan, binary64, of_bits}
use lib.Ieee.Scale.{finite}
use Rattle.ecma262.specs.Date.{InRange, time_clip}
use Rattle.float.specs.Whole.{IsWhole, trunc_z}
use Rattle.float.proofs.Rounding.{number-unique, trunc_z-whole}
use Rattle.calendar.specs.Calendar.{num}
use Rattle.calendar.proofs.Whole.{num-whole}
use Rattle.make.specs.Make.{IsTimeValue, time_value}
use Rattle.zone.specs.Zone.{Record, Accepted, accepts, records}
use Rattle.zone.proofs.Rule.{accepts-complete}
use Rattle.timevalue.specs.declared.TimeValue.{TimeValue}
use Rattle.timevalue.specs.declared.TimeValue.TheVariants as given
use Rattle.timevalue.specs.TimeValue.{time_value_of}
use Rattle.timevalue.proofs.Laws.{Judged, is-time, is-nan, is-refused, judge}
use Rattle.field_record.specs.FieldRecord.{stands, has_length, has_other_bit, field_at}
use Rattle.answer.specs.declared.Refusal.{Refusal}
use Rattle.answer.specs.declared.Refusal.TheVariants as fault
use Rattle.std.specs.Prelude.{Option, Some, None, IsSome, Result, Err}
use Rattle.new_date.specs.declared.Part.{Part}
use Rattle.new_date.specs.declared.Part.TheVariants.{FullYear}
use Rattle.new_date.specs.Calls.{build, set, bits_of, absent, WrittenIn, new_date, new_date_of, value_from}
use Rattle.fields.specs.Outcome.{start_of, value_of, taken, refuse, zone_row, time_row, record_rows, time_reply, build_outcome, set_outcome}
use Rattle.new_date.specs.Standard.{no_field, shift_in_z, shift_out_z, value_from_z, Exact, Passes}
use Rattle.fields.proofs.Rows.{start-whole}
use Rattle.new_date.proofs.Exact.{value-exact}
use Rattle.new_date.proofs.NoField.{no-field-exact, no-field-value}
use Rattle.new_date.proofs.WrittenIn.{written-in}
use Rattle.new_date.proofs.Values.{from-time-value, given-nan, has-first, no-year-nan, nan-date, year-of-nan}

-- ---- past the rows
list-row : (local : Bool) (zone : List ℕ) → (local ≡ true → Accepted zone) → (local && not (accepts zone)) ≡ false
list-row false zone l = refl
list-row true zone l = ap not (accepts-complete zone (l refl))

module _ (first : Part) (local : Bool) (zone fields : List ℕ) (p : Passes (set first) local zone fields) where
  pub set_value : (time : ℕ) (v : TimeValue) → time_value_of time ≡ Some v → set_outcome first local zone time fields ≡ time_reply (value_of first local (records zone) v fields)
  unfolding set_outcome
  set_value time v e = rw (list-row local zone p.list, e, p.filled, p.known)

  -- THE LAW of a setter: the date is the whole number z, by any bits of it
  pub set-exact : (time : ℕ) (z : ℤ) → IsWhole (of_bits binary64 time) z → InRange z → Exact (set first) (shift_in_z local (records zone) z) fields
      → set_outcome first local zone time fields ≡ time_reply (time_value (value_from_z (set first) local (records zone) (shift_in_z local (records zone) z) fields))
  unfolding start_of
  set-exact time z w r e = go (judge time)
    where
      go : Judged time → set_outcome first local zone time fields ≡ time_reply (time_value (value_from_z (set first) local (records zone) (shift_in_z local (records zone) z) fields))
      go (is-time t q k) =
          let same : trunc_z t ≡ z = number-unique k.value w in
          let s = start-whole local (records zone) (λ l. (p.list l).rule) (subst (IsWhole t) same k.time.whole) r in
          set_value time (given.Time t) q ∙ ap time_reply (value-exact s.0 s.1 (set first) local (records zone) (λ l. (p.list l).rule) fields e)
      go (is-nan q k) = absurd (subst (λ (x : Float). IsWhole x z) k w).value
      go (is-refused q j k) = absurd (k (record { whole = subst (IsWhole _) (sym (trunc_z-whole w)) w; range = subst InRange (sym (trunc_z-whole w)) r }))

  -- a field that is not finite gives NaN, whatever the date
  nan-anyway : (time : ℕ) → ((t : Float) → value_from (set first) local (records zone) t fields ≡ nan) → IsSome (time_value_of time) → set_outcome first local zone time fields ≡ time_reply nan
  nan-anyway time f r = go (time_value_of time) refl r
    where
      go : (o : Option TimeValue) → time_value_of time ≡ o → IsSome o → set_outcome first local zone time fields ≡ time_reply nan
      go (Some v) e s = set_value time v e ∙ ap time_reply (f _)
      go None e s = cc

  pub set-field-nan : (time : ℕ) (i : ℕ) → IsSome (time_value_of time) → i < bits_of (set first) → stands fields i ≡ true → finite (field_at fields i) ≡ false
      → set_outcome first local zone time fields ≡ time_reply nan
  set-field-nan time i r h s e = nan-anyway time (λ t. given-nan (set first) local (records zone) t fields i h s e) r

  -- so a NaN first field clears the date
  pub set-first-nan : (time : ℕ) → IsSome (time_value_of time) → stands fields 0 ≡ true → field_at fields 0 ≡ nan → set_outcome first local zone time fields ≡ time_reply nan
  set-first-nan time r s e = set-field-nan time 0 r (has-first first) s (ap finite e)

-- a gap and the value that it stands for, written in, give one answer
pub set-written-in : (first : Part) (local : Bool) (zone gap full : List ℕ) → Passes (set first) local zone gap → Passes (set first) local zone full → (time : ℕ) (v : TimeValue)
    → time_value_of time ≡ Some v → WrittenIn (set first) (start_of local (records zone) v) gap full → set_outcome first local zone time gap ≡ set_outcome first local zone time full
set-written-in first local zone gap full p q time v e w =
    set_value first local zone gap p time v e
    ∙ ap time_reply (written-in (set first) local (records zone) (start_of local (records zone) v) gap full w)
    ∙ sym (set_value first local zone full q time v e)

-- ---- a NaN date: "Every setter but `set_full_year` gives NaN for NaN; that one starts from 0, with no local shift."
nan-time : (time : ℕ) → of_bits binary64 time ≡ nan → time_value_of time ≡ Some given.Nan
nan-time time e = go (judge time)
  where
    go : Judged time → time_value_of time ≡ Some given.Nan
    go (is-time t q k) = absurd (subst (λ (x : Float). IsWhole x (trunc_z t)) e k.value).value
    go (is-nan q k) = q
    go (is-refused q j k) = absurd (j e)

pub set-year-of-nan : (local : Bool) (zone fields : List ℕ) → Passes (set FullYear) local zone fields → (time : ℕ) → of_bits binary64 time ≡ nan → Exact (set FullYear) (pos 0) fields
    → set_outcome FullYear local zone time fields ≡ time_reply (time_value (value_from_z (set FullYear) local (records zone) (pos 0) fields))
unfolding start_of
set-year-of-nan local zone fields p time n e =
    set_value FullYear local zone fields p time given.Nan (nan-time time n)
    ∙ ap time_reply (year-of-nan local (records zone) fields ∙ value-exact (num-whole 0 (lit≤ tt)) (lit≤ tt) (set FullYear) local (records zone) (λ l. (p.list l).rule) fields e)

pub set-of-nan : (first : Part) (local : Bool) (zone fields : List ℕ) → Passes (set first) local zone fields → (time : ℕ) → of_bits binary64 time ≡ nan → (first ≡ FullYear → ⊥)
    → set_outcome first local zone time fields ≡ time_reply nan
unfolding start_of
set-of-nan first local zone fields p time n other =
    set_value first local zone fields p time given.Nan (nan-time time n) ∙ ap time_reply (nan-date first local (records zone) fields other)

-- ---- "a bare map of 0": no field is given, and each keeps its present value
pub no-field-passes : (first : Part) (local : Bool) (zone : List ℕ) → (local ≡ true → Accepted zone) → Passes (set first) local zone no_field
unfolding has_length has_other_bit ones
no-field-passes first local zone l = record { list = l; filled = refl; known = lt-leb (2 ^ bits_of (set first)) 0 (pow_pos (bits_of (set first))) }

-- the date that it starts from goes out again: in UTC it is the same instant, and locally `utc_t` of `local_time`
pub set-no-field : (first : Part) (local : Bool) (zone : List ℕ) → (local ≡ true → Accepted zone) → (time : ℕ) (z : ℤ) → IsWhole (of_bits binary64 time) z → InRange z
    → set_outcome first local zone time no_field ≡ time_reply (time_value (time_clip (shift_out_z local (records zone) (shift_in_z local (records zone) z))))
set-no-field first local zone l time z w r =
    let start = shift_in_z local (records zone) z in
    let s = start-whole local (records zone) (λ e. (l e).rule) w r in
    set-exact first local zone no_field (no-field-passes first local zone l) time z w r (no-field-exact first start s.1)
    ∙ ap (λ v. time_reply (time_value v)) (no-field-value first local (records zone) start)

-- the full year of a NaN date starts from 0: with no field given the new date is 0, and a local call takes it out by `utc_t`
pub set-no-year-of-nan : (local : Bool) (zone : List ℕ) → (local ≡ true → Accepted zone) → (time : ℕ) → of_bits binary64 time ≡ nan
    → set_outcome FullYear local zone time no_field ≡ time_reply (time_value (time_clip (shift_out_z local (records zone) (pos 0))))
set-no-year-of-nan local zone l time n =
    set-year-of-nan local zone no_field (no-field-passes FullYear local zone l) time n (no-field-exact FullYear (pos 0) (lit≤ tt))
    ∙ ap (λ v. time_reply (time_value v)) (no-field-value FullYear local (records zone) (pos 0))

-- ---- the builder
module _ (local : Bool) (zone fields : List ℕ) (p : Passes build local zone fields) where
  build-value : build_outcome local zone fields ≡ time_reply (value_from build local (records zone) nan fields)
  unfolding build_outcome
  build-value = rw (list-row local zone p.list, p.filled, p.known)

  no_start : value_from build local (records zone) nan fields ≡ value_from build local (records zone) (num 0) fields
  unfolding value_from new_date_of new_date absent
  no_start = refl

  -- THE LAW of the builder: "building UTC fields is MakeFullYear, MakeDay, MakeTime, MakeDate and TimeClip"; locally with UTC(t) before TimeClip
  pub build-exact : Exact build (pos 0) fields → build_outcome local zone fields ≡ time_reply (time_value (value_from_z build local (records zone) (pos 0) fields))
  build-exact e = build-value ∙ ap time_reply (no_start ∙ value-exact (num-whole 0 (lit≤ tt)) (lit≤ tt) build local (records zone) (λ l. (p.list l).rule) fields e)

  pub build-field-nan : (i : ℕ) → i < 7 → stands fields i ≡ true → finite (field_at fields i) ≡ false → build_outcome local zone fields ≡ time_reply nan
  build-field-nan i h s e = build-value ∙ ap time_reply (given-nan build local (records zone) nan fields i h s e)

  pub build-first-nan : stands fields 0 ≡ false → build_outcome local zone fields ≡ time_reply nan
  build-first-nan s = build-value ∙ ap time_reply (no-year-nan local (records zone) nan fields s)

pub build-written-in : (local : Bool) (zone gap full : List ℕ) → Passes build local zone gap → Passes build local zone full → WrittenIn build nan gap full
    → build_outcome local zone gap ≡ build_outcome local zone full
build-written-in local zone gap full p q w =
    build-value local zone gap p ∙ ap time_reply (written-in build local (records zone) nan gap full w) ∙ sym (build-value local zone full q)

-- ---- every answer: a refusal, or the bits of a time value
pub data IsAnswer : Result ℕ Refusal → Type 0 where
  a-time : (x : Float) → IsTimeValue x → IsAnswer (time_reply x)
  a-refusal : (f : Refusal) → IsAnswer (Err f)

refuse-answer : (b : Bool) (f : Refusal) (r : Result ℕ Refusal) → IsAnswer r → IsAnswer (cond b (Err f) r)
refuse-answer true f r a = a-refusal f
refuse-answer false f r a = a

zone-answer : (local : Bool) (zone : List ℕ) (r : Result ℕ Refusal) → IsAnswer r → IsAnswer (zone_row local zone r)
zone-answer local zone r a = refuse-answer (local && not (accepts zone)) fault.ZoneList r a

time-answer : (o : Option TimeValue) (r : TimeValue → Result ℕ Refusal) → ((v : TimeValue) → IsAnswer (r v)) → IsAnswer (taken o r)
time-answer (Some v) r a = a v
time-answer None r a = a-refusal fault.TimeValue

record-answer : (bits : ℕ) (fields : List ℕ) (r : Result ℕ Refusal) → IsAnswer r → IsAnswer (record_rows bits fields r)
record-answer bits fields r a =
    refuse-answer (not (has_length fields)) fault.RecordLength (refuse (has_other_bit bits fields) fault.RecordMap r)
    (refuse-answer (has_other_bit bits fields) fault.RecordMap r a)

pub set-answer : (first : Part) (local : Bool) (zone : List ℕ) (time : ℕ) (fields : List ℕ) → IsAnswer (set_outcome first local zone time fields)
unfolding set_outcome
set-answer first local zone time fields =
    let r = λ (v : TimeValue). time_reply (value_of first local (records zone) v fields) in
    let rows = λ (v : TimeValue). record_rows (bits_of (set first)) fields (r v) in
    zone-answer local zone (time_row time rows)
    (time-answer (time_value_of time) rows (λ v. record-answer (bits_of (set first)) fields (r v) (a-time _ (from-time-value (set first) local (records zone) _ fields))))

pub build-answer : (local : Bool) (zone fields : List ℕ) → IsAnswer (build_outcome local zone fields)
unfolding build_outcome
build-answer local zone fields =
    let r = time_reply (value_from build local (records zone) nan fields) in
    zone-answer local zone (record_rows 7 fields r) (record-answer 7 fields r (a-time _ (from-time-value build local (records zone) nan fields)))

-- ---- "the public UTC calls take none": what is handed over for a zone list does not matter
same_start : (one other : List Record) (v : TimeValue) → start_of false one v ≡ start_of false other v
unfolding start_of
same_start one other (given.Time t) = refl
same_start one other given.Nan = refl

pub set-utc : (first : Part) (zone : List ℕ) (time : ℕ) (fields : List ℕ) → set_outcome first false zone time fields ≡ set_outcome first false [] time fields
unfolding set_outcome value_from
set-utc first zone time fields =
    ap (λ (start : TimeValue → Float). time_row time (λ v. record_rows (bits_of (set first)) fields (time_reply (value_from (set first) false [] (start v) fields))))
    (λ i v. same_start (records zone) (records []) v i)

pub build-utc : (zone fields : List ℕ) → build_outcome false zone fields ≡ build_outcome false [] fields
unfolding build_outcome value_from
build-utc zone fields = refl
