-- Demand 2, in the customer's words and order, of the definitions that the contracts cite: the calendar's functions on f64, `day_f` and its
-- kin (crates/calendar/specs/Calendar.antt), and the outcomes `build_outcome` (zovattha_build_utc, zovattha_build_local), `set_outcome` (the 14
-- setters), `read_outcome` (zovattha_read), `iso_outcome`, `utc_outcome`, `local_outcome` (zovattha_to_iso_string, zovattha_to_utc_string,
-- zovattha_to_string). Its terms, with their files below crates/; those of its own stand in demands/specs/Terms, each beside its words:
--   InRange t, Shown t         a whole millisecond "of the range"; of the range "and its local shifts"    ecma262/specs/Date, Domain
--   IsWhole x z                the f64 x has the value z, a whole number (-0 has 0)                       float/specs/Whole
--   CalendarAt t z             each function of a time "is ECMA-262's in whole numbers"                   demands/specs/Terms
--   Passes call …              none of the rows 1, 3 and 4 applies                                        new_date/specs/Standard
--   Exact call t fields        a field record "in the exact domain"                                       new_date/specs/Standard
--   argument_z call t fields   the call's arguments: the fields truncated, or what absent ones stand for  new_date/specs/Standard
--   no_field                   "a bare map of 0", a record without fields                                 new_date/specs/Standard
--   WrittenIn call t gap full  the record full has the arguments of the record gap, each as a field       new_date/specs/Calls
--   stands, field_at fields i  whether a record has the field of bit i; that field, as f64                field_record/specs/FieldRecord
--   time_value_of, start_of    the time value of a date's bits, none for row 2; where a setter starts     timevalue/specs/TimeValue, fields/specs/Outcome
--   shift_in_z, shift_out_z    local: a time shifted by the list in, and out; in UTC the time itself               new_date/specs/Standard
--   time_value, time_reply     a clipped time as f64, NaN for none; its bits as an answer                 make/specs/Make, fields/specs/Outcome
--   Accepted zone              an accepted zone list                                                      zone/specs/Zone
--   Writes form text           the text is "the Date Time String Format as 01 sets it", by its form, with
--                              02's decimals                                                              ecma262/specs/Format
--   thousandths places n       decimals, so many digits that write n, in milliseconds                     ecma262/specs/Format
--   Denotes zone text t        t is "the instant that 01 says the text denotes"                           reader/specs/Denotes
--   DenotesBy kind …           it is so by a form of a kind: ThreeOrNone decimals, or Short               demands/specs/Terms
--   AcceptedText zone text     list and text are accepted: the text denotes an instant of the range       reader/specs/Denotes
--   iso_text, utc_text …       the standard's texts                                                       ecma262/specs/Texts
--   written value text out     the text is written, or the output is shorter than it (row 11)             writer/specs/Outcome
-- The differential run is no theorem: docs/DIFFERENTIAL.md. That accepted lists exist, Demand3 says. The proofs are by the laws that are
-- cited. Assumes nothing.
use mathlib.Core.Path.{◌≡◌, refl, sym, ap, ◌∙◌}
use mathlib.Core.Bool.{Bool, true, false, true≢false}
use mathlib.Core.List.{List, [], ◌∷◌, ◌++◌}
use mathlib.Core.Logic.{◌↔◌, ◌⊎◌}
use Prim.Native.Nat.{ℕ, ◌-◌, ◌*◌, ◌≤◌, ◌<◌}
use native.Mathlib.Omega.{arith}
use lib.IntN.{ℤ, pos, nat_abs}
use lib.ListN.{length, replicate}
use lib.Ieee.{Float, nan, binary64, of_bits, of_int}
use Rattle.ecma262.specs.Date.{InRange, IsYearFromTime, year_from_time, IsMakeDay, make_day, time_clip}
use Rattle.ecma262.specs.Domain.{Shown}
use Rattle.ecma262.specs.Texts.{ascii, iso_text, utc_text, local_text, invalid_date}
use Rattle.ecma262.specs.Digits.{digits}
use Rattle.ecma262.specs.Format.{Year, Date, Form, Bounds, TimeBounds, prints, prints_time, time_fields, thousandths}
use Rattle.ecma262.specs.Format.Time.{toDecimals}
use Rattle.ecma262.proofs.Decimals.{tenths, hundredths, three-decimals, zeros-behind-to-three}
use Rattle.ecma262.proofs.Year.{year-is, year-unique}
use Rattle.ecma262.proofs.Fields.{year-day, date-natural, make-day-is, make-day-unique}
use Rattle.ecma262.proofs.Range.{clip-inside}
use Rattle.ecma262.proofs.Texts.{lengths-iso, lengths-utc, lengths-local, length-invalid}
use Rattle.float.specs.Whole.{IsWhole}
use Rattle.float.proofs.Whole.{of_int-whole}
use Rattle.calendar.specs.Calendar.{num}
use Rattle.calendar.proofs.Whole as whole
use Rattle.make.specs.Make.{time_value}
use Rattle.zone.specs.Zone.{Accepted, records}
use Rattle.timevalue.specs.declared.TimeValue.{TimeValue}
use Rattle.timevalue.specs.TimeValue.{time_value_of}
use Rattle.field_record.specs.FieldRecord.{stands, field_at}
use Rattle.local.specs.Local.{offset_of_instant, offset_of_suffix, local_time, utc_time}
use Rattle.local.proofs.Whole.{local-time-shown}
use Rattle.answer.specs.Answer.{nan_value, time_bits}
use Rattle.answer.specs.declared.Refusal.TheVariants.{NoTime}
use Rattle.std.specs.Prelude.{Some, IsSome, Ok}
use Rattle.new_date.specs.declared.Part.{Part}
use Rattle.new_date.specs.declared.Part.TheVariants.{Hours, FullYear}
use Rattle.new_date.specs.Calls.{Call, build, set, WrittenIn}
use Rattle.new_date.specs.Standard.{no_field, argument_z, new_date_z, shift_in_z, shift_out_z, value_from_z, Exact, Passes}
use Rattle.new_date.proofs.NoField.{no-field-exact}
use Rattle.fields.specs.Outcome.{start_of, time_reply, build_outcome, set_outcome}
use Rattle.fields.proofs.Outcomes.{build-exact, build-first-nan, build-written-in, no-field-passes, set-exact, set-first-nan, set-no-field, set-no-year-of-nan, set-of-nan, set-written-in, set-year-of-nan}
use Rattle.parser.specs.declared.Fault.TheVariants.{Bad}
use Rattle.parser.specs.Reading.{ok, fault, after, is_digit, digits_upto, no_digit, all_digits, decimals_of, read_zone, ending}
use Rattle.parser.specs.Inner.{NotDigit}
use Rattle.reader.specs.Denotes.{Denotes, AcceptedText}
use Rattle.reader.specs.Outcome.{answer_at, read_outcome}
use Rattle.reader.proofs.Denotation.{denotes-unique, answered}
use Rattle.writer.specs.Outcome.{refused, written}
use Rattle.writer.specs.Writer.{iso_outcome, utc_outcome, local_outcome}
use Rattle.demands.specs.Terms.{CalendarAt, CalendarOfYear, built, steps_from, read_number, OfText, NoForm, DenotesOutside, ThreeOrNone, Short, DenotesBy, with_three, digits_before, OnlyMinute, MinuteSet, until_suffix, suffix, zero_list, first_is_one, minute_alone, minute_and_rest}
use Rattle.demands.proofs.Cases as cases
use Rattle.demands.proofs.Decimals as decimals
use Rattle.demands.proofs.Kept as kept
use Rattle.demands.proofs.Reading as reading
use Rattle.demands.proofs.Writing as writing

-- ---- "the float calendar is ECMA-262's in whole numbers at each whole millisecond of the range", and "its local shifts"

pub calendar-at : (t : Float) (z : ℤ) → IsWhole t z → Shown z → CalendarAt t z
calendar-at t z w h =
    record {
      day = whole.day-whole w (whole.shown-small z h);
      time-within-day = whole.time-within-day-whole w;
      year = whole.year-from-time-whole w h;
      day-within-year = ap pos (whole.day-within-year-whole w h) ∙ sym (year-day z);
      leap = whole.in-leap-year-whole w h;
      month = whole.month-from-time-whole w h;
      date = ap pos (whole.date-from-time-whole w h) ∙ date-natural z;
      weekday = whole.week-day-whole w h;
      hour = whole.hour-from-time-whole w h;
      minute = whole.min-from-time-whole w h;
      second = whole.sec-from-time-whole w h;
      ms = whole.ms-from-time-whole w h;
    }

-- each whole millisecond of the range has its f64 and can be shown, in UTC and in the local time of every accepted list
pub each-millisecond : (z : ℤ) → InRange z → IsWhole (of_int binary64 z) z × Shown z
each-millisecond z h = (of_int-whole binary64 z (omega arith), omega arith)

pub each-local-shift : (zone : List ℕ) → Accepted zone → (z : ℤ) → InRange z → Shown (local_time (records zone) z)
each-local-shift zone a z h = local-time-shown (records zone) a.rule z h

-- the functions of a year; one of the range and its local shifts is within ±275,821
pub calendar-of-year : (y : Float) (z : ℤ) → IsWhole y z → nat_abs z ≤ 280_001 → CalendarOfYear y z
calendar-of-year y z w h =
    record {
      days = whole.days-in-year-whole w;
      first-day = whole.day-from-year-whole z (omega arith) w;
      start = whole.time-from-year-whole h w;
    }

-- the standard's two searches: YearFromTime's, and MakeDay's, "among all whole milliseconds, inside the range or not"
pub year-is-the-search : (t y : ℤ) → (y ≡ year_from_time t) ↔ IsYearFromTime t y
year-is-the-search t y = (λ e. rw e (year-is t), λ s. year-unique t y (year_from_time t) s (year-is t))

pub make-day-is-the-search : (y m dt day : ℤ) → (day ≡ make_day y m dt) ↔ IsMakeDay y m dt day
make-day-is-the-search y m dt day = (λ e. rw e (make-day-is y m dt), make-day-unique y m dt day)

-- ---- the builder and the setters. Outside the exact domain "the promise is the Rust's operations in its order, each rounded once":
-- `build_outcome` and `set_outcome` are these operations, so no theorem is needed there.

-- "in the exact domain, building UTC fields is MakeFullYear, MakeDay, MakeTime, MakeDate and TimeClip"
pub building-utc-fields : (fields : List ℕ) → Passes build false [] fields → Exact build (pos 0) fields
    → build_outcome false [] fields ≡ time_reply (time_value (time_clip (built (argument_z build (pos 0) fields))))
unfolding new_date_z value_from_z
building-utc-fields fields p e = build-exact false [] fields p e

-- the many-field constructor: "a local call does its lookups as `local_time` and `utc_t` do", here `utc_t`'s before TimeClip
pub building-local-fields : (zone fields : List ℕ) → Passes build true zone fields → Exact build (pos 0) fields
    → build_outcome true zone fields ≡ time_reply (time_value (time_clip (utc_time (records zone) (built (argument_z build (pos 0) fields)))))
unfolding new_date_z value_from_z
building-local-fields zone fields p e = build-exact true zone fields p e

-- "In the exact domain the setters too are proved to follow the standard's own steps", whichever fields are absent: "in a setter every absent
-- field keeps its present value, the first too". The date is the whole number z, by any of its bits
pub setters-follow-the-standard : (first : Part) (local : Bool) (zone : List ℕ) (time : ℕ) (fields : List ℕ) (z : ℤ) → Passes (set first) local zone fields
    → IsWhole (of_bits binary64 time) z → InRange z → Exact (set first) (shift_in_z local (records zone) z) fields
    → set_outcome first local zone time fields ≡ time_reply (steps_from (set first) local zone (shift_in_z local (records zone) z) fields)
unfolding value_from_z
setters-follow-the-standard first local zone time fields z p w r e = set-exact first local zone fields p time z w r e

-- the exact domain is not empty: every call, UTC or local, has a record in it, and a setter's record may leave out every field
pub exact-records-exist : (call : Call) (local : Bool) → Passes call local zero_list first_is_one × Exact call (shift_in_z local (records zero_list) (pos 0)) first_is_one
exact-records-exist = cases.exact-records-exist

pub no-field-is-exact : (first : Part) (local : Bool) (zone : List ℕ) → (local ≡ true → Accepted zone) → (t : ℤ) → Shown t → Passes (set first) local zone no_field × Exact (set first) t no_field
no-field-is-exact first local zone l t h = (no-field-passes first local zone l, no-field-exact first t h)

-- "A gap before a given argument … equals the call with the value just said written in": full has every field, gap's absent ones by what they
-- stand for. There are such records
pub setter-with-gaps-filled : (first : Part) (local : Bool) (zone : List ℕ) (time : ℕ) (gap full : List ℕ) (v : TimeValue) → Passes (set first) local zone gap → Passes (set first) local zone full
    → time_value_of time ≡ Some v → WrittenIn (set first) (start_of local (records zone) v) gap full
    → set_outcome first local zone time gap ≡ set_outcome first local zone time full
setter-with-gaps-filled first local zone time gap full v p q e w = set-written-in first local zone gap full p q time v e w

pub builder-with-gaps-filled : (local : Bool) (zone gap full : List ℕ) → Passes build local zone gap → Passes build local zone full → WrittenIn build nan gap full
    → build_outcome local zone gap ≡ build_outcome local zone full
builder-with-gaps-filled = build-written-in

pub gap-filled-exists : Passes (set Hours) false [] minute_alone × Passes (set Hours) false [] minute_and_rest × WrittenIn (set Hours) (num 0) minute_alone minute_and_rest
gap-filled-exists = cases.gap-filled-exists

-- 02, change request 2: "Cue authors send an hours record with only minutes and expect the hour to remain." In UTC or by the local clock
pub hour-remains : (local : Bool) (zone : List ℕ) (time : ℕ) (fields : List ℕ) (z : ℤ) (m : ℕ) → Passes (set Hours) local zone fields
    → IsWhole (of_bits binary64 time) z → InRange z → OnlyMinute fields m → m < 60
    → (u : ℤ) × MinuteSet (shift_in_z local (records zone) z) u m
    × (set_outcome Hours local zone time fields ≡ time_reply (time_value (time_clip (shift_out_z local (records zone) u))))
hour-remains = kept.hour-remains

-- a bare map of 0 is a call like any other: in UTC it gives the time back, locally `utc_t` of `local_time`
pub no-field-in-utc : (first : Part) (time : ℕ) (z : ℤ) → IsWhole (of_bits binary64 time) z → InRange z → set_outcome first false [] time no_field ≡ Ok (time_bits z)
no-field-in-utc first time z w r = set-no-field first false [] (λ e. absurd (true≢false (sym e))) time z w r ∙ ap (λ v. time_reply (time_value v)) (clip-inside z r)

pub no-field-locally : (first : Part) (zone : List ℕ) → Accepted zone → (time : ℕ) (z : ℤ) → IsWhole (of_bits binary64 time) z → InRange z
    → set_outcome first true zone time no_field ≡ time_reply (time_value (time_clip (utc_time (records zone) (local_time (records zone) z))))
no-field-locally first zone a time z w r = set-no-field first true zone (λ e. a) time z w r

-- a given first field that is NaN gives NaN, of any date: so a date is cleared
pub first-field-nan : (first : Part) (local : Bool) (zone : List ℕ) (time : ℕ) (fields : List ℕ) → Passes (set first) local zone fields
    → IsSome (time_value_of time) → stands fields 0 ≡ true → field_at fields 0 ≡ nan → set_outcome first local zone time fields ≡ time_reply nan
first-field-nan first local zone time fields p v s e = set-first-nan first local zone fields p time v s e

-- and in the builder "year NaN" where it is absent
pub absent-year : (local : Bool) (zone fields : List ℕ) → Passes build local zone fields → stands fields 0 ≡ false → build_outcome local zone fields ≡ time_reply nan
absent-year local zone fields p s = build-first-nan local zone fields p s

-- "Every setter but `set_full_year` gives NaN for NaN; that one starts from 0, with no local shift."
pub setters-of-nan : (first : Part) (local : Bool) (zone : List ℕ) (time : ℕ) (fields : List ℕ) → Passes (set first) local zone fields
    → of_bits binary64 time ≡ nan → (first ≡ FullYear → ⊥) → set_outcome first local zone time fields ≡ time_reply nan
setters-of-nan first local zone time fields p n o = set-of-nan first local zone fields p time n o

pub full-year-of-nan : (local : Bool) (zone : List ℕ) (time : ℕ) (fields : List ℕ) → Passes (set FullYear) local zone fields
    → of_bits binary64 time ≡ nan → Exact (set FullYear) (pos 0) fields
    → set_outcome FullYear local zone time fields ≡ time_reply (steps_from (set FullYear) local zone (pos 0) fields)
unfolding value_from_z
full-year-of-nan local zone time fields p n e = set-year-of-nan local zone fields p time n e

-- so an absent year is 1970, and with a bare map of 0 the new date is 0, which a local call takes out by `utc_t`
pub absent-year-of-nan : (fields : List ℕ) → stands fields 0 ≡ false → argument_z (set FullYear) (pos 0) fields 0 ≡ pos 1970
absent-year-of-nan = cases.absent-year-of-nan

pub no-field-full-year-of-nan : (local : Bool) (zone : List ℕ) → (local ≡ true → Accepted zone) → (time : ℕ) → of_bits binary64 time ≡ nan
    → set_outcome FullYear local zone time no_field ≡ time_reply (time_value (time_clip (shift_out_z local (records zone) (pos 0))))
no-field-full-year-of-nan = set-no-year-of-nan

-- ---- "the reader accepts exactly the Date Time String Format as 01 sets it and answers the instant that 01 says the text denotes"

-- 0 exactly when list and text are accepted
pub accepts-exactly : (zone text : List ℕ) → (read_number zone text ≡ 0) ↔ AcceptedText zone text
accepts-exactly = reading.zero-exactly

-- and then the time is that of the instant denoted, of which there is one
pub answers-the-instant : (zone text : List ℕ) (a : AcceptedText zone text) → read_outcome zone text ≡ Ok (time_bits a.t)
answers-the-instant zone text a = reading.inside-answer zone text a.list a.t a.denotes a.inside

pub denotes-one-instant : (zone text : List ℕ) (t u : ℤ) → Denotes zone text t → Denotes zone text u → t ≡ u
denotes-one-instant = denotes-unique

-- one of 5 to 8 exactly when the list is accepted and no form writes the text
pub refuses-the-text-exactly : (zone text : List ℕ) → OfText (read_number zone text) ↔ (Accepted zone × NoForm text)
refuses-the-text-exactly = reading.text-exactly

-- 9 exactly when the list is accepted and the text denotes an instant outside the range
pub refuses-the-instant-exactly : (zone text : List ℕ) → (read_number zone text ≡ 9) ↔ (Accepted zone × DenotesOutside zone text)
refuses-the-instant-exactly = reading.nine-exactly

-- 1 exactly when the list is not accepted
pub refuses-the-list-exactly : (zone text : List ℕ) → (read_number zone text ≡ 1) ↔ (Accepted zone → ⊥)
refuses-the-list-exactly = reading.one-exactly

-- ---- the decimals. 02, change request 8: "After the point one to three digits are now read, as tenths, hundredths or thousandths."

pub tenths-hundredths-thousandths : (d : ℕ) → (thousandths 1 d ≡ 100 * d) × (thousandths 2 d ≡ 10 * d) × (thousandths 3 d ≡ d)
tenths-hundredths-thousandths d = (tenths d, hundredths d, three-decimals d)

-- the format before is the case of three digits: they print, are fields and are bounded as before the request
pub three-decimals-as-before : (h m s ms : ℕ)
    → (prints_time (toDecimals h m s 3 ms) ≡ digits 2 h ++ 58 ∷ digits 2 m ++ 58 ∷ digits 2 s ++ 46 ∷ digits 3 ms)
    × (time_fields (toDecimals h m s 3 ms) ≡ record { hour = h; minute = m; second = s; ms = ms })
    × (TimeBounds (toDecimals h m s 3 ms) ↔ ((h ≤ 24) × (m ≤ 59) × (s ≤ 59) × (ms ≤ 999) × (h ≡ 24 → (m ≡ 0) × (s ≡ 0) × (ms ≡ 0))))
three-decimals-as-before h m s ms = (refl, decimals.three-fields h m s ms, decimals.three-bounds-as-before h m s ms)

-- acceptance grows only: each text of the format before, whose form has three decimals or none, is answered by the instant that it denotes; new
-- are the texts with one decimal or two, and no text is both
pub old-texts-answered : (zone text : List ℕ) (t : ℤ) → Accepted zone → DenotesBy ThreeOrNone zone text t → read_outcome zone text ≡ answer_at t
old-texts-answered zone text t a o = answered zone text a t o.denotes

pub new-texts : (zone text : List ℕ) (t : ℤ) → Denotes zone text t ↔ (DenotesBy ThreeOrNone zone text t ⊎ DenotesBy Short zone text t)
new-texts = decimals.new-texts

pub no-text-is-both : (zone text : List ℕ) (t u : ℤ) → DenotesBy ThreeOrNone zone text t → DenotesBy Short zone text u → ⊥
no-text-is-both = decimals.no-text-is-both

-- "`.5` for half a second": there are such texts
pub half-a-second : (zone : List ℕ) → DenotesBy Short zone (ascii "1970T00:00:00.5Z") (pos 500)
half-a-second = cases.half-a-second

-- `Denotes` gives `.5` and `.500` the same instant: the zeros written in behind one or two decimals
pub with-three-denotes : (zone : List ℕ) (f : Form) → Bounds f → (t : ℤ) → Denotes zone (prints f) t ↔ Denotes zone (prints (with_three f)) t
with-three-denotes = decimals.with-three-denotes

pub zeros-are-written-in : (places n : ℕ) → places ≤ 3 → digits 3 (thousandths places n) ≡ digits places n ++ replicate (3 - places) 48
zeros-are-written-in = zeros-behind-to-three

-- every other field keeps its answers: a number that needs all its digits is read as before, to its fault and what is left; and so are three
-- digits after the point
pub numbers-as-before : (n : ℕ) (s : List ℕ) → all_digits n s ≡ digits_before n 0 s
numbers-as-before = decimals.numbers-as-before

pub three-digits-as-before : (h m sc : ℕ) (s : List ℕ) (v : ℕ) (t : List ℕ) → digits_before 3 0 s ≡ ok v t
    → after (digits_upto 3) (decimals_of h m sc) s ≡ ok (toDecimals h m sc 3 v) t
three-digits-as-before = decimals.three-digits-as-before

-- "and no digit is 5 or 6": 5 where the text ends behind the point, 6 before any other byte
pub no-digit-is-5-or-6 : (h m sc : ℕ) (s : List ℕ) → NotDigit s → after (digits_upto 3) (decimals_of h m sc) s ≡ fault (no_digit s)
no-digit-is-5-or-6 = decimals.no-digit-after-the-point

-- "A fourth digit is still 6": what follows three digits, a zone and the end, is not there
pub fourth-digit-is-6 : (y : Year) (d : Date) (h m sc ms b : ℕ) (s : List ℕ) → ms ≤ 999 → is_digit b ≡ true
    → after (after (digits_upto 3) (decimals_of h m sc)) (λ t. after read_zone (ending y d t)) (digits 3 ms ++ b ∷ s) ≡ fault Bad
fourth-digit-is-6 = decimals.fourth-digit

-- ---- "the writers give its texts, the local suffix excepted": of the whole number t, by any of its bits. The answer has the bits of t, "the
-- time it was given (-0 as 0)".

pub iso-text : (time : ℕ) (t : ℤ) → IsWhole (of_bits binary64 time) t → InRange t → (out : List ℕ) → iso_outcome time out ≡ written (time_bits t) (iso_text t) out
iso-text = writing.iso-any

pub utc-text : (time : ℕ) (t : ℤ) → IsWhole (of_bits binary64 time) t → InRange t → (out : List ℕ) → utc_outcome time out ≡ written (time_bits t) (utc_text t) out
utc-text = writing.utc-any

-- up to its suffix the local text is the standard's
pub local-text : (time : ℕ) (t : ℤ) → IsWhole (of_bits binary64 time) t → InRange t → (out zone : List ℕ) → Accepted zone
    → local_outcome zone time out ≡ written (time_bits t) (until_suffix (local_time (records zone) t) ++ suffix zone (local_time (records zone) t)) out
local-text = writing.local-any

-- and where the offset looked up at the local time is the one at the instant, all of it is
pub local-text-whole : (zone : List ℕ) (t : ℤ) → offset_of_suffix (records zone) (local_time (records zone) t) ≡ offset_of_instant (records zone) t
    → until_suffix (local_time (records zone) t) ++ suffix zone (local_time (records zone) t) ≡ local_text (local_time (records zone) t) (offset_of_instant (records zone) t)
local-text-whole zone t e = ap (local_text (local_time (records zone) t)) e

-- "`to_iso_string` refuses a non-finite date; the UTC and local writers answer `Invalid Date` for NaN": for any bits of a NaN
pub iso-of-nan : (time : ℕ) → of_bits binary64 time ≡ nan → (out : List ℕ) → iso_outcome time out ≡ refused NoTime out
iso-of-nan = writing.iso-of-nan

pub utc-of-nan : (time : ℕ) → of_bits binary64 time ≡ nan → (out : List ℕ) → utc_outcome time out ≡ written nan_value invalid_date out
utc-of-nan = writing.utc-of-nan

pub local-of-nan : (time : ℕ) → of_bits binary64 time ≡ nan → (out zone : List ℕ) → Accepted zone → local_outcome zone time out ≡ written nan_value invalid_date out
local-of-nan = writing.local-of-nan

-- "Lengths: ISO 24 or 27, UTC 29 to 32, local 33 to 36, invalid 12."
pub lengths : (t offset : ℤ)
    → ((length (iso_text t) ≡ 24) ⊎ (length (iso_text t) ≡ 27)) × ((29 ≤ length (utc_text t)) × (length (utc_text t) ≤ 32))
    × ((33 ≤ length (local_text t offset)) × (length (local_text t offset) ≤ 36)) × (length invalid_date ≡ 12)
lengths t offset = (lengths-iso t, omega (arith, lengths-utc t), omega (arith, lengths-local t offset), length-invalid)
