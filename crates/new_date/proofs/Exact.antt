-- In the exact domain the builder and every setter, from a time t that is the whole number z, give what ECMA-262's own steps give in whole
-- numbers: the fields are whole numbers, every sum and product of the new date is exact, and so is the shift out. Assumes nothing.
use mathlib.Core.Path.{◌≡◌, refl, sym, ap, ◌∙◌, subst}
use mathlib.Core.Bool.{Bool, true, false, cond, ◌&&◌, true≢false}
use mathlib.Core.List.{List, [], ◌∷◌}
use Prim.Native.Nat.{ℕ, zero, suc, ◌^◌, ◌≤◌, ◌<◌}
use native.Mathlib.Omega.{arith}
use lib.Dec.{T, lit<, lit≤}
use lib.IntN.{ℤ, pos, negsuc, nat_abs}
use lib.Signed.{◌≤ℤ◌}
use lib.ListN.{length, get_or}
use lib.Ieee.{Float, nan, binary64, fits, of_int, add, le, is_nan}
use lib.Ieee.Bits.{is_false, of_bits-fits}
use lib.Ieee.Fits.{cond-fits, nan-fits, add-fits}
use Rattle.integers.specs.Whole.{floor_div}
use Rattle.ecma262.specs.Date.{day_of_time, time_within_day, year_from_time, month_from_time, date_from_time, hour_from_time, min_from_time, sec_from_time, ms_from_time, make_time, make_day, make_date}
use Rattle.ecma262.specs.Domain.{ExactDay, ExactTime, Shown}
use Rattle.integers.proofs.Int.{ints, abs-in, abs-out, mod-small, at, ◌/ᵗ◌, read}
use Rattle.ecma262.proofs.Range.{year-range, make-day-range, make-time-range}
use Rattle.ecma262.proofs.Fields.{month-range, date-small, date-natural}
use Rattle.float.specs.Whole.{IsWhole, trunc_z}
use Rattle.float.specs.Rounding.{to_integer_or_infinity}
use Rattle.float.proofs.Special.{finite_number}
use Rattle.float.proofs.Rounding.{integer-fits, whole-finite}
use Rattle.calendar.specs.Calendar.{num, day_f, time_within_day_f}
use Rattle.calendar.proofs.Whole.{shown-small, day-whole, time-within-day-whole, year-from-time-whole, month-from-time-whole, date-from-time-whole, hour-from-time-whole, min-from-time-whole, sec-from-time-whole, ms-from-time-whole}
use Rattle.make.specs.Make.{make_time_f, make_day_f, make_date_f, make_full_year_f, full_year, IsField, time_value}
use Rattle.make.proofs.Parts.{field, field-whole, field-int}
use Rattle.make.proofs.Exact.{make-time-exact, make-day-exact, make-date-exact, make-date-small, make-full-year-exact}
use Rattle.make.proofs.Clip.{clip-exact}
use Rattle.zone.specs.Zone.{Record, IsZoneList}
use Rattle.local.proofs.Whole.{utc-whole}
use Rattle.field_record.specs.FieldRecord.{stands, field_at, field_or}
use Rattle.new_date.specs.Calls.{Call, build, set, bits_of, present, or_zero, absent, argument, new_date, new_date_of, value_from}
use Rattle.new_date.specs.declared.Part.{Part}
use Rattle.new_date.specs.declared.Part.TheVariants.{Milliseconds, Seconds, Minutes, Hours, Date, Month, FullYear}
use Rattle.new_date.specs.Standard.{absent_z, argument_z, new_date_z, value_from_z, Finite, Bounded, Exact}

-- ---- the elements of two lists, one by one
abbrev Pairs : List Float → List ℤ → Type 0
Pairs [] zs = Unit {0}
Pairs (x ∷ xs) [] = ⊥
Pairs (x ∷ xs) (z ∷ zs) = IsField x z × Pairs xs zs

pair-at : (xs : List Float) (zs : List ℤ) → Pairs xs zs → (i : ℕ) → i < length xs → IsField (get_or xs i nan) (get_or zs i (pos 0))
pair-at [] zs p i h = absurd (omega arith)
pair-at (x ∷ xs) [] p i h = absurd p
pair-at (x ∷ xs) (z ∷ zs) p zero h = p.0
pair-at (x ∷ xs) (z ∷ zs) p (suc i) h = pair-at xs zs p.1 i (omega arith)

number : (n k : ℕ) → n ≡ k → k ≤ 9007199254740992 → IsField (num n) (pos k)
number n k e h = subst (λ (m : ℕ). IsField (num m) (pos k)) (sym e) (field-int (pos k) h)

full-year-fits : (y : Float) → T (fits binary64 (make_full_year_f y))
unfolding make_full_year_f full_year
full-year-fits y =
    let i = to_integer_or_infinity y in
    cond-fits binary64 (is_nan y) nan (full_year i) (nan-fits binary64)
    (cond-fits binary64 (le (num 0) i && le i (num 99)) (add binary64 (num 1900) i) i (add-fits binary64 (num 1900) i) (integer-fits y))

field-at-fits : (fields : List ℕ) (i : ℕ) → T (fits binary64 (field_at fields i))
unfolding field_at
field-at-fits fields i = of_bits-fits binary64 _

-- ---- the new date: whole, and small enough for the shift out
record Dated (x : Float) (z : ℤ) : Type 0 where
  pub whole : IsWhole x z
  pub small : nat_abs z ≤ 8_999_999_999_999_999

dated : {day time : Float} {d v : ℤ} → IsWhole day d → IsWhole time v → nat_abs d ≤ 103_987_430 → nat_abs v ≤ 6_200_000_000_000 → Dated (make_date_f day time) (make_date d v)
dated {d = d} {v = t} u v h k = record { whole = make-date-exact u v h k; small = make-date-small d t h k }

module _ {t : Float} {z : ℤ} (w : IsWhole t z) (h : Shown z) where
  -- ---- the present fields
  year-field : IsField (present FullYear t) (year_from_time z)
  year-field = subst (λ (y : ℤ). IsField (of_int binary64 y) (year_from_time z)) (sym (year-from-time-whole w h)) (field-int (year_from_time z) (year-small (year_from_time z) (year-range z h)))
    where
      year-small : (y : ℤ) → (negsuc 271820 ≤ℤ y) × (y ≤ℤ pos 275760) → nat_abs y ≤ 2 ^ 53
      year-small y r = abs-out y (omega (ints, r))

  month-field : IsField (present Month t) (pos (month_from_time z))
  month-field = number _ _ (month-from-time-whole w h) (omega (arith, month-range z))

  date-field : IsField (present Date t) (date_from_time z)
  date-field = subst (IsField (present Date t)) (date-natural z) (number _ _ (date-from-time-whole w h) (omega (arith, date-small z)))

  hour-field : IsField (present Hours t) (pos (hour_from_time z))
  hour-field = number _ _ (hour-from-time-whole w h) (omega (arith, mod-small (floor_div z 3600000) 23))

  minute-field : IsField (present Minutes t) (pos (min_from_time z))
  minute-field = number _ _ (min-from-time-whole w h) (omega (arith, mod-small (floor_div z 60000) 59))

  second-field : IsField (present Seconds t) (pos (sec_from_time z))
  second-field = number _ _ (sec-from-time-whole w h) (omega (arith, mod-small (floor_div z 1000) 59))

  ms-field : IsField (present Milliseconds t) (pos (ms_from_time z))
  ms-field = number _ _ (ms-from-time-whole w h) (omega (arith, mod-small z 999))

  -- a whole time is no NaN
  whole-start : or_zero t ≡ t
  unfolding or_zero
  whole-start = rw (is_false (is_nan t) (finite_number t (whole-finite w)))

  -- ---- the arguments
  zero_field : IsField (num 0) (pos 0)
  zero_field = field-int (pos 0) (lit≤ tt)

  -- an absent year of the builder stands for no number
  absent-field : (call : Call) (i : ℕ) → i < bits_of call → (call ≡ build → i ≡ 0 → ⊥) → IsField (get_or (absent call t) i nan) (get_or (absent_z call z) i (pos 0))
  unfolding absent absent_z
  absent-field build zero k y = absurd (y refl refl)
  absent-field build (suc i) k y =
      pair-at (num 0 ∷ num 1 ∷ num 0 ∷ num 0 ∷ num 0 ∷ num 0 ∷ []) (pos 0 ∷ pos 1 ∷ pos 0 ∷ pos 0 ∷ pos 0 ∷ pos 0 ∷ [])
      (zero_field, (field-int (pos 1) (lit≤ tt), (zero_field, (zero_field, (zero_field, (zero_field, tt)))))) i (omega arith)
  absent-field (set first) i k y = pair-at (absent (set first) t) (absent_z (set first) z) (kept first) i (rw (counted first) k)
    where
      kept : (first : Part) → Pairs (absent (set first) t) (absent_z (set first) z)
      kept Milliseconds = (ms-field, tt)
      kept Seconds = (second-field, (ms-field, tt))
      kept Minutes = (minute-field, (second-field, (ms-field, tt)))
      kept Hours = (hour-field, (minute-field, (second-field, (ms-field, tt))))
      kept Date = (date-field, tt)
      kept Month = (month-field, (date-field, tt))
      kept FullYear = rw whole-start (year-field, (month-field, (date-field, tt)))

      counted : (first : Part) → length (absent (set first) t) ≡ bits_of (set first)
      counted Milliseconds = refl
      counted Seconds = refl
      counted Minutes = refl
      counted Hours = refl
      counted Date = refl
      counted Month = refl
      counted FullYear = refl

  argument-field : (call : Call) (fields : List ℕ) → Finite call fields → (i : ℕ) → i < bits_of call → IsField (argument call t fields i) (argument_z call z fields i)
  unfolding field_or
  argument-field call fields n i k = go (stands fields i) refl
    where
      go : (b : Bool) → stands fields i ≡ b → IsField (cond b (field_at fields i) (get_or (absent call t) i nan)) (cond b (trunc_z (field_at fields i)) (get_or (absent_z call z) i (pos 0)))
      go true e = field (field_at fields i) (field-at-fits fields i) (n.each i k e)
      go false e = absent-field call i k (λ c o. true≢false (sym (n.year c) ∙ ap (stands fields) (sym o) ∙ e))

  -- ---- the new date
  on-clock : {hour min sec ms : Float} {a b c d : ℤ} → IsField hour a → IsField min b → IsField sec c → IsField ms d → ExactTime a b c d
      → Dated (make_date_f (day_f t) (make_time_f hour min sec ms)) (make_date (day_of_time z) (make_time a b c d))
  on-clock p q r s e =
      dated (day-whole w (shown-small z h)) (make-time-exact p q r s e) (abs-out (day_of_time z) (omega (arith, abs-in z h, read (at z /ᵗ 86400000)))) (make-time-range _ _ _ _ e)

  on-day : {year month date : Float} {y m d : ℤ} → IsField year y → IsField month m → IsField date d → ExactDay y m d
      → Dated (make_date_f (make_day_f year month date) (time_within_day_f t)) (make_date (make_day y m d) (pos (time_within_day z)))
  on-day p q r e = dated (make-day-exact p q r e) (time-within-day-whole w) (make-day-range _ _ _ e) (omega (arith, mod-small z 86399999))

  new-date : (call : Call) (a : ℕ → Float) (b : ℕ → ℤ) → ((i : ℕ) → i < bits_of call → IsField (a i) (b i)) → Bounded call z b → Dated (new_date call t a) (new_date_z call z b)
  unfolding new_date new_date_z
  new-date build a b f e =
      dated
      (make-day-exact (field-whole (full-year-fits (a 0)) (make-full-year-exact (f 0 (lit< tt)))) (f 1 (lit< tt)) (f 2 (lit< tt)) e.0)
      (make-time-exact (f 3 (lit< tt)) (f 4 (lit< tt)) (f 5 (lit< tt)) (f 6 (lit< tt)) e.1)
      (make-day-range _ _ _ e.0) (make-time-range _ _ _ _ e.1)
  new-date (set Milliseconds) a b f e = on-clock hour-field minute-field second-field (f 0 (lit< tt)) e
  new-date (set Seconds) a b f e = on-clock hour-field minute-field (f 0 (lit< tt)) (f 1 (lit< tt)) e
  new-date (set Minutes) a b f e = on-clock hour-field (f 0 (lit< tt)) (f 1 (lit< tt)) (f 2 (lit< tt)) e
  new-date (set Hours) a b f e = on-clock (f 0 (lit< tt)) (f 1 (lit< tt)) (f 2 (lit< tt)) (f 3 (lit< tt)) e
  new-date (set Date) a b f e = on-day year-field month-field (f 0 (lit< tt)) e
  new-date (set Month) a b f e = on-day year-field (f 0 (lit< tt)) (f 1 (lit< tt)) e
  new-date (set FullYear) a b f e = rw whole-start (on-day (f 0 (lit< tt)) (f 1 (lit< tt)) (f 2 (lit< tt)) e)

  -- THE LAW: the value is that of the standard's steps
  pub value-exact : (call : Call) (local : Bool) (list : List Record) → (local ≡ true → IsZoneList list) → (fields : List ℕ) → Exact call z fields
      → value_from call local list t fields ≡ time_value (value_from_z call local list z fields)
  unfolding value_from new_date_of value_from_z
  value-exact call local list l fields e = go local l
    where
      d : Dated (new_date call t (argument call t fields)) (new_date_z call z (argument_z call z fields))
      d = new-date call (argument call t fields) (argument_z call z fields) (argument-field call fields e.numbers) e.bounds

      go : (local : Bool) → (local ≡ true → IsZoneList list) → value_from call local list t fields ≡ time_value (value_from_z call local list z fields)
      go false l = clip-exact d.whole
      go true l = clip-exact (utc-whole list (l refl) _ d.small d.whole)
