-- What holds of every value, in the exact domain or not: it is a time value; an argument that is not finite makes it NaN. Assumes nothing.
use mathlib.Core.Path.{◌≡◌, refl, ap, ◌∙◌}
use mathlib.Core.Bool.{Bool, true, false, ◌&&◌, true≢false}
use mathlib.Core.List.{List}
use Prim.Native.Nat.{ℕ, zero, suc, ◌<◌}
use native.Mathlib.Omega.{arith}
use lib.Dec.{T}
use lib.Ieee.{Float, nan, inf, fin, binary64, fits, add, sub, mul, div, rem, le, lt, of_int, is_nan}
use lib.Ieee.Fits.{cond-fits, nan-fits, add-fits, sub-fits}
use lib.Ieee.Scale.{finite}
use Rattle.std.specs.Float.{float_is_finite}
use Rattle.float.specs.Rounding.{floor_f, rem_euclid_f, to_integer_or_infinity}
use Rattle.calendar.specs.Calendar.{num, day_f, time_within_day_f}
use Rattle.make.specs.Make.{make_time_f, make_day_f, make_date_f, make_full_year_f, full_year, if_finite, time_clip_f, IsTimeValue}
use Rattle.make.proofs.Tests.{hour-not-finite, minute-not-finite, second-not-finite, milli-not-finite, year-not-finite, month-not-finite, date-not-finite, day-not-finite, time-not-finite, clip-not-finite}
use Rattle.make.proofs.Clip.{clip-time-value}
use Rattle.zone.specs.Zone.{Record}
use Rattle.local.specs.Local.{shift_f, utc_f}
use Rattle.local.proofs.Tests.{utc_not_finite}
use Rattle.field_record.specs.FieldRecord.{stands, field_at, field_or}
use Rattle.new_date.specs.Calls.{Call, build, set, bits_of, present, or_zero, shift_out, absent, argument, new_date, new_date_of, value_from}
use Rattle.new_date.specs.declared.Part.{Part}
use Rattle.new_date.specs.declared.Part.TheVariants.{Milliseconds, Seconds, Minutes, Hours, Date, Month, FullYear}

-- ---- a time value
make-date-fits : (d t : Float) → T (fits binary64 (make_date_f d t))
unfolding make_date_f
make-date-fits d t =
    let tv = add binary64 (mul binary64 d (num 86_400_000)) t in
    cond-fits binary64 (finite d && finite t) (if_finite tv) nan
    (cond-fits binary64 (finite tv) tv nan (add-fits binary64 (mul binary64 d (num 86_400_000)) t) (nan-fits binary64)) (nan-fits binary64)

new-date-fits : (call : Call) (t : Float) (a : ℕ → Float) → T (fits binary64 (new_date call t a))
unfolding new_date
new-date-fits build t a = make-date-fits _ _
new-date-fits (set Milliseconds) t a = make-date-fits _ _
new-date-fits (set Seconds) t a = make-date-fits _ _
new-date-fits (set Minutes) t a = make-date-fits _ _
new-date-fits (set Hours) t a = make-date-fits _ _
new-date-fits (set Date) t a = make-date-fits _ _
new-date-fits (set Month) t a = make-date-fits _ _
new-date-fits (set FullYear) t a = make-date-fits _ _

out-fits : (local : Bool) (list : List Record) (x : Float) → T (fits binary64 x) → T (fits binary64 (shift_out local list x))
unfolding utc_f
out-fits false list x f = f
out-fits true list x f = cond-fits binary64 (finite x) (sub binary64 x (shift_f list x)) nan (sub-fits binary64 x (shift_f list x)) (nan-fits binary64)

pub from-time-value : (call : Call) (local : Bool) (list : List Record) (t : Float) (fields : List ℕ) → IsTimeValue (value_from call local list t fields)
unfolding value_from new_date_of
from-time-value call local list t fields = clip-time-value _ (out-fits local list _ (new-date-fits call t (argument call t fields)))

-- ---- an argument that is not finite. Present fields before the arguments: p ▹ a is p at 0, and a from 1 on
infixr 5 ◌▹◌
abbrev ◌▹◌ : Float → (ℕ → Float) → ℕ → Float
(p ▹ a) zero = p
(p ▹ a) (suc i) = a i

time-nan : (x : ℕ → Float) (k : ℕ) → k < 4 → finite (x k) ≡ false → make_time_f (x 0) (x 1) (x 2) (x 3) ≡ nan
time-nan x zero h e = hour-not-finite _ _ _ _ e
time-nan x (suc zero) h e = minute-not-finite _ _ _ _ e
time-nan x (suc (suc zero)) h e = second-not-finite _ _ _ _ e
time-nan x (suc (suc (suc zero))) h e = milli-not-finite _ _ _ _ e
time-nan x (suc (suc (suc (suc k)))) h e = absurd (omega arith)

day-nan : (x : ℕ → Float) (k : ℕ) → k < 3 → finite (x k) ≡ false → make_day_f (x 0) (x 1) (x 2) ≡ nan
day-nan x zero h e = year-not-finite _ _ _ e
day-nan x (suc zero) h e = month-not-finite _ _ _ e
day-nan x (suc (suc zero)) h e = date-not-finite _ _ _ e
day-nan x (suc (suc (suc k))) h e = absurd (omega arith)

of-time : (d : Float) {x : Float} → x ≡ nan → make_date_f d x ≡ nan
of-time d {x} e = time-not-finite d x (ap finite e)

of-day : (v : Float) {x : Float} → x ≡ nan → make_date_f x v ≡ nan
of-day v {x} e = day-not-finite x v (ap finite e)

full-year-not-finite : (y : Float) → finite y ≡ false → finite (make_full_year_f y) ≡ false
unfolding make_full_year_f full_year to_integer_or_infinity is_nan le of_int
full-year-not-finite nan e = refl
full-year-not-finite (inf true) e = refl
full-year-not-finite (inf false) e = refl
full-year-not-finite (fin s m d) e = absurd (true≢false e)

new-date-nan : (call : Call) (t : Float) (a : ℕ → Float) (i : ℕ) → i < bits_of call → finite (a i) ≡ false → new_date call t a ≡ nan
unfolding new_date
new-date-nan build t a zero h e = of-day _ (day-nan (make_full_year_f (a 0) ▹ (λ i. a (suc i))) 0 (omega arith) (full-year-not-finite (a 0) e))
new-date-nan build t a (suc zero) h e = of-day _ (day-nan (make_full_year_f (a 0) ▹ (λ i. a (suc i))) 1 (omega arith) e)
new-date-nan build t a (suc (suc zero)) h e = of-day _ (day-nan (make_full_year_f (a 0) ▹ (λ i. a (suc i))) 2 (omega arith) e)
new-date-nan build t a (suc (suc (suc i))) h e = of-time _ (time-nan (λ i. a (suc (suc (suc i)))) i (omega arith) e)
new-date-nan (set Milliseconds) t a i h e = of-time _ (time-nan (present Hours t ▹ present Minutes t ▹ present Seconds t ▹ a) (suc (suc (suc i))) (omega arith) e)
new-date-nan (set Seconds) t a i h e = of-time _ (time-nan (present Hours t ▹ present Minutes t ▹ a) (suc (suc i)) (omega arith) e)
new-date-nan (set Minutes) t a i h e = of-time _ (time-nan (present Hours t ▹ a) (suc i) (omega arith) e)
new-date-nan (set Hours) t a i h e = of-time _ (time-nan a i h e)
new-date-nan (set Date) t a i h e = of-day _ (day-nan (present FullYear t ▹ present Month t ▹ a) (suc (suc i)) (omega arith) e)
new-date-nan (set Month) t a i h e = of-day _ (day-nan (present FullYear t ▹ a) (suc i) (omega arith) e)
new-date-nan (set FullYear) t a i h e = of-day _ (day-nan a i h e)

clip-nan : time_clip_f nan ≡ nan
clip-nan = clip-not-finite nan refl

out-nan : (local : Bool) (list : List Record) → shift_out local list nan ≡ nan
unfolding float_is_finite
out-nan false list = refl
out-nan true list = utc_not_finite list nan refl

-- a NaN or infinite field gives NaN
pub argument-nan : (call : Call) (local : Bool) (list : List Record) (t : Float) (fields : List ℕ) (i : ℕ) → i < bits_of call → finite (argument call t fields i) ≡ false
    → value_from call local list t fields ≡ nan
unfolding value_from new_date_of
argument-nan call local list t fields i h e =
    ap (λ (x : Float). time_clip_f (shift_out local list x)) (new-date-nan call t (argument call t fields) i h e) ∙ ap time_clip_f (out-nan local list) ∙ clip-nan

pub given-nan : (call : Call) (local : Bool) (list : List Record) (t : Float) (fields : List ℕ) (i : ℕ) → i < bits_of call → stands fields i ≡ true → finite (field_at fields i) ≡ false
    → value_from call local list t fields ≡ nan
unfolding field_or
given-nan call local list t fields i h s e = argument-nan call local list t fields i h (rw s e)

-- a setter has a first field
pub has-first : (first : Part) → 0 < bits_of (set first)
has-first Milliseconds = omega arith
has-first Seconds = omega arith
has-first Minutes = omega arith
has-first Hours = omega arith
has-first Date = omega arith
has-first Month = omega arith
has-first FullYear = omega arith

-- and an absent year of the builder is NaN
pub no-year-nan : (local : Bool) (list : List Record) (t : Float) (fields : List ℕ) → stands fields 0 ≡ false → value_from build local list t fields ≡ nan
unfolding field_or absent
no-year-nan local list t fields s = argument-nan build local list t fields 0 (omega arith) (rw s refl)

-- ---- a NaN date: "Every setter but `set_full_year` gives NaN for NaN". Its day and its time within the day are NaN.
day-of-nan : finite (day_f nan) ≡ false
unfolding day_f floor_f div of_int
day-of-nan = refl

time-of-nan : finite (time_within_day_f nan) ≡ false
unfolding time_within_day_f rem_euclid_f rem lt
time-of-nan = refl

pub nan-date : (first : Part) (local : Bool) (list : List Record) (fields : List ℕ) → (first ≡ FullYear → ⊥) → value_from (set first) local list nan fields ≡ nan
unfolding value_from new_date_of new_date
nan-date first local list fields other =
    ap (λ (x : Float). time_clip_f (shift_out local list x)) (go first other (argument (set first) nan fields)) ∙ ap time_clip_f (out-nan local list) ∙ clip-nan
  where
    go : (p : Part) → (p ≡ FullYear → ⊥) → (a : ℕ → Float) → new_date (set p) nan a ≡ nan
    go Milliseconds o a = day-not-finite _ _ day-of-nan
    go Seconds o a = day-not-finite _ _ day-of-nan
    go Minutes o a = day-not-finite _ _ day-of-nan
    go Hours o a = day-not-finite _ _ day-of-nan
    go Date o a = time-not-finite _ _ time-of-nan
    go Month o a = time-not-finite _ _ time-of-nan
    go FullYear o a = absurd (o refl)

-- "that one starts from 0"
pub year-of-nan : (local : Bool) (list : List Record) (fields : List ℕ) → value_from (set FullYear) local list nan fields ≡ value_from (set FullYear) local list (num 0) fields
unfolding value_from new_date_of new_date absent or_zero is_nan of_int
year-of-nan local list fields = refl
