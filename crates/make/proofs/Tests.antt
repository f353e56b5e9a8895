-- What the makers' tests decide: an argument that is not finite gives NaN, and with finite arguments the steps that follow are taken. Assumes nothing.
use mathlib.Core.Path.{◌≡◌, refl, sym, ap, ◌∙◌}
use mathlib.Core.Bool.{Bool, true, false, cond, ◌&&◌}
use Prim.Native.Nat.{ℕ}
use lib.Ieee.{Float, nan, binary64, fits, of_bits, of_int, add, sub, mul, lt, le, is_nan}
use lib.Ieee.Scale.{finite}
use Rattle.std.specs.Float.{float_is_finite}
use Rattle.float.specs.Rounding.{trunc_f, abs_f, to_integer_or_infinity, plus_zero}
use Rattle.calendar.specs.Calendar.{num, day_f}
use Rattle.float.proofs.Special.{finite_is}
use Rattle.float.proofs.Integer.{integer-is}
use Rattle.integers.proofs.Machine.{true-T}
use Rattle.make.proofs.Finite.{summand-left, summand-right, factor, uncut}
use Rattle.make.specs.Make.{whole_part, join_time, make_time_f, year_of_month, month_of_year, month_start_f, day_of_month_f, make_day_f, if_finite, make_date_f, full_year, make_full_year_f, time_clip_f}

and-false : (a : Bool) {b : Bool} → b ≡ false → (a && b) ≡ false
and-false true e = e
and-false false e = refl

-- the answer r of `is_finite`, and a branch on `!r`
pub off : (x : Float) {r : Bool} → r ≡ float_is_finite x → r ≡ false → finite x ≡ false
off x e t = sym (finite_is x) ∙ sym e ∙ t

pub on : (x : Float) {r : Bool} → r ≡ float_is_finite x → r ≡ true → finite x ≡ true
on x e t = sym (finite_is x) ∙ sym e ∙ t

-- ---- MakeTime
module _ (h m s ms : Float) where
  abbrev joined : Bool → Float
  joined b = cond b (join_time (whole_part h) (whole_part m) (whole_part s) (whole_part ms)) nan

  pub hour-not-finite : finite h ≡ false → make_time_f h m s ms ≡ nan
  unfolding make_time_f
  hour-not-finite e = ap (λ b. joined (b && finite m && finite s && finite ms)) e

  pub minute-not-finite : finite m ≡ false → make_time_f h m s ms ≡ nan
  unfolding make_time_f
  minute-not-finite e = ap (λ b. joined (b && finite s && finite ms)) (and-false (finite h) e)

  pub second-not-finite : finite s ≡ false → make_time_f h m s ms ≡ nan
  unfolding make_time_f
  second-not-finite e = ap (λ b. joined (b && finite ms)) (and-false (finite h && finite m) e)

  pub milli-not-finite : finite ms ≡ false → make_time_f h m s ms ≡ nan
  unfolding make_time_f
  milli-not-finite e = ap joined (and-false (finite h && finite m && finite s) e)

  pub make-time-finite : finite h ≡ true → finite m ≡ true → finite s ≡ true → finite ms ≡ true
      → make_time_f h m s ms ≡ join_time (whole_part h) (whole_part m) (whole_part s) (whole_part ms)
  unfolding make_time_f
  make-time-finite a b d e = λ i. joined (a i && b i && d i && e i)

  -- a finite sum has only finite terms
  pub make-time-sum : finite (join_time (whole_part h) (whole_part m) (whole_part s) (whole_part ms)) ≡ true
      → make_time_f h m s ms ≡ join_time (whole_part h) (whole_part m) (whole_part s) (whole_part ms)
  make-time-sum e =
      let seconds = summand-left binary64 _ _ e in
      let minutes = summand-left binary64 _ _ seconds in
      make-time-finite (uncut h (factor binary64 _ _ (summand-left binary64 _ _ minutes))) (uncut m (factor binary64 _ _ (summand-right binary64 _ _ minutes)))
      (uncut s (factor binary64 _ _ (summand-right binary64 _ _ seconds))) (uncut ms (summand-right binary64 _ _ e))

-- ---- MakeDay
module _ (y m d : Float) where
  abbrev day_of : Bool → Float
  day_of b = cond b (day_of_month_f (year_of_month (whole_part y) (whole_part m)) (month_of_year (whole_part m)) (whole_part d)) nan

  pub year-not-finite : finite y ≡ false → make_day_f y m d ≡ nan
  unfolding make_day_f
  year-not-finite e = ap (λ b. day_of (b && finite m && finite d)) e

  pub month-not-finite : finite m ≡ false → make_day_f y m d ≡ nan
  unfolding make_day_f
  month-not-finite e = ap (λ b. day_of (b && finite d)) (and-false (finite y) e)

  pub date-not-finite : finite d ≡ false → make_day_f y m d ≡ nan
  unfolding make_day_f
  date-not-finite e = ap day_of (and-false (finite y && finite m) e)

  pub make-day-finite : finite y ≡ true → finite m ≡ true → finite d ≡ true
      → make_day_f y m d ≡ day_of_month_f (year_of_month (whole_part y) (whole_part m)) (month_of_year (whole_part m)) (whole_part d)
  unfolding make_day_f
  make-day-finite a b e = λ i. day_of (a i && b i && e i)

pub day-of-month-not-finite : (ym : Float) (mn : ℕ) (dt : Float) → finite ym ≡ false → day_of_month_f ym mn dt ≡ nan
unfolding day_of_month_f
day-of-month-not-finite ym mn dt e = ap (λ b. cond b (sub binary64 (add binary64 (day_f (month_start_f ym mn)) dt) (num 1)) nan) e

pub day-of-month-finite : (ym : Float) (mn : ℕ) (dt : Float) → finite ym ≡ true
    → day_of_month_f ym mn dt ≡ sub binary64 (add binary64 (day_f (month_start_f ym mn)) dt) (num 1)
unfolding day_of_month_f
day-of-month-finite ym mn dt e = ap (λ b. cond b (sub binary64 (add binary64 (day_f (month_start_f ym mn)) dt) (num 1)) nan) e

-- ---- MakeDate
module _ (d t : Float) where
  abbrev sum : Float
  sum = add binary64 (mul binary64 d (num 86400000)) t

  pub day-not-finite : finite d ≡ false → make_date_f d t ≡ nan
  unfolding make_date_f
  day-not-finite e = ap (λ b. cond (b && finite t) (if_finite sum) nan) e

  pub time-not-finite : finite t ≡ false → make_date_f d t ≡ nan
  unfolding make_date_f
  time-not-finite e = ap (λ b. cond b (if_finite sum) nan) (and-false (finite d) e)

  -- whatever the day and the time are
  pub sum-not-finite : finite (add binary64 (mul binary64 d (num 86_400_000)) t) ≡ false → make_date_f d t ≡ nan
  unfolding make_date_f
  sum-not-finite e = go (finite d && finite t)
    where
      go : (b : Bool) → cond b (if_finite sum) nan ≡ nan
      go true = ap (λ c. cond c sum nan) e
      go false = refl

  -- a finite sum has only finite terms
  pub make-date-finite : finite (add binary64 (mul binary64 d (num 86_400_000)) t) ≡ true → make_date_f d t ≡ add binary64 (mul binary64 d (num 86_400_000)) t
  unfolding make_date_f
  make-date-finite e =
      let a : finite d ≡ true = factor binary64 d (num 86400000) (summand-left binary64 (mul binary64 d (num 86400000)) t e) in
      let b : finite t ≡ true = summand-right binary64 (mul binary64 d (num 86400000)) t e in
      λ i. cond (a i && b i) (cond (e i) sum nan) nan

-- ---- MakeFullYear
pub full-year-nan : (y : Float) → is_nan y ≡ true → make_full_year_f y ≡ nan
unfolding make_full_year_f
full-year-nan y e = ap (λ b. cond b nan (full_year (to_integer_or_infinity y))) e

pub full-year-number : (y : Float) → is_nan y ≡ false → make_full_year_f y ≡ full_year (to_integer_or_infinity y)
unfolding make_full_year_f
full-year-number y e = ap (λ b. cond b nan (full_year (to_integer_or_infinity y))) e

pub full-year-small : (i : Float) → le (num 0) i ≡ true → le i (num 99) ≡ true → full_year i ≡ add binary64 (num 1900) i
unfolding full_year
full-year-small i a b = λ k. cond (a k && b k) (add binary64 (num 1900) i) i

pub full-year-below : (i : Float) → le (num 0) i ≡ false → full_year i ≡ i
unfolding full_year
full-year-below i e = ap (λ b. cond (b && le i (num 99)) (add binary64 (num 1900) i) i) e

pub full-year-above : (i : Float) → le i (num 99) ≡ false → full_year i ≡ i
unfolding full_year
full-year-above i e = ap (λ b. cond b (add binary64 (num 1900) i) i) (and-false (le (num 0) i) e)

-- by one test
pub full-year-by : (i : Float) {b : Bool} → b ≡ (le (num 0) i && le i (num 99)) → cond b (add binary64 (num 1900) i) i ≡ full_year i
unfolding full_year
full-year-by i e = ap (λ (b : Bool). cond b (add binary64 (num 1900) i) i) e

-- ---- TimeClip
module _ (t : Float) where
  pub clip-not-finite : finite t ≡ false → time_clip_f t ≡ nan
  unfolding time_clip_f
  clip-not-finite e = ap (λ b. cond b (cond (lt (num 8640000000000000) (abs_f t)) nan (plus_zero (trunc_f t))) nan) e

  pub clip-beyond : finite t ≡ true → lt (num 8640000000000000) (abs_f t) ≡ true → time_clip_f t ≡ nan
  unfolding time_clip_f
  clip-beyond a b = λ i. cond (a i) (cond (b i) nan (plus_zero (trunc_f t))) nan

  pub clip-within : finite t ≡ true → lt (num 8640000000000000) (abs_f t) ≡ false → time_clip_f t ≡ plus_zero (trunc_f t)
  unfolding time_clip_f
  clip-within a b = λ i. cond (a i) (cond (b i) nan (plus_zero (trunc_f t))) nan

  -- as the code finds it: r is ToIntegerOrInfinity of the time, and m its magnitude
  pub clip_integer : (r m : Float) → r ≡ to_integer_or_infinity t → lt (of_bits binary64 4845505999795912704) m ≡ false → m ≡ abs_f t → float_is_finite t ≡ true → fits binary64 t ≡ true → r ≡ time_clip_f t
  unfolding of_bits of_int
  clip_integer r m e l is f held =
      let b = on t refl f in
      e ∙ integer-is t (true-T _ held) (true-T _ b) ∙ sym (clip-within b (ap (lt (num 8640000000000000)) (sym is) ∙ l))
