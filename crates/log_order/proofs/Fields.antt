-- The ISO text of a year 0 to 9999 is a row of seven numbers, the fields in order, and an earlier time has the smaller numbers: at the first
-- field in which two times differ the earlier has the smaller number. So its text is the smaller one. Assumes nothing.
use mathlib.Core.Path.{◌≡◌, sym, ap, subst, ◌∙◌}
use mathlib.Core.List.{List, [], ◌∷◌, ◌++◌}
use Prim.Native.Nat.{ℕ, ◌+◌, ◌-◌, ◌*◌, ◌/◌, ◌%◌, ◌≤◌, ◌<◌}
use native.Mathlib.Omega.{arith}
use lib.Dec.{ltb, leb, ltb→lt, nltb→le, leb→le}
use lib.IntN.{ℤ, pos, negsuc, nat_abs}
use lib.Signed.{◌≤ℤ◌, ◌<ℤ◌}
use Rattle.integers.proofs.Int.{ints, by-test, abs-out, mod-small, at, ◌-ᵗ◌, ◌/ᵗ◌, read}
use Rattle.integers.proofs.Table.{all, all-at}
use Rattle.ecma262.specs.Date.{time_within_day, day_from_year, year_from_time, leap_of, month_from_time, date_from_time, days_before, hour_from_time, min_from_time, sec_from_time, ms_from_time, Fields, fields_of, Valid}
use Rattle.ecma262.specs.Texts.{iso_date, iso_time, iso_of, iso_text}
use Rattle.ecma262.proofs.Clock.{hour-digit, min-digit, sec-digit, ms-digit}
use Rattle.ecma262.proofs.Fields.{year_day, year-day, month-day, month-range, date-small, fields-valid}
use Rattle.ecma262.proofs.Leap.{leap-small}
use Rattle.ecma262.proofs.Months.{each-month}
use Rattle.ecma262.proofs.Texts.{iso-four}
use Rattle.log_order.specs.Smaller.{Smaller}
use Rattle.log_order.specs.Log.{InYears0To9999}
use Rattle.log_order.proofs.Smaller.{at-once, later}
use Rattle.log_order.proofs.Digits.{prints, Fit, row-ordered}
use Rattle.log_order.proofs.Row.{places, numbers}
use Rattle.log_order.proofs.Years.{year-not-later}

-- ---- the text as a row of numbers
iso-prints : (f : Fields) → pos 0 ≤ℤ f.year → nat_abs f.year < 10000 → prints places (numbers f) ≡ iso_of f
iso-prints f h k = ap (λ (y : List ℕ). (y ++ iso_date f) ++ iso_time f) (iso-four f.year h k)

pub year-in-digits : (t : ℤ) → InYears0To9999 t → nat_abs (year_from_time t) < 10000
year-in-digits t h = let b : nat_abs (year_from_time t) ≤ 9999 = abs-out (year_from_time t) (omega (ints, h.0, h.1)) in omega arith

numbers-fit : (t : ℤ) → InYears0To9999 t → Fit places (numbers (fields_of t))
numbers-fit t h =
    let v : Valid (fields_of t) = fields-valid t in
    (year-in-digits t h, (omega (arith, v.month-ok), (omega (arith, date-small t), (omega (arith, v.hour-ok), (omega (arith, v.minute-ok), (omega (arith, v.second-ok), (v.ms-ok, tt)))))))

-- ---- from the left: a number that is not larger, and where it is the same the rest smaller
not-larger : {a b : ℕ} {s t : List ℕ} → a ≤ b → (a ≡ b → Smaller s t) → Smaller (a ∷ s) (b ∷ t)
not-larger {a} {b} {s} {t} h f =
    by-test (ltb a b) (λ c. at-once s t (ltb→lt a b c))
    (λ c. let e : a ≡ b = let k : b ≤ a = nltb→le a b c in omega arith in later e (f e))

-- the clock within a day
clock : ℕ → List ℕ
clock a = (a / 3600000) ∷ (a / 60000 % 60) ∷ (a / 1000 % 60) ∷ (a % 1000) ∷ []

clock-ordered : {a b : ℕ} → a < b → Smaller (clock a) (clock b)
unfolding clock
clock-ordered h = not-larger (omega arith) (λ e. not-larger (omega arith) (λ f. not-larger (omega arith) (λ g. at-once [] [] (omega arith))))

clock-of : (t : ℤ) → clock (time_within_day t) ≡ hour_from_time t ∷ min_from_time t ∷ sec_from_time t ∷ ms_from_time t ∷ []
unfolding clock
clock-of t = λ i. sym (hour-digit t) i ∷ sym (min-digit t) i ∷ sym (sec-digit t) i ∷ sym (ms-digit t) i ∷ []

-- ---- a month, and a date in it, by the day of the year
month-over : (leap m k : ℕ) → leap ≤ 1 → m < 12 → k < m → days_before leap (k + 1) ≤ days_before leap m
unfolding days_before
month-over leap m k h l j = leb→le _ _ (all-at (λ k. leb (days_before leap (k + 1)) (days_before leap m)) m (each-month (λ l m. all (λ k. leb (days_before l (k + 1)) (days_before l m)) m) tt leap m h l) k j)

month-not-later : (leap m n i j : ℕ) → leap ≤ 1 → m < 12 → j < days_before leap (n + 1) - days_before leap n → days_before leap m + i ≤ days_before leap n + j → m ≤ n
month-not-later leap m n i j h k l le =
    by-test (ltb n m) (λ c. absurd (omega (arith, month-over leap m n h k (ltb→lt n m c)))) (λ c. nltb→le n m c)

-- ---- two times, the first the earlier
sizes : (x y : ℤ) → pos 0 ≤ℤ x → x ≤ℤ y → nat_abs x ≤ nat_abs y
sizes (pos a) (pos b) h k = omega ints
sizes (pos a) (negsuc b) h k = absurd k.le
sizes (negsuc a) y h k = absurd h.le

same-size : (x y : ℤ) → pos 0 ≤ℤ x → pos 0 ≤ℤ y → nat_abs x ≡ nat_abs y → x ≡ y
same-size (pos a) (pos b) h k e = ap pos e
same-size (pos a) (negsuc b) h k e = absurd k.le
same-size (negsuc a) y h k e = absurd h.le

module _ (t u : ℤ) (h : t <ℤ u) where
  -- in one year
  module _ (same-year : year_from_time t ≡ year_from_time u) where
    -- the milliseconds since the year began
    since-year : 86400000 * year_day t + time_within_day t < 86400000 * year_day u + time_within_day u
    since-year = omega (
      ints,
      year-day t,
      year-day u,
      ap day_from_year same-year,
      read (at t /ᵗ 86400000 -ᵗ at (day_from_year (year_from_time t))),
      read (at u /ᵗ 86400000 -ᵗ at (day_from_year (year_from_time u))),
    )

    year-days : year_day t ≤ year_day u
    year-days = omega (arith, since-year, mod-small u 86399999)

    same-row : (m : ℕ) → days_before (leap_of (year_from_time t)) m ≡ days_before (leap_of (year_from_time u)) m
    same-row m = ap (λ y. days_before (leap_of y) m) same-year

    months : month_from_time t ≤ month_from_time u
    months =
        month-not-later (leap_of (year_from_time u)) (month_from_time t) (month_from_time u) (month-day t).0 (month-day u).0
        (leap-small (year_from_time u)) (month-range t) (month-day u).2
        (omega (arith, (month-day t).1, (month-day u).1, same-row (month_from_time t), year-days))

    -- in one month of it
    module _ (same-month : month_from_time t ≡ month_from_time u) where
      starts : days_before (leap_of (year_from_time t)) (month_from_time t) ≡ days_before (leap_of (year_from_time u)) (month_from_time u)
      starts = same-row (month_from_time t) ∙ ap (days_before (leap_of (year_from_time u))) same-month

      dates : nat_abs (date_from_time t) ≤ nat_abs (date_from_time u)
      dates = omega (arith, ap nat_abs (month-day t).3, ap nat_abs (month-day u).3, (month-day t).1, (month-day u).1, starts, year-days)

      -- and on one date
      within-day : nat_abs (date_from_time t) ≡ nat_abs (date_from_time u) → time_within_day t < time_within_day u
      within-day same-date =
          let same-day : year_day t ≡ year_day u = omega (arith, ap nat_abs (month-day t).3, ap nat_abs (month-day u).3, (month-day t).1, (month-day u).1, starts) in
          omega (arith, since-year)

  numbers-ordered : InYears0To9999 t → InYears0To9999 u → Smaller (numbers (fields_of t)) (numbers (fields_of u))
  numbers-ordered a b =
      not-larger (sizes (year_from_time t) (year_from_time u) a.0 (year-not-later h))
      (λ y. let same-year : year_from_time t ≡ year_from_time u = same-size (year_from_time t) (year_from_time u) a.0 b.0 y in
      not-larger (let m : month_from_time t ≤ month_from_time u = months same-year in omega arith)
      (λ m. let same-month : month_from_time t ≡ month_from_time u = omega arith in
      not-larger (dates same-year same-month)
      (λ d. subst (λ l. Smaller l (hour_from_time u ∷ min_from_time u ∷ sec_from_time u ∷ ms_from_time u ∷ [])) (clock-of t)
      (subst (Smaller (clock (time_within_day t))) (clock-of u) (clock-ordered (within-day same-year same-month d))))))

-- ---- so the text of the earlier is the smaller
pub earlier-smaller : (t u : ℤ) → InYears0To9999 t → InYears0To9999 u → t <ℤ u → Smaller (iso_text t) (iso_text u)
earlier-smaller t u a b h =
    subst (λ (w : List ℕ). Smaller w (iso_text u)) (iso-prints (fields_of t) a.0 (year-in-digits t a))
    (subst (Smaller (prints places (numbers (fields_of t)))) (iso-prints (fields_of u) b.0 (year-in-digits u b))
    (row-ordered places (numbers (fields_of t)) (numbers (fields_of u)) (numbers-fit t a) (numbers-fit u b) (numbers-ordered t u h a b)))
