-- The float calendar is ECMA-262's in whole numbers: of a whole time within the range and its local shifts (Shown, |t| ≤ 8,640,000,086,399,000)
-- each function of utils.rs gives the standard's whole number. The sums, products and floored quotients are exact there. Assumes nothing.
use mathlib.Core.Path.{◌≡◌, sym, ap, ap₂, ◌∙◌, subst}
use mathlib.Core.Bool.{Bool, cond}
use Prim.Native.Nat.{ℕ, ◌+◌, ◌%◌, ◌^◌, ◌≤◌, ◌<◌}
use native.Mathlib.Omega.{arith}
use lib.Dec.{eqb, lit<, lit≤}
use lib.IntN.{ℤ, pos, negsuc, nat_abs, ◌+ℤ◌, ◌-ℤ◌}
use lib.Signed.{mag, ◌≤ℤ◌}
use lib.Ieee.{Float, binary64, add, div, lt, of_int}
use Rattle.integers.specs.Whole.{floor_div, floor_mod}
use Rattle.ecma262.specs.Date.{day_of_time, time_within_day, days_in_year, day_from_year, time_from_year, year_estimate, year_from_time, day_within_year, leap_of, in_leap_year, month_of, month_from_time, date_of, date_from_time, week_day, hour_from_time, min_from_time, sec_from_time, ms_from_time}
use Rattle.ecma262.specs.Domain.{Shown}
use Rattle.integers.proofs.Int.{plus, minus, ints, abs-in, abs-out, mod-small, Term, value, at, ◌+ᵗ◌, ◌-ᵗ◌, ◌*ᵗ◌, ◌/ᵗ◌, read}
use Rattle.ecma262.proofs.Fields.{year_day, year-day, year-day-small, date-small}
use Rattle.ecma262.proofs.Leap.{leap-small}
use Rattle.ecma262.proofs.Clock.{week-day-small}
use Rattle.ecma262.proofs.Range.{year-range, estimate-range, time-range}
use Rattle.float.specs.Whole.{IsWhole}
use Rattle.float.specs.Rounding.{floor_f}
use Rattle.float.proofs.Whole.{of_int-whole, add-whole, sub-whole, mul-whole}
use Rattle.integers.proofs.Floor.{floor_mod-lt}
use Rattle.float.proofs.Quotient.{floor-div}
use Rattle.float.proofs.Modulo.{rem-euclid-whole}
use Rattle.float.proofs.Order.{eq-whole, lt-whole}
use Rattle.float.proofs.Casts.{to_signed-whole, to_unsigned-whole}
use Rattle.calendar.specs.Calendar.{num, day_f, time_within_day_f, divides, days_in_year_f, years_by, day_from_year_f, time_from_year_f, wrap32, year_estimate_f, year_from_time_f, day_within_year_f, leap_f, in_leap_year_f, month_from_time_f, date_from_time_f, week_day_f, clock_f, hour_from_time_f, min_from_time_f, sec_from_time_f, ms_from_time_f}

pub num-whole : (n : ℕ) → n ≤ 2 ^ 53 → IsWhole (num n) (pos n)
num-whole n h = of_int-whole binary64 (pos n) h

pub shown-small : (z : ℤ) → Shown z → nat_abs z < 2 ^ 53
shown-small z h = omega arith

-- ---- the day and the time within it
pub day-whole : {t : Float} {z : ℤ} → IsWhole t z → nat_abs z < 2 ^ 53 → IsWhole (day_f t) (day_of_time z)
unfolding day_f
day-whole w h = floor-div w (num-whole 86400000 (lit≤ tt)) h (lit< tt) (lit< tt)

pub time-within-day-whole : {t : Float} {z : ℤ} → IsWhole t z → IsWhole (time_within_day_f t) (pos (time_within_day z))
unfolding time_within_day_f
time-within-day-whole w = rem-euclid-whole w (num-whole 86400000 (lit≤ tt)) (lit< tt) (lit≤ tt)

-- ---- the year
divides-whole : (n : ℕ) → 0 < n → n ≤ 2 ^ 53 → {y : Float} {z : ℤ} → IsWhole y z → divides n y ≡ eqb (floor_mod z n) 0
divides-whole n p h w = eq-whole (rem-euclid-whole w (num-whole n h) p h) (num-whole 0 (lit≤ tt))

pub days-in-year-whole : {y : Float} {z : ℤ} → IsWhole y z → days_in_year_f y ≡ days_in_year z
unfolding days_in_year_f days_in_year
days-in-year-whole w =
    λ i. cond (divides-whole 400 (lit< tt) (lit≤ tt) w i) 366 (cond (divides-whole 100 (lit< tt) (lit≤ tt) w i) 365 (cond (divides-whole 4 (lit< tt) (lit≤ tt) w i) 366 365))

pub leap-whole : (z : ℤ) → nat_abs z ≤ 2 ^ 53 → leap_f z ≡ leap_of z
leap-whole z h = ap (λ (n : ℕ). cond (eqb n 366) 1 0) (days-in-year-whole (of_int-whole binary64 z h))

module _ (z : ℤ) (h : nat_abs z ≤ 2 ^ 32) where
  years-by-whole : (n from : ℕ) → 0 < n → n < 2 ^ 53 → from ≤ 2000 → {y : Float} → IsWhole y z → IsWhole (years_by n from y) (floor_div (z -ℤ pos from) n)
  years-by-whole n from p s b w = floor-div (sub-whole binary64 w (num-whole from (wide from b)) (le (small from b))) (num-whole n (omega arith)) (small from b) p s
    where
      wide : (from : ℕ) → from ≤ 2000 → from ≤ 2 ^ 53
      wide from b = omega arith

      small : (from : ℕ) → from ≤ 2000 → nat_abs (z -ℤ pos from) < 2 ^ 53
      small from b = let k : nat_abs (z -ℤ pos from) ≤ 4294969296 = abs-out (z -ℤ pos from) (omega (arith, abs-in z h, read (at z -ᵗ at (pos from)))) in omega arith

      le : {a b : ℕ} → a < b → a ≤ b
      le h = omega arith

  -- 365 * numYears1, and the sums with numYears4, numYears100 and numYears400
  pub day-from-year-whole : {y : Float} → IsWhole y z → IsWhole (day_from_year_f y) (day_from_year z)
  unfolding day_from_year_f day_from_year
  day-from-year-whole w =
      add-whole binary64
      (sub-whole binary64
      (add-whole binary64 (mul-whole binary64 (num-whole 365 (lit≤ tt)) (sub-whole binary64 w (num-whole 1970 (lit≤ tt)) b1) b2) (years-by-whole 4 1969 (lit< tt) (lit< tt) (lit≤ tt) w) b3)
      (years-by-whole 100 1901 (lit< tt) (lit< tt) (lit≤ tt) w) b4)
      (years-by-whole 400 1601 (lit< tt) (lit< tt) (lit≤ tt) w) b5
    where
      e1 : Term
      e1 = at z -ᵗ at (pos 1970)

      e2 : Term
      e2 = 365 *ᵗ e1

      e3 : Term
      e3 = e2 +ᵗ (at z -ᵗ at (pos 1969)) /ᵗ 4

      e4 : Term
      e4 = e3 -ᵗ (at z -ᵗ at (pos 1901)) /ᵗ 100

      e5 : Term
      e5 = e4 +ᵗ (at z -ᵗ at (pos 1601)) /ᵗ 400

      b1 : nat_abs (value e1) ≤ 2 ^ 53
      b1 = abs-out (value e1) (omega (arith, abs-in z h, read e1))

      b2 : nat_abs (value e2) ≤ 2 ^ 53
      b2 = abs-out (value e2) (omega (arith, abs-in z h, read e2))

      b3 : nat_abs (value e3) ≤ 2 ^ 53
      b3 = abs-out (value e3) (omega (arith, abs-in z h, read e3))

      b4 : nat_abs (value e4) ≤ 2 ^ 53
      b4 = abs-out (value e4) (omega (arith, abs-in z h, read e4))

      b5 : nat_abs (value e5) ≤ 2 ^ 53
      b5 = abs-out (value e5) (omega (arith, abs-in z h, read e5))

pub time-from-year-whole : {y : Float} {z : ℤ} → nat_abs z ≤ 280_001 → IsWhole y z → IsWhole (time_from_year_f y) (time_from_year z)
unfolding time_from_year_f
time-from-year-whole {y} {z} h w = mul-whole binary64 (num-whole 86400000 (lit≤ tt)) (day-from-year-whole z (omega arith) w) (omega (arith, time-range z h))

-- an i32 is what it is modulo 2^32
pub wrap-inside : (z : ℤ) → (plus z ≤ minus z + 2_147_483_647) × (minus z ≤ plus z + 2_147_483_648) → wrap32 z ≡ z
unfolding wrap32
wrap-inside z h = omega (ints, read ((at z +ᵗ at (pos 2147483648)) /ᵗ 4294967296), read (at (pos (floor_mod (z +ℤ pos 2147483648) 4294967296)) -ᵗ at (pos 2147483648)))

-- ---- "divides by a mean year of 31,556,952,000 ms after adding half": sum, quotient and floor are exact
module _ {t : Float} {z : ℤ} (w : IsWhole t z) (h : Shown z) where
  abbrev mean : ℤ
  mean = floor_div (z +ℤ pos 15_778_476_000) 31_556_952_000

  pub mean-whole : IsWhole (floor_f (div binary64 (add binary64 t (num 15_778_476_000)) (num 31_556_952_000))) (floor_div (z +ℤ pos 15_778_476_000) 31_556_952_000)
  mean-whole =
      let s : nat_abs (z +ℤ pos 15778476000) ≤ 8640015864875000 = abs-out (z +ℤ pos 15778476000) (omega (arith, abs-in z h, read (at z +ᵗ at (pos 15778476000)))) in
      floor-div (add-whole binary64 w (num-whole 15778476000 (lit≤ tt)) (omega arith)) (num-whole 31556952000 (lit≤ tt)) (omega arith) (lit< tt) (lit< tt)

  pub year-estimate-whole : year_estimate_f t ≡ year_estimate z
  unfolding year_estimate_f
  year-estimate-whole =
      ap (λ (y : ℤ). wrap32 (y +ℤ pos 1970)) (to_signed-whole 31 mean-whole (small mean (omega (arith, abs-in (year_estimate z) (estimate-range z h), read (at mean +ᵗ at (pos 1970))))))
      ∙ wrap-inside (year_estimate z) (omega (arith, abs-in (year_estimate z) (estimate-range z h)))
    where
      small : (m : ℤ) → (plus m ≤ minus m + 300000) × (minus m ≤ plus m + 300000) → mag m < 2 ^ 31
      small (pos n) k = omega arith
      small (negsuc n) k = omega arith

  pub year-from-time-whole : year_from_time_f t ≡ year_from_time z
  unfolding year_from_time_f year_from_time
  year-from-time-whole =
      ap (λ (y : ℤ). cond (lt t (time_from_year_f (of_int binary64 y))) (wrap32 (y -ℤ pos 1)) y) year-estimate-whole
      ∙ ap₂ (λ (b : Bool) (y : ℤ). cond b y (year_estimate z))
      (lt-whole w (time-from-year-whole (omega (arith, estimate-range z h)) (of_int-whole binary64 (year_estimate z) (omega (arith, estimate-range z h)))))
      (wrap-inside (year_estimate z -ℤ pos 1) (omega (arith, abs-in (year_estimate z) (estimate-range z h), read (at (year_estimate z) -ᵗ at (pos 1)))))

  year-small : nat_abs (year_from_time z) ≤ 275_821
  year-small = let r : (negsuc 271820 ≤ℤ year_from_time z) × (year_from_time z ≤ℤ pos 275760) = year-range z h in abs-out (year_from_time z) (omega (ints, r))

  -- the year as an f64
  year-whole : IsWhole (of_int binary64 (year_from_time_f t)) (year_from_time z)
  year-whole = subst (λ (y : ℤ). IsWhole (of_int binary64 y) (year_from_time z)) (sym year-from-time-whole) (of_int-whole binary64 (year_from_time z) (omega (arith, year-small)))

  -- ---- the day within the year, the month and the date
  pub day-within-year-whole : day_within_year_f t ≡ year_day z
  unfolding day_within_year_f
  day-within-year-whole = to_unsigned-whole 16 (subst (IsWhole _) (year-day z) (sub-whole binary64 (day-whole w (shown-small z h)) (day-from-year-whole (year_from_time z) (omega (arith, year-small)) year-whole) small)) (omega (arith, year-day-small z, leap))
    where
      leap : in_leap_year z ≤ 1
      leap = leap-small (year_from_time z)

      small : nat_abs (day_within_year z) ≤ 2 ^ 53
      small = subst (λ (d : ℤ). nat_abs d ≤ 2 ^ 53) (sym (year-day z)) (omega (arith, year-day-small z, leap))

  pub in-leap-year-whole : in_leap_year_f t ≡ in_leap_year z
  unfolding in_leap_year_f
  in-leap-year-whole = ap leap_f year-from-time-whole ∙ leap-whole (year_from_time z) (omega (arith, year-small))

  pub month-from-time-whole : month_from_time_f t ≡ month_from_time z
  unfolding month_from_time_f
  month-from-time-whole = ap₂ month_of in-leap-year-whole (ap pos day-within-year-whole ∙ sym (year-day z))

  pub date-from-time-whole : date_from_time_f t ≡ nat_abs (date_from_time z)
  unfolding date_from_time_f
  date-from-time-whole =
      (λ i. nat_abs (date_of (in-leap-year-whole i) ((ap pos day-within-year-whole ∙ sym (year-day z)) i) (month-from-time-whole i)) % 256)
      ∙ under (nat_abs (date_from_time z)) (date-small z)
    where
      under : (n : ℕ) → n ≤ 31 → n % 256 ≡ n
      under n k = omega arith

  -- ---- the weekday and the clock
  pub week-day-whole : week_day_f t ≡ week_day z
  unfolding week_day_f
  week-day-whole =
      to_unsigned-whole 8 (rem-euclid-whole (add-whole binary64 (day-whole w (shown-small z h)) (num-whole 4 (lit≤ tt)) small) (num-whole 7 (lit≤ tt)) (lit< tt) (lit≤ tt)) (omega (arith, week-day-small z))
    where
      small : nat_abs (day_of_time z +ℤ pos 4) ≤ 2 ^ 53
      small = abs-out (day_of_time z +ℤ pos 4) (omega (arith, abs-in z h, read (at z /ᵗ 86400000 +ᵗ at (pos 4))))

  clock-whole : (unit count : ℕ) → 0 < unit → unit < 2 ^ 53 → 0 < count → count ≤ 60 → clock_f unit count t ≡ floor_mod (floor_div z unit) count
  clock-whole unit count p s q b = to_unsigned-whole 8 (rem-euclid-whole (floor-div w (num-whole unit (omega arith)) (shown-small z h) p s) (num-whole count (omega arith)) q (omega arith)) (omega (arith, floor_mod-lt (floor_div z unit) count q))

  pub hour-from-time-whole : hour_from_time_f t ≡ hour_from_time z
  unfolding hour_from_time_f
  hour-from-time-whole = clock-whole 3600000 24 (lit< tt) (lit< tt) (lit< tt) (lit≤ tt)

  pub min-from-time-whole : min_from_time_f t ≡ min_from_time z
  unfolding min_from_time_f
  min-from-time-whole = clock-whole 60000 60 (lit< tt) (lit< tt) (lit< tt) (lit≤ tt)

  pub sec-from-time-whole : sec_from_time_f t ≡ sec_from_time z
  unfolding sec_from_time_f
  sec-from-time-whole = clock-whole 1000 60 (lit< tt) (lit< tt) (lit< tt) (lit≤ tt)

  pub ms-from-time-whole : ms_from_time_f t ≡ ms_from_time z
  unfolding ms_from_time_f
  ms-from-time-whole = to_unsigned-whole 16 (rem-euclid-whole w (num-whole 1000 (lit≤ tt)) (lit< tt) (lit≤ tt)) (omega (arith, mod-small z 999))
