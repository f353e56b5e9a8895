-- Years, days and times counted from far back, in unsigned numbers: with the year y as n = y + 400 k - 1 its first day and its leap day are those of n,
-- whatever k; and quotients and remainders of a time are those of its count. How large the days of such years are. Assumes nothing.
use mathlib.Core.Path.{◌≡◌, sym, ap, ap₂, subst, ◌∙◌}
use mathlib.Core.Bool.{Bool, cond}
use Prim.Native.Nat.{ℕ, suc, ◌+◌, ◌*◌, ◌-◌, ◌/◌, ◌%◌, ◌≤◌, ◌<◌}
use native.Mathlib.Nat.{mul-add}
use native.Mathlib.Omega.{arith, div_fact, mod_fact}
use lib.Dec.{eqb}
use lib.IntN.{ℤ, pos, nat_abs, ◌+ℤ◌, ◌-ℤ◌}
use Rattle.integers.specs.Whole.{floor_div, floor_mod}
use Rattle.integers.proofs.Int.{plus, minus, ints, abs-in, abs-out, Term, at, ◌+ᵗ◌, ◌-ᵗ◌, ◌*ᵗ◌, ◌/ᵗ◌, Facts, read}
use Rattle.integers.proofs.Floor.{floor-unique}
use Rattle.ecma262.specs.Date.{day_of_time, week_day, days_in_year, day_from_year, leap_of, days_before, first_of_month, make_day}
use Rattle.ecma262.proofs.Year.{day-bounds}
use Rattle.ecma262.proofs.Leap.{year_days, days-cycle, leap-small}
use Rattle.ecma262.proofs.Months.{month-nonempty, month-within}
use Rattle.ecma262.proofs.Fields.{make-day-plain}
use Rattle.calendar.specs.Calendar.{year_counted}

-- the first day of the year n
abbrev pub first_day : ℕ → ℕ
first_day n = 365 * n + n / 4 - n / 100 + n / 400

pub first-day-counted : (k : ℕ) (y : ℤ) (n : ℕ) → pos (n + 1) ≡ y +ℤ pos (400 * k) → pos (first_day n) ≡ day_from_year y +ℤ pos (146_097 * k + 719_162)
unfolding day_from_year
first-day-counted k y n e = omega (ints, fours, hundreds, cycles, since, count, read (365 *ᵗ (at y -ᵗ at (pos 1970)) +ᵗ q4 -ᵗ q100 +ᵗ q400 +ᵗ at (pos (146097 * k + 719162))))
  where
    q4 : Term
    q4 = at (floor_div (y -ℤ pos 1969) 4)

    q100 : Term
    q100 = at (floor_div (y -ℤ pos 1901) 100)

    q400 : Term
    q400 = at (floor_div (y -ℤ pos 1601) 400)

    count : Facts (at y +ᵗ at (pos (400 * k)))
    count = read (at y +ᵗ at (pos (400 * k)))

    -- numYears4, numYears100 and numYears400 are n / 4, n / 100 and n / 400, less those before 1970
    fours : plus (floor_div (y -ℤ pos 1969) 4) + (100 * k + 492) ≡ minus (floor_div (y -ℤ pos 1969) 4) + n / 4
    fours = omega (ints, count, read ((at y -ᵗ at (pos 1969)) /ᵗ 4))

    hundreds : plus (floor_div (y -ℤ pos 1901) 100) + (4 * k + 19) ≡ minus (floor_div (y -ℤ pos 1901) 100) + n / 100
    hundreds = omega (ints, count, read ((at y -ᵗ at (pos 1901)) /ᵗ 100))

    cycles : plus (floor_div (y -ℤ pos 1601) 400) + (k + 4) ≡ minus (floor_div (y -ℤ pos 1601) 400) + n / 400
    cycles = omega (ints, count, read ((at y -ᵗ at (pos 1601)) /ᵗ 400))

    since : n / 100 ≤ n
    since = omega arith

-- ---- a leap year, by its number n + 1
pub leap-counted : (k : ℕ) (y : ℤ) (n : ℕ) → pos (n + 1) ≡ y +ℤ pos (400 * k) → leap_of (pos (n + 1)) ≡ leap_of y
leap-counted k y n e =
    ap (λ (d : ℕ). cond (eqb d 366) 1 0) (days-cycle (pos (n + 1)) ∙ ap year_days (omega (ints, read (at y /ᵗ 400), read (at y +ᵗ at (pos (400 * k))))) ∙ sym (days-cycle y))

-- ---- with k = 3,000, of the year counted as n
module _ (n : ℕ) where
  counted : pos (n + 1) ≡ year_counted n +ℤ pos (400 * 3_000)
  counted = omega (ints, read (at (pos n) -ᵗ at (pos 1199999) +ᵗ at (pos 1200000)))

  -- its first day, as the machine takes 439,010,162 from it
  pub first_day_is : pos (first_day n) -ℤ pos 439_010_162 ≡ day_from_year (year_counted n)
  first_day_is =
      let f : pos (first_day n) ≡ day_from_year (year_counted n) +ℤ pos 439010162 = first-day-counted 3000 (year_counted n) n counted in
      omega (ints, f, read (at (day_from_year (year_counted n)) +ᵗ at (pos 439010162)), read (at (pos (first_day n)) -ᵗ at (pos 439010162)))

  -- its leap day, by the tests of the divisors 400, 100 and 4
  pub leap-by : (a b d : Bool) → eqb ((n + 1) % 400) 0 ≡ a → eqb ((n + 1) % 100) 0 ≡ b → eqb ((n + 1) % 4) 0 ≡ d
      → cond (eqb (cond a 366 (cond b 365 (cond d 366 365))) 366) 1 0 ≡ leap_of (year_counted n)
  unfolding days_in_year
  leap-by a b d e f g =
      (λ i. cond (eqb (cond (sym e i) 366 (cond (sym f i) 365 (cond (sym g i) 366 365))) 366) 1 0) ∙ leap-counted 3000 (year_counted n) n counted

-- ---- the first of a month, and MakeDay of a date in it
module _ (y : ℤ) (m : ℕ) (h : nat_abs y ≤ 1_000_000) (k : m < 12) where
  pub days-small : days_before (leap_of y) m ≤ 366
  days-small = omega (arith, leap-small y, month-nonempty (leap_of y) m (leap-small y) k, month-within (leap_of y) m (leap-small y) k)

  pub first_small : nat_abs (first_of_month y m) ≤ 400_000_000
  first_small = abs-out (first_of_month y m) (omega (arith, abs-in y h, day-bounds y, days-small, read (at (day_from_year y) +ᵗ at (pos (days_before (leap_of y) m)))))

  pub make-day-small : (d : ℤ) → nat_abs d ≤ 1_000_000 → nat_abs (make_day y (pos m) d) ≤ 402_000_000
  make-day-small d b =
      subst (λ (i : ℤ). nat_abs i ≤ 402_000_000) (sym (make-day-plain y m d k))
      (abs-out (first_of_month y m +ℤ d -ℤ pos 1) (omega (arith, abs-in (first_of_month y m) first_small, abs-in d b, read (at (first_of_month y m) +ᵗ at d -ᵗ at (pos 1)))))

  -- by the year's first day f and the days b before the month
  pub make-day-by : (d f : ℤ) (b : ℕ) → f ≡ day_from_year y → b ≡ days_before (leap_of y) m
      → (nat_abs (f +ℤ pos b) ≤ 400_000_000) × (b ≤ 366) × (f +ℤ pos b +ℤ (d -ℤ pos 1) ≡ make_day y (pos m) d)
  make-day-by d f b e g =
      let s : f +ℤ pos b ≡ first_of_month y m = ap₂ (λ (i : ℤ) (n : ℕ). i +ℤ pos n) e g in (
        subst (λ (i : ℤ). nat_abs i ≤ 400_000_000) (sym s) first_small,
        omega (arith, g, days-small),
        omega (ints, s, read (at f +ᵗ at (pos b) +ᵗ (at d -ᵗ at (pos 1))), read (at (first_of_month y m) +ᵗ at d -ᵗ at (pos 1))) ∙ sym (make-day-plain y m d k),
      )

-- ---- a number z counted as n = z + d e, d = k + 1: its quotient by d is counted from e, and its remainder is that of n
module _ (z : ℤ) (n k e : ℕ) (c : pos n ≡ z +ℤ pos (suc k * e)) where
  parts : (floor_div z (suc k) ≡ pos (n / suc k) -ℤ pos e) × (floor_mod z (suc k) ≡ n % suc k)
  parts = floor-unique z q k (n % suc k) (omega (ints, div_fact n k, spread, read (at z +ᵗ at (pos (suc k * e))), read (suc k *ᵗ at q +ᵗ at (pos (n % suc k))))) (mod_fact n k)
    where
      q : ℤ
      q = pos (n / suc k) -ℤ pos e

      spread : suc k * plus q + suc k * e ≡ suc k * (n / suc k) + suc k * minus q
      spread =
          sym (mul-add (suc k) (plus q) e) ∙ ap (λ (i : ℕ). suc k * i) (omega (arith, read (at (pos (n / suc k)) -ᵗ at (pos e)))) ∙ mul-add (suc k) (n / suc k) (minus q)

  pub div-counted : pos (n / suc k) ≡ floor_div z (suc k) +ℤ pos e
  div-counted = let p : floor_div z (suc k) ≡ pos (n / suc k) -ℤ pos e = parts.0 in omega (ints, p, read (at (pos (n / suc k)) -ᵗ at (pos e)), read (at (floor_div z (suc k)) +ᵗ at (pos e)))

  pub mod-counted : n % suc k ≡ floor_mod z (suc k)
  mod-counted = sym parts.1

-- a digit of the clock: how many whole units u + 1 have passed, modulo k + 1
pub unit-counted : (z : ℤ) (n u k e : ℕ) → pos n ≡ z +ℤ pos (suc u * (suc k * e)) → n / suc u % suc k ≡ floor_mod (floor_div z (suc u)) (suc k)
unit-counted z n u k e c = mod-counted (floor_div z (suc u)) (n / suc u) k e (div-counted z n u (suc k * e) c)

-- ---- a shown time, counted from 439,010,162 days back, which is 3 modulo 7
module _ (z : ℤ) (n : ℕ) (c : pos n ≡ z +ℤ pos 37_930_477_996_800_000) where
  count-day : pos (n / 86_400_000) ≡ day_of_time z +ℤ pos 439_010_162
  count-day = div-counted z n 86399999 439010162 c

  pub day-counted : pos (n / 86_400_000) -ℤ pos 439_010_162 ≡ day_of_time z
  day-counted = let e = count-day in omega (ints, e, read (at (pos (n / 86400000)) -ᵗ at (pos 439010162)), read (at (day_of_time z) +ᵗ at (pos 439010162)))

  pub week-day-counted : (n / 86_400_000 + 1) % 7 ≡ week_day z
  week-day-counted =
      let e = count-day in
      mod-counted (day_of_time z +ℤ pos 4) (n / 86400000 + 1) 6 62715737 (omega (ints, e, read (at (day_of_time z) +ᵗ at (pos 439010162)), read (at (day_of_time z) +ᵗ at (pos 4) +ᵗ at (pos 439010159))))
