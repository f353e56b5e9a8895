-- In the exact domain of document 01 every sum and product of the makers is exact, and they are ECMA-262's makers in whole numbers: of fields that are any
-- finite f64, cut to whole numbers that meet ExactDay and ExactTime, `make_time` is MakeTime, `make_day` is MakeDay and `make_date` is MakeDate of the two.
-- `make_full_year` is MakeFullYear of every finite year. Assumes nothing.
use mathlib.Core.Path.{◌≡◌, sym, ◌∙◌, subst}
use mathlib.Core.Bool.{true}
use Prim.Native.Nat.{ℕ, ◌+◌, ◌*◌, ◌^◌, ◌≤◌, ◌<◌}
use native.Mathlib.Omega.{arith}
use lib.Dec.{ltb, ltb→lt, nltb→le, lit<, lit≤}
use lib.IntN.{ℤ, pos, negsuc, nat_abs, ◌+ℤ◌, ◌-ℤ◌, ◌*ℤ◌}
use lib.Signed.{◌≤ℤ◌}
use lib.Ieee.{Float, binary64, add, sub, mul, is_nan, of_int}
use lib.Ieee.Bits.{is_true, is_false}
use lib.Ieee.Fits.{sub-fits}
use lib.Ieee.Scale.{finite}
use Rattle.integers.specs.Whole.{floor_div, floor_mod}
use Rattle.ecma262.specs.Date.{day_from_year, days_before, first_of_month, make_time, make_day, make_date, make_full_year}
use Rattle.ecma262.specs.Domain.{ExactDay, ExactTime}
use Rattle.integers.proofs.Int.{plus, minus, ints, abs-in, abs-out, mod-small, by_cond, Term, value, at, ◌+ᵗ◌, ◌-ᵗ◌, ◌ᵗ*◌, ◌/ᵗ◌, read}
use Rattle.ecma262.proofs.Months.{month-nonempty, month-within}
use Rattle.ecma262.proofs.Fields.{rust-make-day, day-of-days}
use Rattle.ecma262.proofs.Range.{day-range, first_range, make-day-range, make-time-range, make-date-range}
use Rattle.float.specs.Whole.{IsWhole}
use Rattle.float.specs.Rounding.{to_integer_or_infinity}
use Rattle.float.proofs.Whole.{neg-whole, add-whole, sub-whole, mul-whole, add-plain, plain-nonzero, int-unique}
use Rattle.float.proofs.Rounding.{whole-finite}
use Rattle.float.proofs.Quotient.{floor-div}
use Rattle.float.proofs.Order.{le-holds, le-fails}
use Rattle.float.proofs.Integer.{integer-whole}
use Rattle.float.proofs.Special.{finite_number}
use Rattle.calendar.specs.Calendar.{num, day_f, day_from_year_f}
use Rattle.calendar.proofs.Whole.{num-whole, day-whole, day-from-year-whole}
use Rattle.make.specs.Make.{whole_part, join_time, make_time_f, year_of_month, month_of_year, rest, month_start_f, make_day_f, make_date_f, full_year, make_full_year_f, IsField}
use Rattle.make.proofs.Tests.{make-time-sum, make-day-finite, day-of-month-finite, make-date-finite, full-year-number, full-year-small, full-year-below, full-year-above}
use Rattle.make.proofs.Parts.{field-part, month-whole}

number : {x : Float} {z : ℤ} → IsField x z → finite x ≡ true
number {x} f = is_true (finite x) f.number

whole-number : {x : Float} {z : ℤ} → IsWhole x z → finite x ≡ true
whole-number {x} w = is_true (finite x) (whole-finite w)

-- ---- MakeTime
module _ (h m s ms : ℤ) (e : ExactTime h m s ms) where
  abbrev hours : Term
  hours = at h ᵗ* 3600000

  abbrev minutes : Term
  minutes = at m ᵗ* 60000

  abbrev seconds : Term
  seconds = at s ᵗ* 1000

  small : (t : Term) → (plus (value t) ≤ minus (value t) + 9007199254740992) × (minus (value t) ≤ plus (value t) + 9007199254740992) → nat_abs (value t) ≤ 2 ^ 53
  small t k = abs-out (value t) k

  join-time-whole : {a b c d : Float} → IsWhole a h → IsWhole b m → IsWhole c s → IsWhole d ms → IsWhole (join_time a b c d) (make_time h m s ms)
  join-time-whole u v w x =
      add-whole binary64
      (add-whole binary64
      (add-whole binary64
      (mul-whole binary64 u (num-whole 3600000 (lit≤ tt)) (small hours (omega (arith, abs-in h e.hour, read hours))))
      (mul-whole binary64 v (num-whole 60000 (lit≤ tt)) (small minutes (omega (arith, abs-in m e.minute, read minutes))))
      (small (hours +ᵗ minutes) (omega (arith, abs-in h e.hour, abs-in m e.minute, read (hours +ᵗ minutes)))))
      (mul-whole binary64 w (num-whole 1000 (lit≤ tt)) (small seconds (omega (arith, abs-in s e.second, read seconds))))
      (small (hours +ᵗ minutes +ᵗ seconds)
      (omega (arith, abs-in h e.hour, abs-in m e.minute, abs-in s e.second, read (hours +ᵗ minutes +ᵗ seconds)))))
      x (omega (arith, make-time-range h m s ms e))

pub make-time-exact : {hour min sec ms : Float} {h m s milli : ℤ} → IsField hour h → IsField min m → IsField sec s → IsField ms milli → ExactTime h m s milli
    → IsWhole (make_time_f hour min sec ms) (make_time h m s milli)
make-time-exact {hour} {min} {sec} {ms} {h} {m} {s} {milli} a b c d e =
    let w = join-time-whole h m s milli e (field-part a) (field-part b) (field-part c) (field-part d) in
    subst (λ (x : Float). IsWhole x (make_time h m s milli)) (sym (make-time-sum hour min sec ms (whole-number w))) w

-- ---- MakeDay: the year after the month's carry, and the time of the month's first day
year-of-month-whole : {y m : Float} {a b : ℤ} → IsWhole y a → IsWhole m b → nat_abs (a +ℤ floor_div b 12) ≤ 280_000 → nat_abs b ≤ 6_000_000 → IsWhole (year_of_month y m) (a +ℤ floor_div b 12)
unfolding year_of_month
year-of-month-whole u v h k = add-whole binary64 u (floor-div v (num-whole 12 (lit≤ tt)) (omega arith) (lit< tt) (lit< tt)) (omega arith)

module _ (ym : ℤ) (mn : ℕ) (h : nat_abs ym ≤ 280_000) (k : mn < 12) where
  abbrev next : ℤ
  next = ym +ℤ pos (rest mn)

  rest-small : rest mn ≤ 1
  rest-small = by_cond (λ n. n ≤ 1) (ltb 1 mn) 1 0 (λ t. lit≤ tt) (λ t. lit≤ tt)

  next_small : nat_abs next ≤ 280_001
  next_small = abs-out next (omega (arith, abs-in ym h, rest-small, read (at ym +ᵗ at (pos (rest mn)))))

  first_small : nat_abs (first_of_month ym mn) ≤ 102_987_429
  first_small = first_range ym mn h k

  first-whole : {y : Float} → IsWhole y ym
      → IsWhole (add binary64 (sub binary64 (day_from_year_f (add binary64 y (num (rest mn)))) (mul binary64 (num 365) (num (rest mn)))) (num (days_before 0 mn))) (first_of_month ym mn)
  first-whole w =
      subst (IsWhole _) (rust-make-day ym mn k)
      (add-whole binary64
      (sub-whole binary64
      (day-from-year-whole next (omega (arith, next_small)) (add-whole binary64 w (num-whole (rest mn) (omega (arith, rest-small))) (omega (arith, next_small))))
      (mul-whole binary64 (num-whole 365 (lit≤ tt)) (num-whole (rest mn) (omega (arith, rest-small))) (omega (arith, rest-small)))
      (abs-out (day_from_year next -ℤ pos (365 * rest mn))
      (omega (arith, abs-in (day_from_year next) (day-range next next_small), rest-small, read (at (day_from_year next) -ᵗ at (pos (365 * rest mn)))))))
      (num-whole (days_before 0 mn) (omega (arith, month-nonempty 0 mn (lit≤ tt) k, month-within 0 mn (lit≤ tt) k)))
      (subst (λ (z : ℤ). nat_abs z ≤ 2 ^ 53) (sym (rust-make-day ym mn k)) (omega (arith, first_small))))

  start_small : nat_abs (first_of_month ym mn *ℤ pos 86_400_000) < 2 ^ 53
  start_small = (make-date-range (first_of_month ym mn) (pos 0) (omega (arith, first_small)) (lit≤ tt)).0

  -- "1 April -271821 lies before the range and still has its day number"
  first-day-whole : {y : Float} → IsWhole y ym → IsWhole (day_f (month_start_f y mn)) (first_of_month ym mn)
  unfolding month_start_f
  first-day-whole w =
      subst (IsWhole _) (day-of-days (first_of_month ym mn))
      (day-whole (mul-whole binary64 (first-whole w) (num-whole 86400000 (lit≤ tt)) (omega (arith, start_small))) start_small)

module _ {year month date : Float} {y m dt : ℤ} (a : IsField year y) (b : IsField month m) (c : IsField date dt) (e : ExactDay y m dt) where
  abbrev ym : Float
  ym = year_of_month (whole_part year) (whole_part month)

  abbrev first : ℤ
  first = first_of_month (y +ℤ floor_div m 12) (floor_mod m 12)

  -- Day(t) + dt
  abbrev counted : Float
  counted = add binary64 (day_f (month_start_f ym (month_of_year (whole_part month)))) (whole_part date)

  carried : IsWhole ym (y +ℤ floor_div m 12)
  carried = year-of-month-whole (field-part a) (field-part b) e.year e.month

  counted-whole : IsWhole counted (first +ℤ dt)
  counted-whole =
      subst (λ (n : ℕ). IsWhole (add binary64 (day_f (month_start_f ym n)) (whole_part date)) (first +ℤ dt)) (sym (month-whole (field-part b)))
      (add-whole binary64 (first-day-whole (y +ℤ floor_div m 12) (floor_mod m 12) e.year (mod-small m 11) carried) (field-part c)
      (abs-out (first +ℤ dt) (omega (arith, abs-in first (first_small (y +ℤ floor_div m 12) (floor_mod m 12) e.year (mod-small m 11)), abs-in dt e.date, read (at first +ᵗ at dt)))))

  make-day-is : make_day_f year month date ≡ sub binary64 counted (num 1)
  make-day-is = make-day-finite year month date (number a) (number b) (number c) ∙ day-of-month-finite ym (month_of_year (whole_part month)) (whole_part date) (whole-number carried)

  day-small : nat_abs (make_day y m dt) ≤ 2 ^ 53
  day-small = omega (arith, make-day-range y m dt e)

  pub make-day-exact : IsWhole (make_day_f year month date) (make_day y m dt)
  unfolding make_day
  make-day-exact = subst (λ (x : Float). IsWhole x (make_day y m dt)) (sym make-day-is) (sub-whole binary64 counted-whole (num-whole 1 (lit≤ tt)) day-small)

  -- and its f64: a number less 1 is never -0
  pub make-day-int : make_day_f year month date ≡ of_int binary64 (make_day y m dt)
  unfolding make_day sub
  make-day-int =
      let one = neg-whole (num-whole 1 (lit≤ tt)) in
      make-day-is
      ∙ int-unique (sub-fits binary64 counted (num 1)) (subst (λ (x : Float). IsWhole x (make_day y m dt)) make-day-is make-day-exact)
      (add-plain binary64 counted-whole one day-small (plain-nonzero one (λ z. omega (ints, z)))) day-small

-- a month within its year carries nothing
pub month-within-exact : (y m dt : ℤ) → nat_abs y ≤ 280_000 → pos 0 ≤ℤ m → m ≤ℤ pos 11 → nat_abs dt ≤ 1_000_000 → ExactDay y m dt
month-within-exact y m dt h from upto k =
    record {
      year = abs-out (y +ℤ floor_div m 12) (omega (ints, from, upto, abs-in y h, read (at y +ᵗ at m /ᵗ 12)));
      month = abs-out m (omega (ints, from, upto));
      date = k;
    }

-- ---- MakeDate, wherever the product and the sum are below 2^53
pub make-date-whole : {day time : Float} {d t : ℤ} → IsWhole day d → IsWhole time t → nat_abs (d *ℤ pos 86_400_000) < 2 ^ 53 → nat_abs (make_date d t) < 2 ^ 53
    → IsWhole (make_date_f day time) (make_date d t)
make-date-whole {day} {time} {d} {t} u v h k =
    let w = add-whole binary64 (mul-whole binary64 u (num-whole 86400000 (lit≤ tt)) (below h)) v (below k) in
    subst (λ (x : Float). IsWhole x (make_date d t)) (sym (make-date-finite day time (whole-number w))) w
  where
    below : {n : ℕ} → n < 2 ^ 53 → n ≤ 2 ^ 53
    below l = omega arith

pub make-date-exact : {day time : Float} {d t : ℤ} → IsWhole day d → IsWhole time t → nat_abs d ≤ 103_987_430 → nat_abs t ≤ 6_200_000_000_000
    → IsWhole (make_date_f day time) (make_date d t)
make-date-exact {day} {time} {d} {t} u v h k = let r = make-date-range d t h k in make-date-whole u v r.0 r.1

-- and it leaves room for a local shift of a day
pub make-date-small : (d t : ℤ) → nat_abs d ≤ 103_987_430 → nat_abs t ≤ 6_200_000_000_000 → nat_abs (make_date d t) ≤ 8_999_999_999_999_999
make-date-small d t h k = abs-out (make_date d t) (omega (arith, abs-in d h, abs-in t k, read (at d ᵗ* 86400000 +ᵗ at t)))

-- ---- MakeFullYear, of a finite year of any size
full-year-whole : {i : Float} (z : ℤ) → IsWhole i z → IsWhole (full_year i) (make_full_year z)
full-year-whole {i} (negsuc n) w = subst (λ (x : Float). IsWhole x (negsuc n)) (sym (full-year-below i (le-fails (num-whole 0 (lit≤ tt)) w (omega ints)))) w
full-year-whole {i} (pos n) w =
    by_cond (IsWhole (full_year i)) (ltb n 100) (pos (1900 + n)) (pos n)
    (λ t. let l : n < 100 = ltb→lt n 100 t in
    subst (λ (x : Float). IsWhole x (pos (1900 + n))) (sym (full-year-small i (le-holds (num-whole 0 (lit≤ tt)) w (omega ints)) (le-holds w (num-whole 99 (lit≤ tt)) (omega ints))))
    (add-whole binary64 (num-whole 1900 (lit≤ tt)) w (omega arith)))
    (λ t. let l : 100 ≤ n = nltb→le n 100 t in
    subst (λ (x : Float). IsWhole x (pos n)) (sym (full-year-above i (le-fails w (num-whole 99 (lit≤ tt)) (omega ints)))) w)

pub make-full-year-exact : {year : Float} {y : ℤ} → IsField year y → IsWhole (make_full_year_f year) (make_full_year y)
make-full-year-exact {year} {y} f =
    subst (λ (x : Float). IsWhole x (make_full_year y)) (sym (full-year-number year (is_false (is_nan year) (finite_number year f.number))))
    (full-year-whole y (subst (IsWhole (to_integer_or_infinity year)) f.cut (integer-whole year f.format f.number).0))
