-- The formula of the days before each month, by one test over the 24 pairs of a kind of year and a month; and the month and the date of a day
-- of the year by those days, for every number of a day, also past the year's end. Assumes nothing.
use mathlib.Core.Path.{◌≡◌, refl, sym, ap, ◌∙◌, subst}
use mathlib.Core.Bool.{Bool, true, false, cond}
use mathlib.Core.List.{List, [], ◌∷◌}
use Prim.Native.Nat.{ℕ, suc, ◌+◌, ◌*◌, ◌-◌, ◌/◌, ◌≤◌, ◌<◌}
use native.Mathlib.Nat.{le_trans}
use native.Mathlib.Omega.{arith}
use borrow.Author.Tests.{lt-ltb, le-ltb}
use lib.Dec.{T, eqb, eqb→eq, leb, leb→le, ltb, ltb→lt, nltb→le, lit<}
use lib.IntN.{pos, nat_abs}
use lib.ListN.{length, get_or}
use mir.Val.{bool_byte}
use Rattle.ecma262.specs.Date.{month_ends, first_after, days_before, month_of, date_of}
use Rattle.integers.proofs.Int.{by-test}
use Rattle.integers.proofs.Table.{all, all-at}
use Rattle.calendar.proofs.Wrap.{bit, byte_is}
use Rattle.ecma262.proofs.Months.{each-month, date-from, month-from, month-small}

-- ---- the days before a month by a line, rounded down, of which from some month on some days come off, in a leap year one less: any line, any
-- days and any such month that pass the test over the 24 pairs
abbrev pub by_line : (early : Bool) (less leap days : ℕ) → ℕ
by_line early less leap days = cond early days (days - less + leap)

abbrev pub agrees : (less slope start per from leap month : ℕ) → Bool
agrees less slope start per from leap month = eqb (by_line (ltb month from) less leap ((slope * month + start) / per)) (days_before leap month)

abbrev pub Agrees : (less slope start per from : ℕ) → Type 0
Agrees less slope start per from = T (all (λ leap. all (agrees less slope start per from leap) 12) 2)

module _ (less slope start per from month : ℕ) (b : Bool) where
  each : (early : Bool) → ltb month from ≡ early → month < 12 → Agrees less slope start per from
      → by_line early less (cond b 1 0) ((slope * month + start) / per) ≡ days_before (cond b 1 0) month
  each early e h t =
      ap (λ early. by_line early less (cond b 1 0) ((slope * month + start) / per)) (sym e) ∙
      eqb→eq _ _ (each-month (agrees less slope start per from) t (cond b 1 0) month (bit b) h)

  -- before that month; and from it on, of days that are there to come off
  pub early-is : month < from → month < 12 → Agrees less slope start per from → (slope * month + start) / per ≡ days_before (cond b 1 0) month
  early-is g h t = each true (lt-ltb month from g) h t

  pub late-is : (leap : ℕ) → less ≤ (slope * month + start) / per → leap ≡ bool_byte b → from ≤ month → month < 12 → Agrees less slope start per from
      → (slope * month + start) / per - less + leap ≡ days_before (cond b 1 0) month
  late-is leap _ e g h t = ap (λ (l : ℕ). (slope * month + start) / per - less + l) (e ∙ byte_is b) ∙ each false (le-ltb month from g) h t

-- ---- the month of the day d of a year: d / 32 or the month after that, tested at each day up to the 351st
pub month-by-32 : (leap d : ℕ) → leap ≤ 1 → d < 352 → month_of leap (pos d) ≡ cond (ltb d (days_before leap (d / 32 + 1))) (d / 32) (d / 32 + 1)
unfolding month_of days_before
month-by-32 leap d h k =
    eqb→eq _ _ (all-at (f leap) 352 (all-at (λ l. all (f l) 352) 2 tt leap (omega arith)) d k)
  where
    f : ℕ → ℕ → Bool
    f l d = eqb (month_of l (pos d)) (cond (ltb d (days_before l (d / 32 + 1))) (d / 32) (d / 32 + 1))

-- a day that no month before December ends after
past-each : (ends : List ℕ) (d : ℕ) → ((i : ℕ) → i < length ends → get_or ends i 0 ≤ d) → first_after ends (pos d) ≡ length ends
past-each [] d h = refl
past-each (end ∷ ends) d h = ap (λ b. cond b 0 (suc (first_after ends (pos d)))) (le-ltb d end (h 0 (omega arith))) ∙ ap suc (past-each ends d (λ i l. h (suc i) (omega arith)))

-- from the 335th day on it is December, also of a number past the year's end
pub month-late : (leap d : ℕ) → leap ≤ 1 → 335 ≤ d → month_of leap (pos d) ≡ 11
unfolding month_of
month-late leap d h k = past-each (month_ends leap) d (λ i l. le_trans (leb→le _ _ (all-at (f leap) 11 (all-at (λ l. all (f l) 11) 2 tt leap (omega arith)) i l)) k)
  where
    f : ℕ → ℕ → Bool
    f l i = leb (get_or (month_ends l) i 0) 335

-- the month that month_of says starts by the day d, for every d
pub month-by-then : (leap d : ℕ) → leap ≤ 1 → (days_before leap (month_of leap (pos d)) ≤ d) × (month_of leap (pos d) < 12)
unfolding days_before
month-by-then leap d h =
    by-test (ltb d (365 + leap))
    (λ c. let k : d < 365 + leap = ltb→lt d (365 + leap) c in (month-from leap d h k, month-small leap d h k))
    (λ c. let k : 365 + leap ≤ d = nltb→le d (365 + leap) c in
    subst (λ m. (days_before leap m ≤ d) × (m < 12)) (sym (month-late leap d h (omega arith))) (omega arith, lit< tt))

-- the date, as the code has it: of the month m and the days b before it
pub date-number : (leap d m b : ℕ) → leap ≤ 1 → m ≡ month_of leap (pos d) → b ≡ days_before leap m
    → (b ≤ d) × (m < 12) × (nat_abs (date_of leap (pos d) (month_of leap (pos d))) ≡ d - b + 1)
date-number leap d m b h e f =
    let w = month-by-then leap d h in
    let g : b ≡ days_before leap (month_of leap (pos d)) = f ∙ ap (days_before leap) e in
    (omega (arith, w.0), omega (arith, w.1), ap nat_abs (date-from leap d (month_of leap (pos d)) w.0) ∙ omega (arith, w.0))
