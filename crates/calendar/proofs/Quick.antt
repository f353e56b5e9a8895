-- The quick ways in integers give what the f64 operations give, of a whole time of the range and its local shifts: the clock and the weekday
-- by its count, and the days from a near year's first. Assumes nothing.
use mathlib.Core.Path.{◌≡◌, sym, ◌∙◌}
use Prim.Native.Nat.{ℕ, ◌+◌, ◌/◌, ◌%◌, ◌^◌, ◌≤◌}
use native.Mathlib.Omega.{arith}
use lib.IntN.{ℤ, pos, nat_abs, ◌+ℤ◌, ◌-ℤ◌, ◌*ℤ◌}
use lib.Signed.{lt_z, ◌<ℤ◌, lt_z_yes}
use lib.Ieee.{Float, binary64, sub, lt, of_int, to_signed}
use Rattle.integers.proofs.Int.{ints, abs-in, abs-out, at, ◌-ᵗ◌, ◌*ᵗ◌, ◌/ᵗ◌, read}
use Rattle.ecma262.specs.Date.{day_of_time, day_from_year}
use Rattle.ecma262.proofs.Range.{day-range}
use Rattle.float.specs.Whole.{IsWhole, trunc_z, WholeWithin}
use Rattle.float.proofs.Casts.{in-63, to_signed-whole}
use Rattle.float.proofs.Fractions.{same_test}
use Rattle.float.proofs.Order.{lt-whole}
use Rattle.float.proofs.Whole.{of_int-whole, sub-whole}
use Rattle.calendar.specs.Calendar.{day_f, day_from_year_f, time_from_year_f, week_day_f, hour_from_time_f, min_from_time_f, sec_from_time_f, ms_from_time_f}
use Rattle.calendar.proofs.Counting.{mod-counted, unit-counted, week-day-counted}
use Rattle.calendar.proofs.Whole.{shown-small, day-whole, day-from-year-whole, time-from-year-whole, week-day-whole, hour-from-time-whole, min-from-time-whole, sec-from-time-whole, ms-from-time-whole}

-- a year's first day is after z where its time is: it is a whole number of days
day-order : (z d : ℤ) → lt_z (day_of_time z -ℤ d) (pos 0) ≡ lt_z z (pos 86_400_000 *ℤ d)
day-order z d =
    same_test (lt_z (day_of_time z -ℤ d) (pos 0)) (lt_z z (pos 86400000 *ℤ d))
    (λ c. (let h : (day_of_time z -ℤ d) <ℤ pos 0 = lt_z_yes c in let g : z <ℤ (pos 86400000 *ℤ d) = omega (ints, h, read (at z /ᵗ 86400000 -ᵗ at d), read (86400000 *ᵗ at d)) in g).lt)
    (λ c. (let h : z <ℤ (pos 86400000 *ℤ d) = lt_z_yes c in let g : (day_of_time z -ℤ d) <ℤ pos 0 = omega (ints, h, read (at z /ᵗ 86400000 -ᵗ at d), read (86400000 *ᵗ at d)) in g).lt)

module _ {t : Float} (w : WholeWithin 8_640_000_086_399_000 t) where
  -- ---- the weekday and the clock, by the count n
  module _ (n : ℕ) (e : pos n ≡ trunc_z t +ℤ pos 37_930_477_996_800_000) where
    pub week-day-quick : (n / 86_400_000 + 1) % 7 ≡ week_day_f t
    week-day-quick = week-day-counted (trunc_z t) n e ∙ sym (week-day-whole w.whole w.size)

    pub hour-quick : n / 3_600_000 % 24 ≡ hour_from_time_f t
    hour-quick = unit-counted (trunc_z t) n 3599999 23 439010162 e ∙ sym (hour-from-time-whole w.whole w.size)

    pub min-quick : n / 60_000 % 60 ≡ min_from_time_f t
    min-quick = unit-counted (trunc_z t) n 59999 59 10536243888 e ∙ sym (min-from-time-whole w.whole w.size)

    pub sec-quick : n / 1_000 % 60 ≡ sec_from_time_f t
    sec-quick = unit-counted (trunc_z t) n 999 59 632174633280 e ∙ sym (sec-from-time-whole w.whole w.size)

    pub ms-quick : n % 1_000 ≡ ms_from_time_f t
    ms-quick = mod-counted (trunc_z t) n 999 37930477996800 e ∙ sym (ms-from-time-whole w.whole w.size)

  -- ---- the days from the first of a near year
  module _ (y : ℤ) (h : nat_abs y ≤ 280_001) where
    abbrev days : ℤ
    days = day_of_time (trunc_z t) -ℤ day_from_year y

    year : IsWhole (of_int binary64 y) y
    year = of_int-whole binary64 y (omega arith)

    pub days-into-small : nat_abs (day_of_time (trunc_z t) -ℤ day_from_year y) ≤ 300_000_000
    days-into-small = abs-out days (omega (arith, abs-in (trunc_z t) w.size, abs-in (day_from_year y) (day-range y h), read (at (trunc_z t) /ᵗ 86400000 -ᵗ at (day_from_year y))))

    pub starts-quick : lt_z (day_of_time (trunc_z t) -ℤ day_from_year y) (pos 0) ≡ lt t (time_from_year_f (of_int binary64 y))
    starts-quick = day-order (trunc_z t) (day_from_year y) ∙ sym (lt-whole w.whole (time-from-year-whole h year))

    pub within-quick : day_of_time (trunc_z t) -ℤ day_from_year y ≡ to_signed 63 (sub binary64 (day_f t) (day_from_year_f (of_int binary64 y)))
    within-quick =
        let b : nat_abs days ≤ 2 ^ 53 = omega (arith, days-into-small) in
        sym (to_signed-whole 63 (sub-whole binary64 (day-whole w.whole (shown-small (trunc_z t) w.size)) (day-from-year-whole y (omega arith) year) b) (in-63 days b))
