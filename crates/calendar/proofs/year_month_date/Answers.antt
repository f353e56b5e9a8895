-- `calendar::year_month_date` meets its contract: of the year, the leap day and the day of the year follow the month, and the date as the day
-- of the year less those before its month. Assumes nothing.
use mathlib.Core.Path.{◌≡◌, refl, sym, ap, ap₂, ◌∙◌}
use mathlib.Core.Bool.{cond}
use Prim.Native.Nat.{ℕ, ◌+◌, ◌-◌, ◌%◌, ◌≤◌, ◌<◌}
use native.Mathlib.Omega.{arith}
use lib.IntN.{ℤ, pos, nat_abs}
use Rattle.integers.proofs.Machine.{kept}
use Rattle.ecma262.specs.Date.{month_of, date_of}
use Rattle.calendar.specs.Calendar.{leap_f, day_within_f, in_leap_year_f, day_within_year_f, month_from_time_f, date_from_time_f}
use Rattle.calendar.proofs.Wrap.{of-32, bit}
use Rattle.calendar.proofs.Months.{month-by-then, date-number}
use Rattle.calendar.proofs.year_month_date.Goals as goal
use Rattle.calendar.proofs.year_month_date.Goals.{After-days_before, After-from-d, After-is_leap_year-leap}

-- the leap day, and the day of the year
leap : (c : After-is_leap_year-leap) → cond c.is_leap_year-leap.result 1 0 ≡ in_leap_year_f c.args.t
unfolding in_leap_year_f
leap c = let y = c.year_from_time-year in c.is_leap_year-leap.ensures ∙ ap leap_f (kept (of-32 y.type_inv) ∙ y.ensures)

day : (c : After-from-d) → c.from-d.result ≡ day_within_year_f c.args.t
unfolding day_within_year_f
day c =
    let y = c.year_from_time-year in
    c.from-d.ensures ∙ c.day_within.ensures ∙ ap (λ (z : ℤ). day_within_f z c.args.t) (kept (of-32 y.type_inv) ∙ y.ensures)

pub overflow_cast-result : goal.overflow_cast-result
overflow_cast-result c =
    record { fits = omega (arith, (month-by-then _ c.from-d.result (bit c.is_leap_year-leap.result)).1, c.month_of_day-month.ensures) }

pub days_before-requires : goal.days_before-requires
days_before-requires c = (date-number _ c.from-d.result _ _ (bit c.is_leap_year-leap.result) c.month_of_day-month.ensures refl).1

-- the month, the days before it, and the date
abbrev Dated : After-days_before → Type 0
Dated c =
    let l : ℕ = cond c.is_leap_year-leap.result 1 0 in
    let d = c.from-d.result in
    (c.days_before.result ≤ d) × (c.month_of_day-month.result < 12) × (nat_abs (date_of l (pos d) (month_of l (pos d))) ≡ d - c.days_before.result + 1)

dated : (c : After-days_before) → Dated c
dated c = date-number _ c.from-d.result _ _ (bit c.is_leap_year-leap.result) c.month_of_day-month.ensures c.days_before.ensures

pub overflow_sub-result : goal.overflow_sub-result
overflow_sub-result c = (dated c).0

pub returns : goal.returns
unfolding month_from_time_f date_from_time_f
returns c =
    let l = leap c.before.before.before.before in
    let d = day c.before.before in
    let y = c.year_from_time-year in (
      kept (of-32 y.type_inv) ∙ y.ensures,
      c.month_of_day-month.ensures ∙ ap₂ (λ (l d : ℕ). month_of l (pos d)) l d,
      ap (λ n. n % 256) (sym (dated c).2) ∙ ap₂ (λ (l d : ℕ). nat_abs (date_of l (pos d) (month_of l (pos d))) % 256) l d,
    )
