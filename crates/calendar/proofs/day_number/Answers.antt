-- `calendar::day_number` meets its contract: MakeDay of a month within its year is the first of the month and the date. Assumes nothing.
use Rattle.std.proofs.lemmas.Int as signed
use mathlib.Core.Path.{◌≡◌, ap, ◌∙◌}
use Prim.Native.Nat.{ℕ, ◌≤◌}
use native.Mathlib.Omega.{arith}
use lib.IntN.{pos, nat_abs, ◌+ℤ◌, ◌-ℤ◌}
use Rattle.integers.proofs.Machine.{kept}
use Rattle.ecma262.specs.Date.{day_from_year, leap_of, days_before, make_day}
use Rattle.calendar.specs.Calendar.{year_counted}
use Rattle.calendar.proofs.Counting.{make-day-by}
use Rattle.calendar.proofs.day_number.Goals as goal
use Rattle.calendar.proofs.day_number.Goals.{After-from}

-- what the calls give
parts : (c : After-from) → let f = c.first_day.result in let b = c.days_before.result in let a = c.args in
    (nat_abs (f +ℤ pos b) ≤ 400_000_000) × (b ≤ 366) × (f +ℤ pos b +ℤ (a.date -ℤ pos 1) ≡ make_day a.year (pos a.month) a.date)
parts c =
    let a = c.args in
    let year : year_counted c.of-counted.result.count ≡ a.year = c.of-counted.ensures ∙ kept c.ranges.year in
    make-day-by a.year a.month c.requires.0 c.requires.1 a.date c.first_day.result c.days_before.result (c.first_day.ensures ∙ ap day_from_year year)
    (c.days_before.ensures ∙ ap (λ (l : ℕ). days_before l a.month) (c.is_leap.ensures ∙ ap leap_of year))

pub overflow_add-first : goal.overflow_add-first
overflow_add-first c = omega (arith, signed.ints, parts c, c.from.ensures)

pub overflow_add-result : goal.overflow_add-result
overflow_add-result c = omega (arith, signed.ints, parts c, c.from.ensures)

pub returns : goal.returns
returns c = omega (arith, signed.ints, parts c, c.from.ensures)
