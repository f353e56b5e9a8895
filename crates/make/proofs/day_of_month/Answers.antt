-- `make::day_of_month` meets its contract. Assumes nothing.
use mathlib.Core.Path.{sym, ap, ◌∙◌}
use lib.Ieee.{binary64, add, sub, of_bits, of_int}
use lib.Ieee.Scale.{finite}
use Rattle.calendar.specs.Calendar.{num, day_f}
use Rattle.make.specs.Make.{month_start_f}
use Rattle.make.proofs.Tests.{off, on, day-of-month-not-finite, day-of-month-finite}
use Rattle.make.proofs.day_of_month.Goals as goal

pub returns-then-not-is_finite : goal.returns-then-not-is_finite
unfolding of_bits of_int
returns-then-not-is_finite c =
    sym (day-of-month-not-finite _ _ _ (ap finite (sym c.year_of_month-ym.ensures) ∙ off _ c.is_finite.ensures.value c.if-not-is_finite.true))

pub returns : goal.returns
unfolding of_bits of_int
returns c =
    let t = c.day.ensures ∙ ap day_f (c.month_start-t.ensures ∙ (λ i. month_start_f (c.year_of_month-ym.ensures i) (c.month_of_year-mn.ensures i))) in
    ap (λ d. sub binary64 (add binary64 d c.args.dt) (num 1)) t
    ∙ sym (day-of-month-finite _ _ _ (ap finite (sym c.year_of_month-ym.ensures) ∙ on _ c.is_finite.ensures.value c.if-not-is_finite.false))
