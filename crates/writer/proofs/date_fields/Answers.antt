-- `writer::date_fields` meets its contract: each function of the calendar gives ECMA-262's field of a whole time. Assumes nothing.
use mathlib.Core.Path.{◌≡◌, ap, ◌∙◌}
use lib.IntN.{ℤ}
use mir.Syntax.{w32}
use mir.Val.{to_z, of_z}
use Rattle.ecma262.specs.Date.{Fields, fields_of, week_day, year_from_time}
use Rattle.ecma262.specs.Domain.{Shown}
use Rattle.ecma262.proofs.Written.{year-small}
use Rattle.integers.proofs.Machine.{kept}
use Rattle.text.proofs.Sign.{year-fits}
use Rattle.text.proofs.Times.{time-printable}
use Rattle.float.specs.Whole.{trunc_z}
use Rattle.calendar.proofs.Whole.{year-from-time-whole, month-from-time-whole, date-from-time-whole, week-day-whole, hour-from-time-whole, min-from-time-whole, sec-from-time-whole, ms-from-time-whole}
use Rattle.writer.proofs.date_fields.Goals as goal
use Rattle.writer.proofs.date_fields.Goals.{After-week_day}

-- the year y as the code holds it: in 32 bits
year-kept : (t : ℤ) → Shown t → {y : ℤ} → y ≡ year_from_time t → to_z w32 (of_z w32 y) ≡ year_from_time t
year-kept t h e = ap (λ (y : ℤ). to_z w32 (of_z w32 y)) e ∙ kept (year-fits (year_from_time t) (year-small t h))

-- the fields as they are handed over
fields : After-week_day → Fields
fields c =
    let day = c.year_month_date-day.result in
    let clock = c.clock_of-clock.result in
    record {
      year = to_z w32 (of_z w32 day.year);
      month = day.month;
      date = day.date;
      hour = clock.hour;
      minute = clock.minute;
      second = clock.second;
      ms = clock.ms;
    }

fields-are : (c : After-week_day) → fields c ≡ fields_of (trunc_z c.args.t)
unfolding fields
fields-are c =
    let w = c.requires.whole in
    let h = c.requires.shown in
    let f = c.clock_of-clock.ensures in
    λ i. record {
      year = year-kept (trunc_z c.args.t) h (c.year_month_date-day.ensures.0 ∙ year-from-time-whole w h) i;
      month = (c.year_month_date-day.ensures.1 ∙ month-from-time-whole w h) i;
      date = (c.year_month_date-day.ensures.2 ∙ date-from-time-whole w h) i;
      hour = (f.0 ∙ hour-from-time-whole w h) i;
      minute = (f.1 ∙ min-from-time-whole w h) i;
      second = (f.2 ∙ sec-from-time-whole w h) i;
      ms = (f.3 ∙ ms-from-time-whole w h) i;
    }

weekday-is : (c : After-week_day) → c.week_day.result ≡ week_day (trunc_z c.args.t)
weekday-is c = c.week_day.ensures ∙ week-day-whole c.requires.whole c.requires.shown

pub invariant_of-result : goal.invariant_of-result
unfolding fields
invariant_of-result c =
    let d = (goal.at.invariant_of-result c).After-week_day in
    record { printable = time-printable (fields d) d.week_day.result (trunc_z c.args.t) d.requires.shown (fields-are d) (weekday-is d) }

pub returns : goal.returns
unfolding fields
returns c =
    let d = (goal.at.returns c).After-week_day in
    record { fields = fields-are d; weekday = weekday-is d }
