-- A text of the written form is one of the Date Time String Format, and denotes the time of its fields, whatever the zone list. Assumes nothing.
use mathlib.Core.Path.{◌≡◌, refl, sym, ap, ◌∙◌}
use mathlib.Core.Bool.{true, false}
use mathlib.Core.List.{List, ◌∷◌, ◌++◌}
use Prim.Native.Nat.{ℕ, ◌+◌, ◌-◌}
use native.Mathlib.Omega.{arith}
use lib.IntN.{ℤ, pos}
use Rattle.ecma262.specs.Date.{make_time, make_day, make_date, Fields, time_of}
use Rattle.ecma262.specs.Written.{WrittenYear, WrittenAs}
use Rattle.ecma262.specs.Format.{Year, Date, Time, Form, YearBounds, year_number, prints_year, prints_date, prints_time, prints_zone, Writes}
use Rattle.ecma262.specs.Format.Year.{four, six}
use Rattle.ecma262.specs.Format.Date.{toDay}
use Rattle.ecma262.specs.Format.Time.{toDecimals}
use Rattle.ecma262.specs.Format.Zone.{zulu}
use Rattle.ecma262.specs.Format.Form.{timed}
use Rattle.ecma262.proofs.Decimals.{three-decimals}
use Rattle.ecma262.proofs.Written.{month-days}
use Rattle.reader.specs.Denotes.{instant_of, Denotes}

-- the year of a written text, as the format has it
pub record YearForm (y : ℤ) (w : List ℕ) : Type 0 where
  pub year : Year
  pub bounds : YearBounds year
  pub number : year_number year ≡ y
  pub printed : prints_year year ≡ w

pub year-form : {y : ℤ} {w : List ℕ} → WrittenYear y w → YearForm y w
year-form (WrittenYear.four y h) = record { year = four y; bounds = h; number = refl; printed = refl }
year-form (WrittenYear.above y l h) = record { year = six false y; bounds = h; number = refl; printed = refl }
year-form (WrittenYear.below y l h) = record { year = six true y; bounds = (l, h); number = refl; printed = refl }

module _ {f : Fields} {w : List ℕ} (r : WrittenAs f w) where
  abbrev y : YearForm f.year r.year_text
  y = year-form r.year-is

  abbrev day : Date
  day = toDay (f.month + 1) f.date

  abbrev time : Time
  time = toDecimals f.hour f.minute f.second 3 f.ms

  abbrev form : Form
  form = timed y.year day time zulu

  written-form : Writes form w
  written-form =
      record {
        bounds = (
          y.bounds,
          (omega arith, r.month-upto, r.day-from, omega (arith, r.day-upto, month-days f.year f.month (omega (arith, r.month-upto)))),
          record { hour-to = omega (arith, r.hour-upto); minute-to = r.minute-upto; second-to = r.second-upto; decimals-ok = (omega arith, omega arith, omega (arith, r.ms-upto)); midnight = λ e. absurd (omega (arith, e, r.hour-upto)) },
          tt,
        );
        printed =
            ap (λ (u : List ℕ). u ++ (prints_date day ++ (84 ∷ (prints_time time ++ prints_zone zulu)))) y.printed
            ∙ sym r.text;
      }

  -- a field's month counts from 0
  month-number : f.month + 1 - 1 ≡ f.month
  month-number = omega arith

  pub written-denotes : (zone : List ℕ) → Denotes zone w (time_of f)
  unfolding instant_of
  written-denotes zone =
      record {
        form = form;
        writes = written-form;
        instant = λ i. make_date (make_day (y.number i) (pos (month-number i)) (pos f.date)) (make_time (pos f.hour) (pos f.minute) (pos f.second) (pos (three-decimals f.ms i)));
      }
