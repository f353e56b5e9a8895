-- The fields of every time of the range, and of every local time about it, are printable. Assumes nothing.
use mathlib.Core.Path.{◌≡◌, sym, subst}
use Prim.Native.Nat.{ℕ, ◌≤◌, ◌<◌}
use native.Mathlib.Omega.{arith}
use lib.IntN.{ℤ, nat_abs}
use Rattle.ecma262.specs.Date.{Fields, week_day, Valid, fields_of}
use Rattle.ecma262.proofs.Fields.{fields-valid}
use Rattle.ecma262.proofs.Clock.{week-day-small}
use Rattle.ecma262.proofs.Written.{year-small, month-days}
use Rattle.text.specs.Fields.{Printable}

pub fields-printable : (f : Fields) (w : ℕ) → Valid f → nat_abs f.year ≤ 999999 → w < 7 → Printable f.year f.month f.date f.hour f.minute f.second f.ms w
fields-printable f w v y d =
    record {
      year-ok = y;
      month-ok = v.month-ok;
      date-ok = omega (arith, v.date-upto, month-days f.year f.month v.month-ok);
      hour-ok = omega (arith, v.hour-ok);
      minute-ok = omega (arith, v.minute-ok);
      second-ok = omega (arith, v.second-ok);
      ms-ok = v.ms-ok;
      weekday-ok = d;
    }

pub time-printable : (f : Fields) (w : ℕ) (t : ℤ) → nat_abs t ≤ 8_640_000_086_399_000 → f ≡ fields_of t → w ≡ week_day t → Printable f.year f.month f.date f.hour f.minute f.second f.ms w
time-printable f w t h e d =
    fields-printable f w (subst Valid (sym e) (fields-valid t)) (subst (λ g. nat_abs g.year ≤ 999999) (sym e) (year-small t h)) (subst (λ n. n < 7) (sym d) (week-day-small t))
