-- What fields have room in the digits that are printed, for the type of the fields. Definitions only. Assumes nothing.
use Rattle.std.specs.Prelude.{ℕ, ℤ, ◌<◌, ◌≤◌, nat_abs}

-- every date of the range, and of the local times about it, is such
pub record Printable (year : ℤ) (month date hour minute second ms weekday : ℕ) : Type 0 where
  pub year-ok : nat_abs year ≤ 999999
  pub month-ok : month < 12
  pub date-ok : date < 100
  pub hour-ok : hour < 100
  pub minute-ok : minute < 100
  pub second-ok : second < 100
  pub ms-ok : ms < 1000
  pub weekday-ok : weekday < 7
