-- "Can two programs keep it and differ?" Not the contract of `parse`: two answers with the same reading are equal. Assumes nothing.
use mathlib.Core.Path.{◌≡◌, refl, sym, ap, ◌∙◌}
use Rattle.ecma262.specs.Format as format
use Rattle.parser.specs.declared.Year.{Year}
use Rattle.parser.specs.declared.Year.TheVariants.{Four, Six}
use Rattle.parser.specs.declared.Date.{Date}
use Rattle.parser.specs.declared.Date.TheVariants.{ToYear, ToMonth, ToDay}
use Rattle.parser.specs.declared.Time.{Time}
use Rattle.parser.specs.declared.Time.TheVariants as T
use Rattle.parser.specs.declared.Zone.{Zone}
use Rattle.parser.specs.declared.Zone.TheVariants as Z
use Rattle.std.specs.Prelude.{Result, Ok, Err}
use Rattle.parser.specs.declared.Fault.{Fault}
use Rattle.parser.specs.declared.Form.{Form}
use Rattle.parser.specs.declared.Form.TheVariants as F
use Rattle.parser.specs.Reading.{Out, ok, fault}
use Rattle.parser.specs.Inner.{as_year, as_date, as_time, as_zone, as_reading}

-- ---- the code's value of a form, and back: no two answers say the same

year_value : format.Year → Year
year_value (format.Year.four y) = Four y
year_value (format.Year.six n y) = Six n y

year-value : (y : Year) → year_value (as_year y) ≡ y
unfolding year_value
year-value (Four y) = refl
year-value (Six n y) = refl

date_value : format.Date → Date
date_value format.Date.toYear = ToYear
date_value (format.Date.toMonth m) = ToMonth m
date_value (format.Date.toDay m d) = ToDay m d

date-value : (d : Date) → date_value (as_date d) ≡ d
unfolding date_value
date-value ToYear = refl
date-value (ToMonth m) = refl
date-value (ToDay m d) = refl

time_value : format.Time → Time
time_value (format.Time.toMinute h m) = T.ToMinute h m
time_value (format.Time.toSecond h m s) = T.ToSecond h m s
time_value (format.Time.toDecimals h m s places decimals) = T.ToDecimals h m s places decimals

time-value : (t : Time) → time_value (as_time t) ≡ t
unfolding time_value
time-value (T.ToMinute h m) = refl
time-value (T.ToSecond h m s) = refl
time-value (T.ToDecimals h m s places decimals) = refl

zone_value : format.Zone → Zone
zone_value format.Zone.absent = Z.Absent
zone_value format.Zone.zulu = Z.Zulu
zone_value (format.Zone.toHour n h) = Z.ToHour n h
zone_value (format.Zone.toMinute n h m) = Z.ToMinute n h m

zone-value : (z : Zone) → zone_value (as_zone z) ≡ z
unfolding zone_value
zone-value Z.Absent = refl
zone-value Z.Zulu = refl
zone-value (Z.ToHour n h) = refl
zone-value (Z.ToMinute n h m) = refl

answer : Out format.Form → Result Form Fault
answer (ok (format.Form.date y d) s) = Ok (F.Date (year_value y) (date_value d))
answer (ok (format.Form.timed y d t z) s) = Ok (F.Timed (year_value y) (date_value d) (time_value t) (zone_value z))
answer (fault f) = Err f

answer-reading : (r : Result Form Fault) → answer (as_reading r) ≡ r
unfolding answer
answer-reading (Ok (F.Date y d)) = rw (year-value y, date-value d)
answer-reading (Ok (F.Timed y d t z)) = rw (year-value y, date-value d, time-value t, zone-value z)
answer-reading (Err f) = refl

pub answer-unique : (r q : Result Form Fault) → as_reading r ≡ as_reading q → r ≡ q
answer-unique r q e = sym (answer-reading r) ∙ ap answer e ∙ answer-reading q
