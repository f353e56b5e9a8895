-- What a text denotes, in whole numbers: document 01, "What a text denotes". One relation on bytes: zone list, text and instant. It is
-- from the declarative format (ecma262, specs/Format.antt), ECMA-262's makers and the zone list's rule. Definitions only. Assumes nothing.
use Rattle.std.specs.Prelude.{◌≡◌, Bool, true, false, List, ℕ, ◌+◌, ◌*◌, ℤ, pos, ◌+ℤ◌, ◌-ℤ◌}
use Rattle.ecma262.specs.Date.{time_of, InRange}
use Rattle.ecma262.specs.Format.{Zone, Form, Writes, form_fields, form_zone}
use Rattle.ecma262.specs.Format.Zone.{absent, zulu, toHour}
use Rattle.zone.specs.Zone.{Record, records, Accepted}
use Rattle.local.specs.Local.{utc_time}

-- an offset as it is written: an hour is 3,600,000 ms, a minute 60,000, and `+` is ahead of UTC
abbrev pub less_written : Bool → ℕ → ℕ → ℤ → ℤ
less_written true h m t = t +ℤ pos (3_600_000 * h + 60_000 * m)
less_written false h m t = t -ℤ pos (3_600_000 * h + 60_000 * m)

-- "then less its offset, which is 0 for `Z` and for a date alone. For a time without zone that offset is the one the list gives at the local
-- time read as an instant". An offset's absent minute is 0.
abbrev pub less_offset : List Record → Zone → ℤ → ℤ
less_offset list absent t = utc_time list t
less_offset list zulu t = t
less_offset list (toHour negative h) t = less_written negative h 0 t
less_offset list (Zone.toMinute negative h m) t = less_written negative h m t

-- "ECMA-262's MakeDate of MakeDay and MakeTime of its fields", "then less its offset"
unfoldable pub instant_of : List Record → Form → ℤ
instant_of list f = less_offset list (form_zone f) (time_of (form_fields f))

-- the text denotes the instant t under the zone list
pub record Denotes (zone text : List ℕ) (t : ℤ) : Type 0 where
  pub form : Form
  pub writes : Writes form text
  pub instant : instant_of (records zone) form ≡ t

-- "a zone list is accepted when it hasn't the fault of refusal 1, and a text under a list when none of the reader's refusals applies to
-- the two": the list keeps its rule, and the text denotes an instant of the range
pub record AcceptedText (zone text : List ℕ) : Type 0 where
  pub list : Accepted zone
  pub t : ℤ
  pub denotes : Denotes zone text t
  pub inside : InRange t
