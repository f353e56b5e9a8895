-- A slice of zone records as the zone list's records, so that the one definition of a lookup, zone's `offset_at`, is asked of both forms.
-- Definitions only. Assumes nothing.
use Rattle.std.specs.Prelude.{List, map}
use Rattle.zone.specs.Zone.{Record}
use Rattle.zone_records.specs.declared.ZoneRecord.{ZoneRecord}

-- "a lent run of records, each a second and an offset"
abbrev pub as_record : ZoneRecord → Record
as_record z = record { second = z.second; offset = z.offset }

abbrev pub as_records : List ZoneRecord → List Record
as_records list = map as_record list
