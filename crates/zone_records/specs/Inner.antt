-- What an inner function of the judging answers, for its contract; no outcome cites it. Definitions only. Assumes nothing.
use Rattle.std.specs.Prelude.{Bool, ◌&&◌, leb, nat_abs}
use Rattle.std.specs.Int.Signed.{lt_z}
use Rattle.zone_records.specs.declared.ZoneRecord.{ZoneRecord}

-- z is within the bounds, and after y
abbrev pub follows : ZoneRecord → ZoneRecord → Bool
follows y z = leb (nat_abs z.offset) 86399 && lt_z y.second z.second
