-- What the crate's functions take and give, for their contracts; no outcome cites it. Definitions only. Assumes nothing.
use Rattle.std.specs.Prelude.{◌≡◌, List, [], ℕ, Float, Option, Some, None, unwrap_or}
use Rattle.zone.specs.Zone.{Record, records}
use Rattle.zone.specs.declared.ZoneList.{ZoneList}
use Rattle.field_record.specs.Inner.{argument_of, after}
use Rattle.field_record.specs.declared.Arguments.{Arguments}

-- what reading the next argument gives, with a value for an absent one, and the arguments after it
pub record Reads (old new : Arguments) (absent x : Float) : Type 0 where
  pub value : x ≡ unwrap_or (argument_of old.map old.fields.now 0) absent
  pub on : argument_of new.map new.fields.now ≡ after (argument_of old.map old.fields.now)

-- the bytes of a local call's zone list; a UTC call has none
abbrev pub list_bytes : Option ZoneList → List ℕ
list_bytes (Some list) = list.bytes.now
list_bytes None = []

-- and its records
abbrev pub records_in : Option ZoneList → List Record
records_in list = records (list_bytes list)
