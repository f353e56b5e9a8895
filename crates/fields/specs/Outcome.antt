-- The whole answer of the builder and of a setter, for any bytes and any bits: the rows of document 01's table "Where a call is turned back",
-- from the top down. Definitions only. Assumes nothing.
use Rattle.std.specs.Prelude.{Bool, not, cond, ◌&&◌, List, ℕ, Float, Option, Some, None, Result, Ok, Err}
use Rattle.std.specs.Float.{nan, binary64}
use Rattle.std.specs.Float.Ieee.{to_bits}
use Rattle.answer.specs.declared.Refusal.{Refusal}
use Rattle.answer.specs.declared.Refusal.TheVariants as fault
use Rattle.zone.specs.Zone.{Record, accepts, records}
use Rattle.timevalue.specs.declared.TimeValue.{TimeValue}
use Rattle.timevalue.specs.declared.TimeValue.TheVariants as given
use Rattle.timevalue.specs.TimeValue.{time_value_of}
use Rattle.field_record.specs.FieldRecord.{has_length, has_other_bit}
use Rattle.new_date.specs.declared.Part.{Part}
use Rattle.new_date.specs.Calls.{build, set, bits_of, shift_in, value_from}

-- "this number exactly when its fault is the first met"
abbrev pub refuse : Bool → Refusal → Result ℕ Refusal → Result ℕ Refusal
refuse met number rest = cond met (Err number) rest

-- Where a setter starts. "Every setter but `set_full_year` gives NaN for NaN": its own operations do.
unfoldable pub start_of : Bool → List Record → TimeValue → Float
start_of local list (given.Time t) = shift_in local list t
start_of local list given.Nan = nan

-- what a setter makes of a time value
abbrev pub value_of : Part → Bool → List Record → TimeValue → List ℕ → Float
value_of first local list v fields = value_from (set first) local list (start_of local list v) fields

-- row 1, "in every call that takes one": a UTC call takes no list
abbrev pub zone_row : Bool → List ℕ → Result ℕ Refusal → Result ℕ Refusal
zone_row local zone rest = refuse (local && not (accepts zone)) fault.ZoneList rest

-- row 2; else what is made of the time value
abbrev pub taken : Option TimeValue → (TimeValue → Result ℕ Refusal) → Result ℕ Refusal
taken (Some v) rest = rest v
taken None rest = Err fault.TimeValue

abbrev pub time_row : ℕ → (TimeValue → Result ℕ Refusal) → Result ℕ Refusal
time_row time rest = taken (time_value_of time) rest

-- rows 3 and 4, of a call that has so many bits
abbrev pub record_rows : ℕ → List ℕ → Result ℕ Refusal → Result ℕ Refusal
record_rows bits fields rest =
    refuse (not (has_length fields)) fault.RecordLength (refuse (has_other_bit bits fields) fault.RecordMap rest)

-- "A field result out of range is NaN with 0."
abbrev pub time_reply : Float → Result ℕ Refusal
time_reply x = Ok (to_bits binary64 x)

unfoldable pub build_outcome : Bool → List ℕ → List ℕ → Result ℕ Refusal
build_outcome local zone fields = zone_row local zone (record_rows (bits_of build) fields (time_reply (value_from build local (records zone) nan fields)))

unfoldable pub set_outcome : Part → Bool → List ℕ → ℕ → List ℕ → Result ℕ Refusal
set_outcome first local zone time fields =
    zone_row local zone (time_row time (λ v. record_rows (bits_of (set first)) fields (time_reply (value_of first local (records zone) v fields))))
