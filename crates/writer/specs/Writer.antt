-- The outcome of each writer, for any bits of a time value, any bytes of a zone list and any output: document 01's table "Where a call is
-- turned back", row by row. The texts are ECMA-262's of the whole number (crates/ecma262/specs/Texts.antt). Definitions only. Assumes nothing.
use Rattle.std.specs.Prelude.{cond, List, ℕ, ℤ, Option, Some, None}
use Rattle.std.specs.Float.{binary64}
use Rattle.std.specs.Float.Ieee.{to_bits}
use Rattle.ecma262.specs.Texts.{iso_text, utc_text, local_text, invalid_date}
use Rattle.float.specs.Whole.{trunc_z}
use Rattle.zone.specs.Zone.{Record, records, accepts}
use Rattle.local.specs.Local.{local_time, offset_of_suffix}
use Rattle.timevalue.specs.declared.TimeValue.{TimeValue as Given}
use Rattle.timevalue.specs.declared.TimeValue.TheVariants.{Time, Nan}
use Rattle.timevalue.specs.TimeValue.{time_value_of}
use Rattle.answer.specs.Answer.{nan_value}
use Rattle.answer.specs.declared.Refusal.TheVariants.{ZoneList, TimeValue, NoTime}
use Rattle.writer.specs.Outcome.{Outcome, refused, written}

-- ISO: rows 2, 10 ("`to_iso_string` refuses a non-finite date") and 11. A success returns "the time it was given (-0 as 0)".
abbrev pub iso_case : Option Given → List ℕ → Outcome
iso_case None out = refused TimeValue out
iso_case (Some Nan) out = refused NoTime out
iso_case (Some (Time t)) out = written (to_bits binary64 t) (iso_text (trunc_z t)) out

unfoldable pub iso_outcome : ℕ → List ℕ → Outcome
iso_outcome time out = iso_case (time_value_of time) out

-- UTC: rows 2 and 11; "the UTC and local writers answer `Invalid Date` for NaN"
abbrev pub utc_case : Option Given → List ℕ → Outcome
utc_case None out = refused TimeValue out
utc_case (Some Nan) out = written nan_value invalid_date out
utc_case (Some (Time t)) out = written (to_bits binary64 t) (utc_text (trunc_z t)) out

unfoldable pub utc_outcome : ℕ → List ℕ → Outcome
utc_outcome time out = utc_case (time_value_of time) out

-- ToDateString(tv) under a zone list: "Let t be LocalTime(tv)", then DateString(t), TimeString(t) and the suffix. `to_date_string_t` looks the
-- suffix up at the local time t (`offset_of_suffix`), where the standard looks it up at tv.
abbrev pub to_date_string : List Record → ℤ → List ℕ
to_date_string list tv = local_text (local_time list tv) (offset_of_suffix list (local_time list tv))

-- local: rows 1, 2 and 11, and `Invalid Date`
abbrev pub local_case : List Record → Option Given → List ℕ → Outcome
local_case list None out = refused TimeValue out
local_case list (Some Nan) out = written nan_value invalid_date out
local_case list (Some (Time t)) out = written (to_bits binary64 t) (to_date_string list (trunc_z t)) out

unfoldable pub local_outcome : List ℕ → ℕ → List ℕ → Outcome
local_outcome zone time out = cond (accepts zone) (local_case (records zone) (time_value_of time) out) (refused ZoneList out)
