-- Local time under a zone list: the original's `local_timezone_offset_seconds`, `local_time` and `utc_t` in whole numbers and on f64. That
-- on whole times the two agree is a law (proofs/Whole.antt). The list is decoded: its records, crates/zone. Definitions only. Assumes
-- nothing.
use Rattle.std.specs.Prelude.{cond, List, ℤ, pos, ◌+ℤ◌, ◌-ℤ◌, ◌*ℤ◌, Float}
use Rattle.std.specs.Float.{nan, binary64}
use Rattle.std.specs.Float.Ieee.{add, sub, mul, div, of_int, to_signed}
use Rattle.std.specs.Float.Ieee.Scale.{finite}
use Rattle.integers.specs.Whole.{floor_div}
use Rattle.ecma262.specs.Date.{ms_per_second}
use Rattle.float.specs.Rounding.{rem_euclid_f}
use Rattle.calendar.specs.Calendar.{num}
use Rattle.zone.specs.Zone.{Record, offset_at}

-- ---- whole numbers: times in milliseconds, seconds and offsets in seconds

-- the second that a local call asks the list for, of the time that it has in hand: the last that is not after it
unfoldable pub asked_second : ℤ → ℤ
asked_second t = floor_div t ms_per_second

-- the offset at an instant
unfoldable pub offset_of_instant : List Record → ℤ → ℤ
offset_of_instant list t = offset_at list (asked_second t)

-- The offset of a local time, for the reader, the builder and the setters: "that offset is the one the list gives at the local time read as
-- an instant, as in `utc_t`". The standard searches for instants.
unfoldable pub offset_of_local : List Record → ℤ → ℤ
offset_of_local list t = offset_of_instant list t

-- The offset that a local writer's suffix shows: "`to_date_string_t` looks up the suffix at the local time, the standard at the instant."
unfoldable pub offset_of_suffix : List Record → ℤ → ℤ
offset_of_suffix list t = offset_of_instant list t

-- an instant's local time
unfoldable pub local_time : List Record → ℤ → ℤ
local_time list t = t +ℤ offset_of_instant list t *ℤ pos ms_per_second

-- the instant of a local time
unfoldable pub utc_time : List Record → ℤ → ℤ
utc_time list t = t -ℤ offset_of_local list t *ℤ pos ms_per_second

-- ---- f64: the original's operations in its order, each rounded once, for every value

-- let millis = t.rem_euclid(MS_PER_SECOND); ((t - millis) / MS_PER_SECOND) as i64
unfoldable pub asked_second_f : Float → ℤ
asked_second_f t = to_signed 63 (div binary64 (sub binary64 t (rem_euclid_f t (num 1_000))) (num 1_000))

-- the hook, a zone list here, at that second
unfoldable pub offset_seconds_f : List Record → Float → ℤ
offset_seconds_f list t = offset_at list (asked_second_f t)

-- f64::from(local_timezone_offset_seconds(t, hooks)) * MS_PER_SECOND
abbrev pub shift_f : List Record → Float → Float
shift_f list t = mul binary64 (of_int binary64 (offset_seconds_f list t)) (num 1_000)

-- t + the shift
unfoldable pub local_time_f : List Record → Float → Float
local_time_f list t = add binary64 t (shift_f list t)

-- NaN where t is not finite; else t - the shift
unfoldable pub utc_f : List Record → Float → Float
utc_f list t = cond (finite t) (sub binary64 t (shift_f list t)) nan
