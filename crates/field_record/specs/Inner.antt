-- What the crate's functions give, for their contracts; no outcome cites it. Definitions only. Assumes nothing.
use Rattle.std.specs.Prelude.{cond, List, drop, ℕ, zero, suc, ◌*◌, ◌/◌, ◌%◌, eqb, Float, Option, None, Some}
use Rattle.std.specs.Float.{binary64}
use Rattle.std.specs.Float.Ieee.{of_bits}
use Rattle.little_endian.specs.Bytes.{little_endian}
use Rattle.field_record.specs.FieldRecord.{stands, field_at}

-- the field of bit i, where it stands
unfoldable pub given : List ℕ → ℕ → Option Float
given bytes i = cond (stands bytes i) (Some (field_at bytes i)) None

-- The same of a map and the fields of its ones, lowest bit first: where the lowest bit stands, the first field is its, and the other bits' come after.
unfoldable pub argument_of : ℕ → List ℕ → ℕ → Option Float
argument_of map fields zero = cond (eqb (map % 2) 1) (Some (of_bits binary64 (little_endian 8 fields 0))) None
argument_of map fields (suc i) = argument_of (map / 2) (drop (8 * (map % 2)) fields) i

-- all but the first
abbrev pub after : (ℕ → Option Float) → ℕ → Option Float
after arguments i = arguments (suc i)
