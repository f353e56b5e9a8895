-- The field record of document 01, "Corners of date/mod.rs": "one byte of bit map, then 8 bytes (an f64's bits, low byte first) for each bit
-- that stands, lowest bit first". Definitions only. Assumes nothing.
use Rattle.std.specs.Prelude.{Bool, cond, List, ℕ, ◌+◌, ◌*◌, ◌/◌, ◌%◌, ◌^◌, eqb, leb, length, get_or, Float}
use Rattle.std.specs.Int.Count.{ones}
use Rattle.std.specs.Float.{binary64}
use Rattle.std.specs.Float.Ieee.{of_bits}
use Rattle.little_endian.specs.Bytes.{little_endian}

-- the byte of bit map
abbrev pub map_of : List ℕ → ℕ
map_of bytes = get_or bytes 0 0

-- whether bit i stands
abbrev pub stands : List ℕ → ℕ → Bool
stands bytes i = eqb (map_of bytes / 2 ^ i % 2) 1

-- "The number of ones fixes the length": refusal 3 where it does not hold. An empty record, of length 0, never has it.
unfoldable pub has_length : List ℕ → Bool
has_length bytes = eqb (length bytes) (1 + 8 * ones (map_of bytes))

-- Whether a bit stands that a call of n bits hasn't got: refusal 4.
unfoldable pub has_other_bit : ℕ → List ℕ → Bool
has_other_bit n bytes = leb (2 ^ n) (map_of bytes)

-- the place of bit i's field: after the map and the fields of the lower bits that stand
unfoldable pub place_of : List ℕ → ℕ → ℕ
place_of bytes i = 1 + 8 * ones (map_of bytes % 2 ^ i)

-- the field of bit i, where it stands
unfoldable pub field_at : List ℕ → ℕ → Float
field_at bytes i = of_bits binary64 (little_endian 8 bytes (place_of bytes i))

-- what bit i's field is, with a value for an absent one
unfoldable pub field_or : List ℕ → ℕ → Float → Float
field_or bytes i absent = cond (stands bytes i) (field_at bytes i) absent
