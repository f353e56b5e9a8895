-- The bytes of a slice of records: "there a record is 12 bytes, second then offset, low byte first". Definitions only; that they hold the
-- slice's records again is a law (proofs/Encoding.antt). Assumes nothing.
use Rattle.std.specs.Prelude.{List, [], ◌∷◌, ℕ, zero, suc, ◌-◌, ◌/◌, ◌%◌, ◌^◌, ◌<◌, ℤ, pos, negsuc}
use Rattle.std.specs.Int.Signed.{mag}
use Rattle.zone_records.specs.declared.ZoneRecord.{ZoneRecord}

-- the n low bytes of x, low byte first, and after them the rest
abbrev pub bytes_then : ℕ → ℕ → List ℕ → List ℕ
bytes_then zero x rest = rest
bytes_then (suc n) x rest = bytes_then n x (x / 256 ^ n % 256 ∷ rest)

-- a whole number in two's complement
abbrev pub unsigned : ℕ → ℤ → ℕ
unsigned bits (pos n) = n
unsigned bits (negsuc n) = 2 ^ bits - suc n

unfoldable pub encoded : List ZoneRecord → List ℕ
encoded [] = []
encoded (z ∷ zs) = bytes_then 8 (unsigned 64 z.second) (bytes_then 4 (unsigned 32 z.offset) (encoded zs))

-- what every slice of records keeps: a second has 64 bits and an offset 32
abbrev pub Representable : List ZoneRecord → Type 0
Representable [] = Unit {0}
Representable (z ∷ zs) = (mag z.second < 2 ^ 63) × ((mag z.offset < 2 ^ 31) × Representable zs)
