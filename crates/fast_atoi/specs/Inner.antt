-- What `fast_atoi` computes of any block: masks, products modulo 2^32 or 2^64, and shifts, as in the Rust. Definitions only. Assumes
-- nothing.
use Rattle.std.specs.Prelude.{ℕ, ◌+◌, ◌-◌, ◌*◌, ◌/◌, ◌%◌, ◌^◌, List, [], ◌∷◌, bit_and}

-- bytes as one number, the first of them lowest: Rust's `from_le_bytes`
abbrev pub from_le_bytes : List ℕ → ℕ
from_le_bytes [] = 0
from_le_bytes (b ∷ s) = b + 256 * from_le_bytes s

-- a block of `len` bytes, moved up to the top of `width` bits; a difference below 0 is 0, as by `saturating_sub`
abbrev pub moved : ℕ → ℕ → ℕ → ℕ
moved width len val = val * 2 ^ (width - 8 * len) % 2 ^ width

-- four digits: neighbours joined to pairs, and then the pairs
unfoldable pub pairs4 : ℕ → ℕ
pairs4 x = bit_and x 0x0F0F_0F0F * 0xA01 % 2 ^ 32 / 2 ^ 8

unfoldable pub join4 : ℕ → ℕ
join4 x = bit_and (pairs4 x) 0x00FF_00FF * 0x64_0001 % 2 ^ 32 / 2 ^ 16

-- eight digits: pairs, fours, and then the two fours
unfoldable pub pairs8 : ℕ → ℕ
pairs8 x = bit_and x 0x0F0F_0F0F_0F0F_0F0F * 0xA01 % 2 ^ 64 / 2 ^ 8

unfoldable pub fours8 : ℕ → ℕ
fours8 x = bit_and (pairs8 x) 0x00FF_00FF_00FF_00FF * 0x64_0001 % 2 ^ 64 / 2 ^ 16

unfoldable pub join8 : ℕ → ℕ
join8 x = bit_and (fours8 x) 0x0000_FFFF_0000_FFFF * 0x2710_0000_0001 % 2 ^ 64 / 2 ^ 32
