-- What an export answers: every argument and every result is one word of 64 bits. Definitions only. Assumes nothing.
use Rattle.std.specs.Prelude.{◌≡◌, cond, List, [], ◌∷◌, ℕ, ℤ, Float}
use Rattle.std.specs.Float.{binary64}
use Rattle.std.specs.Float.Ieee.{of_bits, to_bits}
use Rattle.std.specs.Int.{w64}
use Rattle.std.proofs.Common.{of_z}
use Rattle.text.specs.Inner.{Puts}
use Rattle.little_endian.specs.Bytes.{little_endian}
use Rattle.zone.specs.Zone.{accepts}

-- P of the value whose pattern is n: it is P (of_bits binary64 n), by `given` in proofs/Words.antt
pub record Given (n : ℕ) (P : Float → Type 0) : Type 0 where
  pub value : Float
  pub taken : value ≡ of_bits binary64 n
  pub holds : P value

-- r is the pattern of v: r ≡ to_bits binary64 v, by `handed`
pub record Handed (v : Float) (r : ℕ) : Type 0 where
  pub value : Float
  pub is : value ≡ v
  pub bits : r ≡ to_bits binary64 value

-- a whole number in two's complement
abbrev pub word : ℤ → ℕ
word z = of_z w64 z

-- r is the word of z: r ≡ word z, by `whole`
pub record Whole (z : ℤ) (r : ℕ) : Type 0 where
  pub value : ℤ
  pub is : value ≡ z
  pub bits : r ≡ word value

abbrev pub eight_zeros : List ℕ
eight_zeros = 0 ∷ 0 ∷ 0 ∷ 0 ∷ 0 ∷ 0 ∷ 0 ∷ 0 ∷ []

-- r is the n bytes w, the first lowest: r ≡ little_endian 8 (sets eight_zeros 0 w) 0
pub record Packed (w : List ℕ) (n r : ℕ) : Type 0 where
  pub bytes : List ℕ
  pub put : Puts eight_zeros 0 w n bytes
  pub word-is : r ≡ little_endian 8 bytes 0

-- the answer under a list, and 0 where the list is not accepted
unfoldable pub under_list : List ℕ → ℕ → ℕ
under_list zone r = cond (accepts zone) r 0
