-- What the exports' records say is the plain equation. Assumes nothing.
use mathlib.Core.Path.{◌≡◌, ap, subst, ◌∙◌}
use mathlib.Core.List.{List}
use Prim.Native.Nat.{ℕ}
use lib.Ieee.{Float, binary64, of_bits, to_bits}
use lib.IntN.{ℤ}
use lib.Seq.{sets}
use Rattle.little_endian.specs.Bytes.{little_endian}
use Rattle.exports.specs.Inner.{Given, Handed, Whole, Packed, word, eight_zeros}

pub given : {n : ℕ} {P : Float → Type 0} → Given n P → P (of_bits binary64 n)
given {P = P} g = subst P g.taken g.holds

pub handed : {v : Float} {r : ℕ} → Handed v r → r ≡ to_bits binary64 v
handed h = h.bits ∙ ap (to_bits binary64) h.is

pub whole : {z : ℤ} {r : ℕ} → Whole z r → r ≡ word z
whole h = h.bits ∙ ap word h.is
