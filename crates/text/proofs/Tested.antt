-- An offset's sign and the length of an ISO and of a padded year, of the tests as the machine makes them. Assumes nothing.
use mathlib.Core.Path.{◌∙◌}
use Rattle.std.proofs.Common.{◌≡◌, [], ◌∷◌, ℕ, ◌<◌, ◌≤◌, true, false, ℤ, pos, negsuc, w32, to_z, of_z, sym, ap, length}
use lib.IntN.{nat_abs}
use lib.Signed.{lt_z, ◌≤ℤ◌}
use borrow.Author.Tests.{ltb-true, ltb-false}
use mir.Val.{SFits}
use Rattle.ecma262.specs.Texts.{offset_sign, iso_year, padded_year}
use Rattle.ecma262.proofs.Texts.{offset-below, offset-from, iso-below, iso-four, iso-above, padded-four, padded-five, padded-six}
use Rattle.integers.proofs.Int.{ints}
use Rattle.integers.proofs.Machine.{kept, below-zero, from_zero}

-- a number of 32 bits, as the machine holds it
abbrev pub held : ℤ → ℤ
held z = to_z w32 (of_z w32 z)

pub minus : (z : ℤ) → SFits w32 z → lt_z (held z) (pos 0) ≡ true → 45 ∷ [] ≡ offset_sign z
minus z f t = offset-below z (below-zero f t)

pub plus : (z : ℤ) → SFits w32 z → lt_z (held z) (pos 0) ≡ false → 43 ∷ [] ≡ offset_sign z
plus z f t = offset-from z (from_zero f t)

-- ---- a number from 0 up is below 10,000, or not
pub under-10000 : {z : ℤ} → SFits w32 z → pos 0 ≤ℤ z → lt_z (held z) (pos 10000) ≡ true → nat_abs z < 10000
under-10000 {z} f h e = go z h (ap (λ i. lt_z i (pos 10000)) (sym (kept f)) ∙ e)
  where
    go : (i : ℤ) → pos 0 ≤ℤ i → lt_z i (pos 10000) ≡ true → nat_abs i < 10000
    go (pos n) h e = ltb-true n 10000 e
    go (negsuc n) h e = absurd (omega ints)

pub from-10000 : {z : ℤ} → SFits w32 z → pos 0 ≤ℤ z → lt_z (held z) (pos 10000) ≡ false → 10000 ≤ nat_abs z
from-10000 {z} f h e = go z h (ap (λ i. lt_z i (pos 10000)) (sym (kept f)) ∙ e)
  where
    go : (i : ℤ) → pos 0 ≤ℤ i → lt_z i (pos 10000) ≡ false → 10000 ≤ nat_abs i
    go (pos n) h e = ltb-false n 10000 e
    go (negsuc n) h e = absurd (omega ints)

pub below_long : (z : ℤ) → SFits w32 z → lt_z (held z) (pos 0) ≡ true → length (iso_year z) ≡ 7
below_long z f t = ap length (sym (iso-below z (below-zero f t)))

pub four_long : (z : ℤ) → SFits w32 z → lt_z (held z) (pos 0) ≡ false → lt_z (held z) (pos 10000) ≡ true → length (iso_year z) ≡ 4
four_long z f t u = let s = from_zero f t in ap length (sym (iso-four z s (under-10000 f s u)))

pub above_long : (z : ℤ) → SFits w32 z → lt_z (held z) (pos 0) ≡ false → lt_z (held z) (pos 10000) ≡ false → length (iso_year z) ≡ 7
above_long z f t u = let s = from_zero f t in ap length (sym (iso-above z s (from-10000 f s u)))

-- ---- the year of the UTC and the local text
pub four_padded : (y : ℕ) → y < 10000 → length (padded_year y) ≡ 4
four_padded y h = ap length (sym (padded-four h))

pub five_padded : (y : ℕ) → 10000 ≤ y → y < 100000 → length (padded_year y) ≡ 5
five_padded y h k = ap length (sym (padded-five h k))

pub six_padded : (y : ℕ) → 100000 ≤ y → length (padded_year y) ≡ 6
six_padded y h = ap length (sym (padded-six h))
