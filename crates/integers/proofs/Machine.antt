-- The machine's signed integers, for proofs by `omega`: a result fits, and what is read back from its bits is the number. Assumes nothing.
use mathlib.Core.Path.{◌≡◌, sym, ap, ◌∙◌, subst}
use mathlib.Core.Bool.{Bool, true, false, not}
use Prim.Native.Nat.{ℕ, suc, ◌+◌, ◌≤◌}
use native.Mathlib.Omega.{arith}
use lib.Dec.{T, leb}
use lib.IntN.{ℤ, pos, negsuc, nat_abs}
use lib.Signed.{mag, le_z, lt_z, ◌≤ℤ◌, ◌<ℤ◌, le_z_yes, lt_z_yes, lt_z_no}
use mir.Syntax.{Width, w32, w64}
use mir.Val.{SFits, to_z, of_z}
use mir.Facts.{to_z-of_z}
use Rattle.integers.proofs.Int.{plus, minus}

mag-below : (z : ℤ) (k : ℕ) → (plus z ≤ minus z + k) × (minus z ≤ plus z + suc k) → mag z ≤ k
mag-below (pos n) k h = omega arith
mag-below (negsuc n) k h = omega arith

pub fits64 : (z : ℤ) → (plus z ≤ minus z + 9223372036854775807) × (minus z ≤ plus z + 9223372036854775808) → SFits w64 z
fits64 z h = record { sfits = omega (arith, mag-below z 9223372036854775807 h) }

pub fits32 : (z : ℤ) → (plus z ≤ minus z + 2147483647) × (minus z ≤ plus z + 2147483648) → SFits w32 z
fits32 z h = record { sfits = omega (arith, mag-below z 2147483647 h) }

-- a test, as a branch leaves it
pub true-T : (b : Bool) → b ≡ true → T b
true-T b e = subst T (sym e) tt

pub false-T : (b : Bool) → b ≡ false → T (not b)
false-T b e = subst (λ x. T (not x)) (sym e) tt

nle : (a b : ℤ) → T (not (le_z a b)) → T (lt_z b a)
nle (pos a) (pos b) t = nleb→lt' a b t
  where
    nleb→lt' : (a b : ℕ) → T (not (lib.Dec.leb a b)) → T (lib.Dec.ltb b a)
    nleb→lt' a b t = lib.Dec.lt→ltb b a (lib.Dec.nleb→lt a b t)
nle (pos a) (negsuc b) t = tt
nle (negsuc a) (pos b) t = absurd t
nle (negsuc a) (negsuc b) t = lib.Dec.lt→ltb a b (lib.Dec.nleb→lt b a t)

pub le-true : {a b : ℤ} → le_z a b ≡ true → a ≤ℤ b
le-true {a} {b} e = le_z_yes (true-T (le_z a b) e)

pub le-false : {a b : ℤ} → le_z a b ≡ false → b <ℤ a
le-false {a} {b} e = lt_z_yes (nle a b (false-T (le_z a b) e))

pub lt-true : {a b : ℤ} → lt_z a b ≡ true → a <ℤ b
lt-true {a} {b} e = lt_z_yes (true-T (lt_z a b) e)

pub lt-false : {a b : ℤ} → lt_z a b ≡ false → b ≤ℤ a
lt-false {a} {b} e = lt_z_no (false-T (lt_z a b) e)

-- ---- a signed number that fits is read back from its bits
pub kept : {w : Width} {z : ℤ} → SFits w z → to_z w (of_z w z) ≡ z
kept f = to_z-of_z f

-- ---- a signed number by its sign and its magnitude

-- what a test says of a number's bits, it says of the number
pub below-zero : {w : Width} {x : ℤ} → SFits w x → lt_z (to_z w (of_z w x)) (pos 0) ≡ true → x <ℤ pos 0
below-zero f e = subst (λ z. z <ℤ pos 0) (kept f) (lt-true e)

pub from_zero : {w : Width} {x : ℤ} → SFits w x → lt_z (to_z w (of_z w x)) (pos 0) ≡ false → pos 0 ≤ℤ x
from_zero f e = subst (λ z. pos 0 ≤ℤ z) (kept f) (lt-false e)

-- a magnitude that was asked of the bits
pub abs-of : {w : Width} {x : ℤ} {r : ℕ} → SFits w x → r ≡ nat_abs (to_z w (of_z w x)) → r ≡ nat_abs x
abs-of f e = e ∙ ap nat_abs (kept f)
