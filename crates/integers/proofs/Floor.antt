-- floor_div and floor_mod are what their names say, for every divisor d + 1. Assumes nothing.
use mathlib.Core.Path.{◌≡◌, sym, ap, ◌∙◌}
use Prim.Native.Nat.{ℕ, suc, ◌*◌, ◌<◌}
use native.Mathlib.Nat.{mul-le-mul_left, mod-lt}
use native.Mathlib.Omega.{arith}
use lib.IntN.{ℤ, pos, negsuc, ◌+ℤ◌, ◌*ℤ◌}
use lib.Signed.{lt_z, ◌≤ℤ◌, ◌<ℤ◌, lt_z_yes, lt_z_no}
use Rattle.integers.specs.Whole.{floor_div, floor_mod}
use Rattle.integers.proofs.Int.{plus, minus, ints, lt_in, div-mod-fact, by-test, at, ◌+ᵗ◌, ◌*ᵗ◌, read}

-- z = d * floor(z / d) + (z modulo d), and the remainder is below d
pub division : (z : ℤ) (k : ℕ) → (z ≡ pos (suc k) *ℤ floor_div z (suc k) +ℤ pos (floor_mod z (suc k))) × (floor_mod z (suc k) < suc k)
division z k = (omega (ints, div-mod-fact z k, read (suc k *ᵗ at (floor_div z (suc k)) +ᵗ at (pos (floor_mod z (suc k))))), (div-mod-fact z k).1)

-- two such quotients of one number: neither is less
not-less : (k : ℕ) (q q' : ℤ) (r r' : ℕ) → pos (suc k) *ℤ q +ℤ pos r ≡ pos (suc k) *ℤ q' +ℤ pos r' → r < suc k → r' < suc k → q <ℤ q' → ⊥
not-less k q q' r r' e h h' l =
    omega (ints, mul-le-mul_left (suc k) (lt_in q q' l), read (suc k *ᵗ at q +ᵗ at (pos r)), read (suc k *ᵗ at q' +ᵗ at (pos r')))

-- and nothing else is the quotient and the remainder
pub floor-unique : (z q : ℤ) (k r : ℕ) → z ≡ pos (suc k) *ℤ q +ℤ pos r → r < suc k → (floor_div z (suc k) ≡ q) × (floor_mod z (suc k) ≡ r)
floor-unique z q k r e h = (same, omega (ints, ap (λ x. plus x) same, ap (λ x. minus x) same, div-mod-fact z k, read (suc k *ᵗ at q +ᵗ at (pos r)), ap (λ x. suc k * plus x) same, ap (λ x. suc k * minus x) same))
  where
    both : pos (suc k) *ℤ floor_div z (suc k) +ℤ pos (floor_mod z (suc k)) ≡ pos (suc k) *ℤ q +ℤ pos r
    both = sym (division z k).0 ∙ e

    same : floor_div z (suc k) ≡ q
    same =
        by-test (lt_z (floor_div z (suc k)) q)
        (λ c. absurd (not-less k (floor_div z (suc k)) q (floor_mod z (suc k)) r both (division z k).1 h (lt_z_yes c)))
        (λ c. by-test (lt_z q (floor_div z (suc k)))
        (λ c'. absurd (not-less k q (floor_div z (suc k)) r (floor_mod z (suc k)) (sym both) h (division z k).1 (lt_z_yes c')))
        (λ c'. let a : q ≤ℤ floor_div z (suc k) = lt_z_no c in let b : floor_div z (suc k) ≤ℤ q = lt_z_no c' in omega ints))

-- how large a remainder is, for every divisor that is not 0
pub floor_mod-lt : (z : ℤ) (d : ℕ) → 0 < d → floor_mod z d < d
floor_mod-lt (pos a) d D = mod-lt a D
floor_mod-lt (negsuc a) d D = omega arith
