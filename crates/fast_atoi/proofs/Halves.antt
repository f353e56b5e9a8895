-- A product modulo K * K from the halves of its factors, at any K: the sums are wrapped, and the upper half of the cross
-- products falls away.
-- Assumes nothing.
use Rattle.std.proofs.Common.{◌≡◌, ℕ, ◌+◌, ◌*◌, ◌/◌, ◌%◌, ◌<◌, sym, ap, lt_of_le_of_lt, le_of_lt, mul_assoc, add-mul, mul-le-mul_left, mul-lt-mul_of_pos_right, div-add-mod', mul-add, mul_right_comm, arith}
use native.Mathlib.Nat.{mul-mul-mul_comm, add-mul-mod_self_right, mod-mod_of_dvd, dvd-mul_right}

module _ (K a1 a0 b1 b0 : ℕ) where
  -- the cross products
  cross : ℕ
  cross = a1 * b0 + a0 * b1

  expand : (a1 * K + a0) * (b1 * K + b0) ≡ a0 * b0 + cross % K * K + (cross / K + a1 * b1) * (K * K)
  unfolding cross
  expand =
      let M = a1 * b0 + a0 * b1 in
      omega (
        arith,
        add-mul (a1 * K) a0 (b1 * K + b0),
        mul-add (a1 * K) (b1 * K) b0,
        mul-add a0 (b1 * K) b0,
        mul-mul-mul_comm a1 K b1 K,
        mul_right_comm a1 K b0,
        mul_assoc a0 b1 K,
        add-mul (a1 * b0) (a0 * b1) K,
        ap (λ (x : ℕ). x * K) (div-add-mod' M K),
        add-mul (M / K * K) (M % K) K,
        mul_assoc (M / K) K K,
        add-mul (M / K) (a1 * b1) (K * K),
      )

  pub halves : (a1 * K + a0) * (b1 * K + b0) % (K * K) ≡ (a0 * b0 + (a1 * b0 + a0 * b1) % (K * K) % K * K) % (K * K)
  unfolding cross
  halves = rw (expand, add-mul-mod_self_right (a0 * b0 + cross % K * K) (cross / K + a1 * b1) (K * K), mod-mod_of_dvd K cross (dvd-mul_right K K))

-- a product of two numbers below K is below K * K
pub below : (K : ℕ) {a b : ℕ} → a < K → b < K → a * b < K * K
below K {a} {b} ha hb = lt_of_le_of_lt (mul-le-mul_left a (le_of_lt hb)) (mul-lt-mul_of_pos_right ha (omega arith))

-- where K is 2^32, as in `wrapping_mul_u64`
pub halves_fit : (a b : ℕ) → a < 4294967296 → b < 4294967296 → a * b < 18446744073709551616
halves_fit a b ha hb = below 4294967296 ha hb

-- the product of two numbers from their halves, modulo M, which is K * K
pub product : (K M a b : ℕ) → M ≡ K * K
    → (a % K * (b % K) + (a / K * (b % K) + a % K * (b / K)) % M % K * K) % M ≡ a * b % M
product K M a b e =
    let h = halves K (a / K) (a % K) (b / K) (b % K) in
    rw e (sym (rw (div-add-mod' a K, div-add-mod' b K) at h))

-- the low 32 bits of the low 64 are those of the whole
pub lower : (n : ℕ) → n % 18446744073709551616 % 4294967296 ≡ n % 4294967296
lower n = omega arith
