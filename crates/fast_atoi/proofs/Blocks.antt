-- Bytes as one number, the first lowest: one byte more at the end, zero bytes before, and the block of a number's digits moved up. Assumes
-- nothing.
use Rattle.std.proofs.Common.{◌≡◌, ℕ, zero, suc, ◌+◌, ◌-◌, ◌*◌, ◌/◌, ◌%◌, ◌^◌, ◌<◌, ◌≤◌, List, [], ◌∷◌, ◌++◌, length, replicate, sym, ap, ◌∙◌, subst, mod-eq_of_lt, mul_assoc, mul_comm, mul-le-mul_left, mul-lt-mul_of_pos_right, pow-suc, arith}
use native.Mathlib.Nat.{pow-le-pow_right}
use Rattle.ecma262.specs.Digits.{digit, digits}
use Rattle.ecma262.proofs.Digits.{length_digits}
use Rattle.fast_atoi.specs.Inner.{from_le_bytes, moved}

-- one byte more, above the others
pub from-snoc : (s : List ℕ) (b : ℕ) → from_le_bytes (s ++ b ∷ []) ≡ from_le_bytes s + b * 256 ^ length s
from-snoc [] b = omega arith
from-snoc (x ∷ s) b =
    let h : b * 256 ^ suc (length s) ≡ 256 * (b * 256 ^ length s) = rw pow-suc (sym (mul_assoc b (256 ^ length s) 256) ∙ mul_comm _ 256) in
    omega (arith, from-snoc s b, h)

-- the digits of a number, one by one
pub from-digits : (w v : ℕ) → from_le_bytes (digits (suc w) v) ≡ from_le_bytes (digits w (v / 10)) + digit (v % 10) * 256 ^ w
from-digits w v = from-snoc (digits w (v / 10)) (digit (v % 10)) ∙ ap (λ n. from_le_bytes (digits w (v / 10)) + digit (v % 10) * 256 ^ n) (length_digits w (v / 10))

pub from-small : (w v : ℕ) → from_le_bytes (digits w v) < 256 ^ w
from-small zero v = omega arith
from-small (suc w) v =
    let top : digit (v % 10) * 256 ^ w ≤ 255 * 256 ^ w = subst (λ n. digit (v % 10) * 256 ^ w ≤ n) (mul_comm (256 ^ w) 255)
    (subst (λ n. n ≤ 256 ^ w * 255) (mul_comm (256 ^ w) (digit (v % 10))) (mul-le-mul_left (256 ^ w) (omega arith))) in
    rw (from-digits w v, pow-suc) (omega (arith, from-small w (v / 10), top))

-- zero bytes before
pub from-zeros : (k : ℕ) (s : List ℕ) → from_le_bytes (replicate k 0 ++ s) ≡ from_le_bytes s * 256 ^ k
from-zeros zero s = omega arith
from-zeros (suc k) s =
    let h : from_le_bytes s * 256 ^ suc k ≡ 256 * (from_le_bytes s * 256 ^ k) = rw pow-suc (sym (mul_assoc (from_le_bytes s) (256 ^ k) 256) ∙ mul_comm _ 256) in
    omega (arith, from-zeros k s, h)

-- moved up: zero bytes below
pub moved-digits : (width w k v : ℕ) → 2 ^ (width - 8 * w) ≡ 256 ^ k → 256 ^ w * 256 ^ k ≡ 2 ^ width
    → moved width w (from_le_bytes (digits w v)) ≡ from_le_bytes (replicate k 0 ++ digits w v)
moved-digits width w k v up top =
    let pos : 0 < 256 ^ k = pow-le-pow_right {n = 256} (omega arith) {i = 0} {j = k} (omega arith) in
    let small : from_le_bytes (digits w v) * 256 ^ k < 2 ^ width = subst (λ n. from_le_bytes (digits w v) * 256 ^ k < n) top (mul-lt-mul_of_pos_right (from-small w v) pos) in
    rw (up, mod-eq_of_lt small) (sym (from-zeros k (digits w v)))
