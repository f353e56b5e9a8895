-- The saturating casts. `x as i64` beyond the range is the nearer end of it, and every narrower cast is `x as i64` kept within its range. Assumes nothing.
use Rattle.std.proofs.Common.{◌≡◌, ℕ, zero, suc, ◌-◌, ◌*◌, ◌/◌, ◌^◌, ◌≤◌, min, true, false, ℤ, pos, negsuc, neg_ℤ, sym, refl, ap, ◌∙◌, arith, to_z-of_z, w64, to_z, of_z}
use lib.Ieee.{Float, nan, inf, fin, up, down, to_unsigned, to_signed}
use lib.Ieee.Casts.{to_signed_in}
use Rattle.integers.proofs.Int.{plus, neg-fact}

narrow : (a b c : ℕ) → c ≤ b → min a (c - 1) ≡ min (min a (b - 1)) (c - 1)
narrow a b c h = omega arith

-- ---- a narrower cast from `x as i64`
-- z, or the nearer end of the range from -H to H - 1
abbrev pub clamp : ℕ → ℤ → ℤ
clamp H (pos n) = pos (min n (H - 1))
clamp H (negsuc n) = neg_ℤ (pos (min (suc n) H))

clamp-neg : (H n : ℕ) → clamp H (neg_ℤ (pos n)) ≡ neg_ℤ (pos (min n H))
clamp-neg H zero = ap pos (least H) ∙ sym (ap (λ (k : ℕ). neg_ℤ (pos k)) (least' H))
  where
    least : (H : ℕ) → min 0 (H - 1) ≡ 0
    least H = omega arith

    least' : (H : ℕ) → min 0 H ≡ 0
    least' H = omega arith
clamp-neg H (suc n) = refl

pub to_signed-narrow : (h : ℕ) (x : Float) → 2 ^ h ≤ 2 ^ 63 → to_signed h x ≡ clamp (2 ^ h) (to_signed 63 x)
unfolding to_signed
to_signed-narrow h nan l = ap pos (go (2 ^ h))
  where
    go : (H : ℕ) → 0 ≡ min 0 (H - 1)
    go H = omega arith
to_signed-narrow h (inf true) l = sym (clamp-neg (2 ^ h) 9223372036854775808 ∙ ap (λ (k : ℕ). neg_ℤ (pos k)) (go (2 ^ h) l))
  where
    go : (H : ℕ) → H ≤ 9223372036854775808 → min 9223372036854775808 H ≡ H
    go H l = omega arith
to_signed-narrow h (inf false) l = ap pos (go (2 ^ h) l)
  where
    go : (H : ℕ) → H ≤ 9223372036854775808 → H - 1 ≡ min 9223372036854775807 (H - 1)
    go H l = omega arith
to_signed-narrow h (fin true m e) l = sym (clamp-neg (2 ^ h) (min (m * up e / down e) 9223372036854775808) ∙ ap (λ (k : ℕ). neg_ℤ (pos k)) (go (m * up e / down e) (2 ^ h) l))
  where
    go : (a H : ℕ) → H ≤ 9223372036854775808 → min (min a 9223372036854775808) H ≡ min a H
    go a H l = omega arith
to_signed-narrow h (fin false m e) l = ap pos (narrow (m * up e / down e) 9223372036854775808 (2 ^ h) l)

pub to_unsigned-narrow : (k : ℕ) (x : Float) → 2 ^ k ≤ 2 ^ 63 → to_unsigned k x ≡ min (plus (to_signed 63 x)) (2 ^ k - 1)
unfolding to_unsigned to_signed
to_unsigned-narrow k nan l = go (2 ^ k)
  where
    go : (H : ℕ) → 0 ≡ min 0 (H - 1)
    go H = omega arith
to_unsigned-narrow k (inf true) l = go (2 ^ k)
  where
    go : (H : ℕ) → 0 ≡ min 0 (H - 1)
    go H = omega arith
to_unsigned-narrow k (inf false) l = go (2 ^ k) l
  where
    go : (H : ℕ) → H ≤ 9223372036854775808 → H - 1 ≡ min 9223372036854775807 (H - 1)
    go H l = omega arith
to_unsigned-narrow k (fin true m e) l = go (2 ^ k) (neg-fact (pos (min (m * up e / down e) 9223372036854775808))).0
  where
    go : {a : ℕ} (H : ℕ) → a ≡ 0 → 0 ≡ min a (H - 1)
    go H e = omega arith
to_unsigned-narrow k (fin false m e) l = narrow (m * up e / down e) 9223372036854775808 (2 ^ k) l

-- ---- a result of `as_i64` read back
pub read_back : (x : Float) (r : ℤ) → r ≡ to_signed 63 x → to_z w64 (of_z w64 r) ≡ to_signed 63 x
read_back x r e = ap (λ (z : ℤ). to_z w64 (of_z w64 z)) e ∙ to_z-of_z {w = w64} (record { sfits = to_signed_in 63 x })
