-- "A second beyond 64 bits takes the nearest end": the cast to 64 bits saturates, and the list gives there what it gives at the second itself. So for any
-- time the offset is the one at the whole part of the quotient, whatever its size; NaN and the infinities ask for second 0. Assumes nothing.
use mathlib.Core.Path.{◌≡◌, refl, ap, ◌∙◌}
use mathlib.Core.Bool.{Bool, true, false, cond}
use mathlib.Core.List.{List}
use Prim.Native.Nat.{ℕ, zero, suc, ◌-◌, ◌*◌, ◌/◌, ◌^◌, ◌≤◌, ◌<◌, min}
use native.Mathlib.Omega.{arith}
use lib.Dec.{T, ltb, ltb→lt, nltb→le}
use lib.IntN.{pos, negsuc, neg_ℤ}
use lib.Ieee.{Float, nan, inf, fin, binary64, up, down, sub, div, to_signed}
use lib.Ieee.Scale.{finite}
use Rattle.integers.proofs.Int.{by_cond}
use Rattle.float.specs.Whole.{signed, trunc_z}
use Rattle.float.specs.Rounding.{rem_euclid_f}
use Rattle.calendar.specs.Calendar.{num}
use Rattle.zone.specs.Zone.{records, Accepted, offset_at, least64, greatest64, nearest64}
use Rattle.zone.proofs.Offset.{offset-nearest}
use Rattle.local.specs.Local.{asked_second_f, offset_seconds_f}

-- ---- the cast is the nearest end
above : (n : ℕ) → pos (min n (2 ^ 63 - 1)) ≡ nearest64 (pos n)
above n = by_cond (λ z. pos (min n (2 ^ 63 - 1)) ≡ z) (ltb 9223372036854775807 n) greatest64 (pos n)
    (λ t. ap pos (past (ltb→lt 9223372036854775807 n t)))
    (λ t. ap pos (inside (nltb→le 9223372036854775807 n t)))
  where
    past : 9223372036854775807 < n → min n 9223372036854775807 ≡ 9223372036854775807
    past h = omega arith

    inside : n ≤ 9223372036854775807 → min n 9223372036854775807 ≡ n
    inside h = omega arith

below : (n : ℕ) → neg_ℤ (pos (min (suc n) (2 ^ 63))) ≡ nearest64 (negsuc n)
below n = by_cond (λ z. neg_ℤ (pos (min (suc n) (2 ^ 63))) ≡ z) (ltb 9223372036854775807 n) least64 (negsuc n)
    (λ t. ap (λ (i : ℕ). neg_ℤ (pos i)) (past (ltb→lt 9223372036854775807 n t)))
    (λ t. ap (λ (i : ℕ). neg_ℤ (pos i)) (inside (nltb→le 9223372036854775807 n t)))
  where
    past : 9223372036854775807 < n → min (suc n) 9223372036854775808 ≡ 9223372036854775808
    past h = omega arith

    inside : n ≤ 9223372036854775807 → min (suc n) 9223372036854775808 ≡ suc n
    inside h = omega arith

pub cast-nearest : (x : Float) → T (finite x) → to_signed 63 x ≡ nearest64 (trunc_z x)
unfolding to_signed trunc_z
cast-nearest nan F = absurd F
cast-nearest (inf s) F = absurd F
cast-nearest (fin s m e) F = go s (m * up e / down e)
  where
    go : (s : Bool) (n : ℕ) → cond s (neg_ℤ (pos (min n (2 ^ 63)))) (pos (min n (2 ^ 63 - 1))) ≡ nearest64 (signed s n)
    go false n = above n
    go true zero = refl
    go true (suc n) = below n

-- ---- so no bound of 64 bits is felt
abbrev quotient : Float → Float
quotient t = div binary64 (sub binary64 t (rem_euclid_f t (num 1000))) (num 1000)

pub offset-any : (bytes : List ℕ) → Accepted bytes → (t : Float) → T (finite (div binary64 (sub binary64 t (rem_euclid_f t (num 1_000))) (num 1_000)))
    → offset_seconds_f (records bytes) t ≡ offset_at (records bytes) (trunc_z (div binary64 (sub binary64 t (rem_euclid_f t (num 1_000))) (num 1_000)))
unfolding offset_seconds_f asked_second_f
offset-any bytes a t F = ap (offset_at (records bytes)) (cast-nearest (quotient t) F) ∙ offset-nearest bytes a (trunc_z (quotient t))
