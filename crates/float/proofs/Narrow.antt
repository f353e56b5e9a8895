-- What `as_i32`, `as_u16` and `as_u8` answer: `as_i64`'s number, as the machine holds it, kept within the range. Assumes nothing.
use Rattle.std.proofs.Common.{◌≡◌, ℕ, suc, ◌-◌, ◌^◌, ◌<◌, ◌≤◌, min, ℤ, pos, negsuc, nat_abs, sym, refl, ap, ◌∙◌, arith, lit≤, w64, to_z, of_z, to_z-of_z}
use lib.Ieee.{Float, to_signed, to_unsigned}
use Rattle.std.specs.Int.{int_max, int_min}
use Rattle.std.proofs.lemmas.Int.{ints, clamps}
use Rattle.integers.proofs.Int.{plus}
use Rattle.float.proofs.Saturation.{clamp, read_back, to_signed-narrow, to_unsigned-narrow}

clamp-is : (K : ℕ) (z : ℤ) → int_max (negsuc K) (int_min z (pos K)) ≡ clamp (suc K) z
clamp-is K (pos n) = omega (arith, ints, clamps)
clamp-is K (negsuc n) = omega (arith, ints, clamps)

clamp-plus : (K : ℕ) (z : ℤ) → int_max (pos 0) (int_min z (pos K)) ≡ pos (min (plus z) K)
clamp-plus K (pos n) = omega (arith, ints, clamps)
clamp-plus K (negsuc n) = omega (arith, ints, clamps)

-- `as_i64`'s number, as the machine holds it
abbrev pub held : Float → ℤ
held x = to_z w64 (of_z w64 (to_signed 63 x))

module _ (x : Float) (r : ℤ) where
  unsigned-clamped : (k : ℕ) → 2 ^ k ≤ 2 ^ 63 → r ≡ int_max (pos 0) (int_min (held x) (pos (2 ^ k - 1))) → nat_abs (to_z w64 (of_z w64 r)) ≡ to_unsigned k x
  unsigned-clamped k l c =
      let n = to_unsigned k x in
      let is : r ≡ pos n = c ∙ ap (λ z. int_max (pos 0) (int_min z (pos (2 ^ k - 1)))) (read_back x _ refl) ∙ clamp-plus (2 ^ k - 1) (to_signed 63 x) ∙ ap pos (sym (to_unsigned-narrow k x l)) in
      let small : n < 2 ^ 63 = omega (arith, to_unsigned-narrow k x l) in
      ap (λ z. nat_abs (to_z w64 (of_z w64 z))) is ∙ ap nat_abs (to_z-of_z {w = w64} {z = pos n} (record { sfits = small }))

pub u16_clamped : (x : Float) (r : ℤ) → r ≡ int_max (pos 0) (int_min (held x) (pos 65535)) → nat_abs (to_z w64 (of_z w64 r)) ≡ to_unsigned 16 x
u16_clamped x r = unsigned-clamped x r 16 (lit≤ tt)

pub u8_clamped : (x : Float) (r : ℤ) → r ≡ int_max (pos 0) (int_min (held x) (pos 255)) → nat_abs (to_z w64 (of_z w64 r)) ≡ to_unsigned 8 x
u8_clamped x r = unsigned-clamped x r 8 (lit≤ tt)

pub i32_clamped : (x : Float) → int_max (negsuc 2147483647) (int_min (held x) (pos 2147483647)) ≡ to_signed 31 x
i32_clamped x =
    ap (λ z. int_max (negsuc 2147483647) (int_min z (pos 2147483647))) (read_back x _ refl) ∙ clamp-is 2147483647 (to_signed 63 x) ∙ sym (to_signed-narrow 31 x (lit≤ tt))
