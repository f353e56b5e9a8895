-- Two's complement of any width: `twos_complement` is what the machine's signed integers are, and always in their range. Assumes nothing.
use mathlib.Core.Path.{◌≡◌, refl, sym, ap, subst, ◌∙◌}
use mathlib.Core.Bool.{Bool, true, false, not}
use mathlib.Core.List.{List}
use Prim.Native.Nat.{ℕ, zero, suc, ◌+◌, ◌*◌, ◌-◌, ◌%◌, ◌^◌, ◌≤◌, ◌<◌}
use native.Mathlib.Nat.{add-zero, add-suc, add_assoc, mul_assoc, mul-add, mod-eq_of_lt, add-mod_right, mod-lt}
use native.Mathlib.Omega.{arith}
use lib.Dec.{T, ltb, ltb→lt, nltb→le}
use lib.IntN.{ℤ, pos, negsuc, ◌-ℤ◌}
use lib.ListN.{get_or}
use lib.Pow.{pow-add}
use lib.Signed.{mag}
use mir.Syntax.{Width, w32, w64}
use mir.Val.{to_z, bits, hbits}
use mir.ValLaws.{to_z_pos, to_z-neg}
use Rattle.integers.proofs.Int.{plus, minus, ints, diff-fact}
use Rattle.little_endian.specs.Bytes.{little_endian, twos_complement}

-- the numbers of b bits are twice h, at a width's numerals both by `refl`
module _ (b h : ℕ) (half : 2 ^ (b - 1) ≡ h) (all : 2 ^ b ≡ h + h) where
  as-half : (x : ℕ) → twos_complement b x ≡ pos ((x + h) % (h + h)) -ℤ pos h
  unfolding twos_complement
  as-half x = ap (λ (k : ℕ). pos ((x + k) % 2 ^ b) -ℤ pos k) half ∙ ap (λ (m : ℕ). pos ((x + h) % m) -ℤ pos h) all

  -- the lower half of the unsigned numbers stands for itself
  pub signed_low : (x : ℕ) → x < h → twos_complement b x ≡ pos x
  signed_low x l = as-half x ∙ omega (ints, diff-fact (pos ((x + h) % (h + h))) (pos h), mod-eq_of_lt {n = x + h} {m = h + h} (omega arith))

  -- the upper half, for what is left of it to the next power
  pub signed_high : (x y : ℕ) → y < h → x + suc y ≡ h + h → twos_complement b x ≡ negsuc y
  signed_high x y l e =
      let m : (x + h) % (h + h) ≡ x - h = ap (λ (k : ℕ). k % (h + h)) (let k : x + h ≡ (x - h) + (h + h) = omega arith in k) ∙ add-mod_right (x - h) (h + h) ∙ mod-eq_of_lt (omega arith) in
      as-half x ∙ omega (ints, diff-fact (pos ((x + h) % (h + h))) (pos h), m)

  pub signed_range : (x : ℕ) → 0 < h → mag (twos_complement b x) < h
  signed_range x p = subst (λ (z : ℤ). mag z < h) (sym (as-half x)) (below ((x + h) % (h + h)) (mod-lt (x + h) (omega arith)))
    where
      below : (r : ℕ) → r < h + h → mag (pos r -ℤ pos h) < h
      below r l = in-half (pos r -ℤ pos h) (omega (arith, diff-fact (pos r) (pos h)))
        where
          in-half : (z : ℤ) → (plus z < minus z + h) × (minus z ≤ plus z + h) → mag z < h
          in-half (pos n) k = omega arith
          in-half (negsuc n) k = omega arith

-- what the machine reads as signed
as-signed : (w : Width) (h x : ℕ) → 2 ^ (bits w - 1) ≡ h → 2 ^ hbits w ≡ h → 2 ^ bits w ≡ h + h → x < h + h → to_z w x ≡ twos_complement (bits w) x
as-signed w h x half low all l = go (ltb x h) (ltb→lt x h) (nltb→le x h)
  where
    go : (b : Bool) → (T b → x < h) → (T (not b) → h ≤ x) → to_z w x ≡ twos_complement (bits w) x
    go true y n = to_z_pos w x (rw low (y tt)) ∙ sym (signed_low (bits w) h half all x (y tt))
    go false y n =
        let k = n tt in
        let y = h + h - suc x in
        let e : x ≡ 2 ^ bits w - suc y = rw all (omega arith) in
        ap (to_z w) e ∙ to_z-neg w y (rw low (omega arith)) ∙ sym (signed_high (bits w) h half all x y (omega arith) (omega arith))

pub as_signed_32 : (x : ℕ) → x < 2 ^ 32 → to_z w32 x ≡ twos_complement 32 x
as_signed_32 x l = as-signed w32 2147483648 x refl refl refl l

pub as_signed_64 : (x : ℕ) → x < 2 ^ 64 → to_z w64 x ≡ twos_complement 64 x
as_signed_64 x l = as-signed w64 9223372036854775808 x refl refl refl l

-- ---- low byte first: a number of m + n bytes is its lower m and, that much higher, the n past them
pub little_endian-join : (m n : ℕ) (bytes : List ℕ) (at : ℕ) → little_endian (m + n) bytes at ≡ little_endian m bytes at + 256 ^ m * little_endian n bytes (at + m)
unfolding little_endian
little_endian-join m zero bytes at = ap (λ (k : ℕ). little_endian k bytes at) (add-zero m) ∙ omega arith
little_endian-join m (suc n) bytes at =
    let place : get_or bytes (at + (m + n)) 0 ≡ get_or bytes (at + m + n) 0 = ap (λ (k : ℕ). get_or bytes k 0) (sym (add_assoc at m n)) in
    let high : 256 ^ (m + n) * get_or bytes (at + (m + n)) 0 ≡ 256 ^ m * (256 ^ n * get_or bytes (at + m + n) 0) =
    ap (λ (k : ℕ). k * get_or bytes (at + (m + n)) 0) (pow-add 256 m n) ∙ mul_assoc (256 ^ m) (256 ^ n) (get_or bytes (at + (m + n)) 0) ∙ ap (λ (k : ℕ). 256 ^ m * (256 ^ n * k)) place in
    ap (λ (k : ℕ). little_endian k bytes at) (add-suc m n)
    ∙ omega (arith, little_endian-join m n bytes at, high, mul-add (256 ^ m) (little_endian n bytes (at + m)) (256 ^ n * get_or bytes (at + m + n) 0))
