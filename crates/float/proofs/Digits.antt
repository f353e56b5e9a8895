-- The remainder of two floats by their digits and places, and the pattern of a number of smallest values. Assumes nothing.
use Rattle.std.proofs.Common.{◌≡◌, ℕ, zero, suc, ◌+◌, ◌-◌, ◌*◌, ◌/◌, ◌%◌, ◌^◌, ◌<◌, ◌≤◌, min, Bool, true, false, cond, not, ◌||◌, T, eqb, pos, sym, refl, ap, ◌∙◌, subst, ap₂, inl, inr, le_trans, lt_trans, le_of_eq, lt_of_lt_of_le, lt_of_le_of_lt, lt_irrefl, mul-le-mul_right, mod-lt, mod-eq_of_lt, mul_assoc, mul_comm, add-mul, add_comm, mul-le-mul_left, mul-pos, pow-suc, div-add-mod', zero-mul, true≢false, mul-one, mul_right_comm, div-one, mul-div_cancel, arith, lit≤, eqb→eq, pow_pos, pow_mono, pow-add, shl_lt}
use Prim.Native.Nat.{compare}
use native.Mathlib.Nat.{mul-add-mod_self_right, eq_of_mul-eq-mul_right, div-div-eq-div-mul, div-eq_of_lt, pow-succ'}
use lib.Dec.{not_T}
use mathlib.Core.Bool.{beq, false≢true}
use lib.Count.{count_leading_zeros, leading_top, count_trailing_zeros, under}
use lib.Bits.{bit_and, and_mask}
use lib.Ieee.{Float, nan, inf, fin, binary64, fits, is_nan, nan_bits, eq, up, down, size, nearest, odd, round, rem, of_fields, of_bits, to_bits}
use lib.Ieee.Fits.{up_pos, down_pos, and_l, round-fits}
use lib.Ieee.Bits.{cond_no, of_bits-fits, of_bits-to_bits}
use lib.Ieee.Exact.{HasValue, round_exact}
use lib.Ieee.Nearest.{div_same}
use lib.Ieee.Digits.{back}
use lib.Ieee.Scale.{round_same}
use Rattle.integers.proofs.Machine.{true-T, false-T}
use Rattle.float.specs.Rounding.{with_sign}
use Rattle.float.specs.Inner.{lead, place, mag}
use Rattle.float.proofs.Rounding.{round-signed}
use Rattle.float.proofs.Ops.{mod-scale}
use Rattle.float.proofs.Special.{nan-only}
use Rattle.float.proofs.Whole.{zero-factor}
use Rattle.std.specs.Float.{float_is_finite, float_is_infinite}
use Rattle.float.proofs.Patterns.{pat, read, sign_bit, Fields, fields, digits_of, signed, bits_back, bits-lt, no_nan}
use Rattle.float.proofs.Clearing.{fields-val, lead-lt, place-le, split, units_number}

-- ---- digits and places

pub lead_some : (b : ℕ) → 0 < b / 2 ^ 52 % 2 ^ 11 → 4503599627370496 + bit_and b 4503599627370495 ≡ lead (b / 4503599627370496 % 2048) (b % 4503599627370496)
lead_some b h = go (b / 4503599627370496 % 2048) h ∙ ap (lead (b / 4503599627370496 % 2048)) (and_mask b 52)
  where
    go : (x : ℕ) → 0 < x → 4503599627370496 + bit_and b 4503599627370495 ≡ lead x (bit_and b 4503599627370495)
    go zero l = absurd (omega arith)
    go (suc x) l = refl

-- ---- remainders of whole numbers

pub mod_times : (a b n : ℕ) → a % n * b % n ≡ a * b % n
mod_times a b n =
    sym (ap (λ (x : ℕ). x * b % n) (sym (div-add-mod' a n))
    ∙ ap (λ (x : ℕ). x % n) (add-mul (a / n * n) (a % n) b ∙ ap (λ (x : ℕ). x + a % n * b) (mul_right_comm (a / n) n b))
    ∙ mul-add-mod_self_right (a / n * b) n (a % n * b))

-- ---- one value, one float

cross : (p u c a d q v g : ℕ) → 0 < c → p * u * c ≡ a * d → q * v * c ≡ a * g → p * u * g ≡ q * v * d
cross p u c a d q v g C h k =
    eq_of_mul-eq-mul_right c C (p * u * g) (q * v * d)
    (mul_right_comm (p * u) g c ∙ ap (λ (x : ℕ). x * g) h ∙ mul_right_comm a d g ∙ ap (λ (x : ℕ). x * d) (sym k) ∙ mul_right_comm (q * v) c d)

bits-same : (x y : Float) (s : Bool) (a c : ℕ) → 0 < c → HasValue x s a c → HasValue y s a c → to_bits binary64 x ≡ to_bits binary64 y
unfolding to_bits
bits-same nan y s a c C v w = absurd v
bits-same (inf t) y s a c C v w = absurd v
bits-same (fin t m e) nan s a c C v w = absurd w
bits-same (fin t m e) (inf u) s a c C v w = absurd w
bits-same (fin t m e) (fin u n g) s a c C v w =
    let L = 2 ^ 1074 in
    let i : m * up e * L / down e ≡ n * up g * L / down g =
    div_same (m * up e * L) (down e) (n * up g * L) (down g) (down_pos e) (down_pos g)
    (mul_right_comm (m * up e) L (down g) ∙ ap (λ (x : ℕ). x * L) (cross m (up e) c a (down e) n (up g) (down g) C v.1 w.1) ∙ mul_right_comm (n * up g) (down e) L) in
    ap₂ (λ (b : Bool) (z : ℕ). cond b 9223372036854775808 0 + (size z - 53) * 4503599627370496 + z / 2 ^ (size z - 53)) (v.0 ∙ sym w.0) i

pub value-unique : (x y : Float) (s : Bool) (a c : ℕ) → 0 < c → T (fits binary64 x) → T (fits binary64 y) → HasValue x s a c → HasValue y s a c → x ≡ y
value-unique x y s a c C p q v w = sym (of_bits-to_bits binary64 x p) ∙ ap (of_bits binary64) (bits-same x y s a c C v w) ∙ of_bits-to_bits binary64 y q

-- ---- the pattern of q * 2 ^ k smallest values

room_for : (q k : ℕ) → q < 2 ^ 53 → k ≤ 2045 → q * 2 ^ k < 2 ^ 2098
room_for q k Q K = lt_of_lt_of_le (shl_lt 53 k Q) (pow_mono (more k K))
  where
    more : (k : ℕ) → k ≤ 2045 → 53 + k ≤ 2098
    more k h = omega arith

wider : (x : ℕ) → x < 2047 → x < 2048
wider x h = omega arith

pub units-pattern : (s : Bool) (x t q k : ℕ) → x < 2047 → t < 4503599627370496 → q < 2 ^ 53 → k ≤ 2045 → mag x t ≡ q * 2 ^ k → of_bits binary64 (pat s x t) ≡ round binary64 s (q * 2 ^ k) (2 ^ 1074)
units-pattern s x t q k X H Q K e =
    value-unique (of_bits binary64 (pat s x t)) (round binary64 s (q * 2 ^ k) (2 ^ 1074)) s (q * 2 ^ k) (2 ^ 1074) (pow_pos 1074) (of_bits-fits binary64 (pat s x t)) (round-fits binary64 s (q * 2 ^ k) (2 ^ 1074))
    (subst (λ (a : ℕ). HasValue (of_bits binary64 (pat s x t)) s a (2 ^ 1074)) e
    (subst (λ (w : Float). HasValue w s (mag x t) (2 ^ 1074)) (sym (read s x t (wider x X) H)) (fields-val s x t X)))
    (round_exact binary64 s (q * 2 ^ k) (2 ^ 1074) q k (pow_pos 1074) Q (room_for q k Q K) refl)

pub own-pattern : (s : Bool) (x t : ℕ) → x < 2047 → t < 4503599627370496 → of_bits binary64 (pat s x t) ≡ round binary64 s (mag x t) (2 ^ 1074)
own-pattern s x t X H = units-pattern s x t (lead x t) (place x) X H (lead-lt x t H) (place-le x 2045 (under x X)) refl
  where
    under : (x : ℕ) → x < 2047 → x ≤ suc 2045
    under x h = omega arith

-- shifted up with room to spare
module _ (q h k : ℕ) (lo : 2 ^ 52 ≤ q * 2 ^ h) (hi : q * 2 ^ h < 2 ^ 53) (less : h < k) (K : k ≤ 2045) (Q : q < 2 ^ 53) where
  rejoin : h + (k - h) ≡ k
  rejoin = omega arith

  pub shifted : of_bits binary64 ((k - h) * 4503599627370496 + q * 2 ^ h) ≡ round binary64 false (q * 2 ^ k) (2 ^ 1074)
  shifted =
      let Z = q * 2 ^ h in
      let t = Z - 4503599627370496 in
      let back : 4503599627370496 + t ≡ Z = omega arith in
      ap (of_bits binary64) (same Z t (k - h) back)
      ∙ units-pattern false (suc (k - h)) t q k (omega arith) (omega arith) Q K
      (ap (λ (n : ℕ). n * 2 ^ (k - h)) back ∙ mul_assoc q (2 ^ h) (2 ^ (k - h)) ∙ ap (λ (n : ℕ). q * n) (sym (pow-add 2 h (k - h)) ∙ ap (λ (n : ℕ). 2 ^ n) rejoin))
    where
      same : (Z t d : ℕ) → 4503599627370496 + t ≡ Z → d * 4503599627370496 + Z ≡ pat false (suc d) t
      same Z t d e = omega arith

-- ---- the shift that brings the top bit to bit 52

not-above : (q j : ℕ) → q < 2 ^ 53 → 2 ^ j ≤ q → j ≤ 52
not-above q j Q h = elim (split j 53) [
  | inl a ↦ below_one j a
  | inr a ↦ absurd (lt_irrefl q (lt_of_lt_of_le Q (le_trans (pow_mono a) h)))
]
  where
    below_one : (j : ℕ) → j < 53 → j ≤ 52
    below_one j a = omega arith

pub room_is : (q : ℕ) → 0 < q → q < 2 ^ 53 → (11 ≤ count_leading_zeros 64 q) × (2 ^ 52 ≤ q * 2 ^ (count_leading_zeros 64 q - 11)) × (q * 2 ^ (count_leading_zeros 64 q - 11) < 2 ^ 53) × (count_leading_zeros 64 q - 11 ≤ 52)
room_is q P Q =
    let z = count_leading_zeros 64 q in
    let top = leading_top 64 q P (lt_of_lt_of_le Q (lit≤ {m = 2 ^ 53} {n = 2 ^ 64} tt)) in
    let j = top.0 in
    let h = not-above q j Q top.2 in
    let e : j + (z - 11) ≡ 52 = omega (arith, top.1) in
    let e' : suc j + (z - 11) ≡ 53 = omega (arith, top.1) in (
      omega (arith, top.1),
      subst (λ (x : ℕ). 2 ^ x ≤ q * 2 ^ (z - 11)) e (le_trans (le_of_eq (pow-add 2 j (z - 11))) (mul-le-mul_right (2 ^ (z - 11)) top.2)),
      subst (λ (x : ℕ). q * 2 ^ (z - 11) < 2 ^ x) e' (shl_lt {a = q} (suc j) (z - 11) top.3),
      omega arith,
    )

-- ---- as many bits at a time as there is room for

pub leading-room : (n : ℕ) → 0 < n → n < 2 ^ 53 → (0 < count_leading_zeros 64 n) × (count_leading_zeros 64 n < 64) × ((r : ℕ) → r < n → r * 2 ^ count_leading_zeros 64 n < 2 ^ 64)
leading-room n P N =
    let z = count_leading_zeros 64 n in
    let top = leading_top 64 n P (lt_of_lt_of_le N (lit≤ {m = 2 ^ 53} {n = 2 ^ 64} tt)) in
    let j = top.0 in
    let h = not-above n j N top.2 in
    let e : suc j + z ≡ 64 = omega (arith, top.1) in
    (omega (arith, top.1), omega (arith, top.1), λ r R. subst (λ (x : ℕ). r * 2 ^ z < 2 ^ x) e (shl_lt {a = r} (suc j) z (lt_trans R top.3)))

pub step : (r s k n : ℕ) → s < k → r * 2 ^ s % n * 2 ^ (k - s) % n ≡ r * 2 ^ k % n
step r s k n h =
    mod_times (r * 2 ^ s) (2 ^ (k - s)) n
    ∙ ap (λ (x : ℕ). x % n) (mul_assoc r (2 ^ s) (2 ^ (k - s)) ∙ ap (λ (x : ℕ). r * x) (sym (pow-add 2 s (k - s)) ∙ ap (λ (x : ℕ). 2 ^ x) (rejoin s k h)))
  where
    rejoin : (s k : ℕ) → s < k → s + (k - s) ≡ k
    rejoin s k h = omega arith

-- the same as `shifted_rem` finds it: s is the room above n
pub room_some : (n : ℕ) → 0 < n → n < 2 ^ 53 → 0 < count_leading_zeros 64 n
room_some n P N = (leading-room n P N).0

pub stepped : (r s k n : ℕ) → r < n → n < 2 ^ 53 → s ≡ count_leading_zeros 64 n → s < k → r * 2 ^ s % 18446744073709551616 % n * 2 ^ (k - s) % n ≡ r * 2 ^ k % n
stepped r s k n R N is l =
    let fits : r * 2 ^ s < 2 ^ 64 = rw is ((leading-room n (omega arith) N).2 r R) in
    ap (λ (x : ℕ). x % n * 2 ^ (k - s) % n) (mod-eq_of_lt fits) ∙ step r s k n l

pub finished : (r k n : ℕ) → r < n → n < 2 ^ 53 → k ≤ count_leading_zeros 64 n → r * 2 ^ k % 18446744073709551616 % n ≡ r * 2 ^ k % n
finished r k n R N l =
    ap (λ (x : ℕ). x % n) (mod-eq_of_lt (lt_of_le_of_lt (mul-le-mul_left r (pow_mono l)) ((leading-room n (omega arith) N).2 r R)))

-- ---- zeros at the end

half-zeros : (n t : ℕ) → n % 2 ≡ 0 → n / 2 / 2 ^ t * 2 ^ t ≡ n / 2 → n / 2 ^ suc t * 2 ^ suc t ≡ n
half-zeros n t e h =
    ap₂ (λ (x y : ℕ). n / x * y) (pow-succ' 2 t) (pow-suc 2 t)
    ∙ ap (λ (x : ℕ). x * (2 ^ t * 2)) (sym (div-div-eq-div-mul n 2 (2 ^ t)))
    ∙ sym (mul_assoc (n / 2 / 2 ^ t) (2 ^ t) 2)
    ∙ ap (λ (x : ℕ). x * 2) h
    ∙ even n e
  where
    even : (n : ℕ) → n % 2 ≡ 0 → n / 2 * 2 ≡ n
    even n e = omega arith

trailing-whole : (k n : ℕ) → n / 2 ^ count_trailing_zeros k n * 2 ^ count_trailing_zeros k n ≡ n
unfolding count_trailing_zeros
trailing-whole zero n = mul-one (n / 1) ∙ div-one n
trailing-whole (suc k) n = go (n % 2) refl (trailing-whole k (n / 2))
  where
    go : (d : ℕ) → n % 2 ≡ d → n / 2 / 2 ^ count_trailing_zeros k (n / 2) * 2 ^ count_trailing_zeros k (n / 2) ≡ n / 2 → n / 2 ^ under d (count_trailing_zeros k (n / 2)) * 2 ^ under d (count_trailing_zeros k (n / 2)) ≡ n
    go zero e h = half-zeros n (count_trailing_zeros k (n / 2)) e h
    go (suc d) e h = mul-one (n / 1) ∙ div-one n

-- fewer zeros are there too
fewer : (n z d : ℕ) → d ≤ z → n / 2 ^ z * 2 ^ z ≡ n → n / 2 ^ d * 2 ^ d ≡ n
fewer n z d h e =
    let q = n / 2 ^ z in
    let f : n ≡ q * 2 ^ (z - d) * 2 ^ d = sym e ∙ ap (λ (x : ℕ). q * x) (ap (λ (x : ℕ). 2 ^ x) (sym (back z d h)) ∙ pow-add 2 (z - d) d) ∙ sym (mul_assoc q (2 ^ (z - d)) (2 ^ d)) in
    ap (λ (x : ℕ). x / 2 ^ d * 2 ^ d) f ∙ ap (λ (x : ℕ). x * 2 ^ d) (mul-div_cancel (q * 2 ^ (z - d)) (pow_pos d)) ∙ sym f

pub zeros-all : (n : ℕ) → 0 < n → n < 2 ^ 64 → (count_trailing_zeros 64 n < 64) × (n / 2 ^ count_trailing_zeros 64 n * 2 ^ count_trailing_zeros 64 n ≡ n)
zeros-all n P N = (
  elim (split (count_trailing_zeros 64 n) 64) [
    | inl a ↦ a
    | inr a ↦ absurd (lt_irrefl 0 (subst (λ (x : ℕ). 0 < x) (sym (fewer n (count_trailing_zeros 64 n) 64 a (trailing-whole 64 n)) ∙ ap (λ (x : ℕ). x * 2 ^ 64) (div-eq_of_lt N)) P))
  ],
  trailing-whole 64 n,
)

pub zeros-fewer : (n d : ℕ) → d ≤ count_trailing_zeros 64 n → n / 2 ^ d * 2 ^ d ≡ n
zeros-fewer n d h = fewer n (count_trailing_zeros 64 n) d h (trailing-whole 64 n)

-- r of them, the fewer of d and all
pub zeros_fit : (n d r : ℕ) → 0 < n → n < 2 ^ 64 → r ≡ min (count_trailing_zeros 64 n) d → r < 64
zeros_fit n d r P L is = omega (arith, (zeros-all n P L).0)

pub zeros_whole : (n d r : ℕ) → 0 < n → n < 2 ^ 64 → r ≡ min (count_trailing_zeros 64 n) d → n / 2 ^ r * 2 ^ r ≡ n
zeros_whole n d r P L is = zeros-fewer n r (omega arith)

-- not shifted as far: there is no leading one
pub unshifted : (q h k : ℕ) → q * 2 ^ h < 2 ^ 53 → k ≤ h → q * 2 ^ k < 2 ^ 53
unshifted q h k hi le = lt_of_le_of_lt (mul-le-mul_left q (pow_mono le)) hi

pub plain : (q k : ℕ) → q < 2 ^ 53 → k ≤ 52 → q * 2 ^ k < 2 ^ 53 → of_bits binary64 (q * 2 ^ k) ≡ round binary64 false (q * 2 ^ k) (2 ^ 1074)
plain q k Q K h = elim (split (q * 2 ^ k) 4503599627370496) [
  | inl a ↦ ap (of_bits binary64) (same_low (q * 2 ^ k)) ∙ units-pattern false 0 (q * 2 ^ k) q k (omega arith) a Q (omega arith) (mul-one (q * 2 ^ k))
  | inr a ↦
      let Z = q * 2 ^ k in
      let t = Z - 4503599627370496 in
      let back : 4503599627370496 + t ≡ Z = omega arith in
      ap (of_bits binary64) (same Z t back) ∙ units-pattern false 1 t q k (omega arith) (omega arith) Q (omega arith) (mul-one (4503599627370496 + t) ∙ back)
]
  where
    same_low : (Z : ℕ) → Z ≡ pat false 0 Z
    same_low Z = omega arith

    same : (Z t : ℕ) → 4503599627370496 + t ≡ Z → Z ≡ pat false 1 t
    same Z t e = omega arith

pub none-at : (q k : ℕ) → q ≡ 0 → k ≤ 2045 → of_bits binary64 0 ≡ round binary64 false (q * 2 ^ k) (2 ^ 1074)
none-at q k e K = units-pattern false 0 0 q k (omega arith) (omega arith) (omega arith) K (sym (ap (λ (n : ℕ). n * 2 ^ k) e ∙ zero-mul (2 ^ k)))

-- ---- a finite pattern

pub record Finite (b : ℕ) : Type 0 where
  pub s : Bool
  pub value : HasValue (of_bits binary64 b) s (mag (b / 2 ^ 52 % 2 ^ 11) (b % 2 ^ 52)) (2 ^ 1074)
  pub high : b / 2 ^ 63 * 2 ^ 63 ≡ sign_bit s
  pub own : of_bits binary64 b ≡ round binary64 s (mag (b / 2 ^ 52 % 2 ^ 11) (b % 2 ^ 52)) (2 ^ 1074)

high-of : (s : Bool) (x t : ℕ) → x < 2048 → t < 4503599627370496 → pat s x t / 2 ^ 63 * 2 ^ 63 ≡ sign_bit s
high-of true x t X H = omega arith
high-of false x t X H = omega arith

pub finite : (b : ℕ) → b < 2 ^ 64 → b / 2 ^ 52 % 2 ^ 11 < 2047 → Finite b
finite b h l =
    let F = fields b h in
    let X : F.x < 2047 = subst (λ (n : ℕ). n < 2047) F.field l in
    let T' : b % 4503599627370496 ≡ F.t = ap (λ (n : ℕ). n % 4503599627370496) F.is ∙ digits_of F.s F.x F.t F.x_lt F.t-lt in
    let M : mag (b / 2 ^ 52 % 2 ^ 11) (b % 2 ^ 52) ≡ mag F.x F.t = ap₂ mag F.field T' in
    record {
      s = F.s;
      value = subst (λ (n : ℕ). HasValue (of_bits binary64 b) F.s n (2 ^ 1074)) (sym M)
          (subst (λ (v : Float). HasValue v F.s (mag F.x F.t) (2 ^ 1074)) (sym (ap (of_bits binary64) F.is ∙ read F.s F.x F.t F.x_lt F.t-lt)) (fields-val F.s F.x F.t X));
      high = ap (λ (n : ℕ). n / 2 ^ 63 * 2 ^ 63) F.is ∙ high-of F.s F.x F.t F.x_lt F.t-lt;
      own = ap (of_bits binary64) F.is ∙ own-pattern F.s F.x F.t X F.t-lt ∙ ap (λ (n : ℕ). round binary64 F.s n (2 ^ 1074)) (sym M);
    }

-- a's sign over the pattern of a number of smallest values
pub signed_units : (a u n : ℕ) (F : Finite a) → u < 2 ^ 63 → of_bits binary64 u ≡ round binary64 false n (2 ^ 1074) → of_bits binary64 (a / 2 ^ 63 * 2 ^ 63 + u % 2 ^ 63) ≡ round binary64 F.s n (2 ^ 1074)
signed_units a u n F h e =
    ap (λ (z : ℕ). of_bits binary64 (z + u % 2 ^ 63)) F.high
    ∙ signed F.s u (lt_of_lt_of_le h (lit≤ {m = 2 ^ 63} {n = 2 ^ 64} tt))
    ∙ ap (with_sign F.s) e
    ∙ round-signed F.s false n (2 ^ 1074)

-- ---- the remainder of two finite floats, over one denominator

rem_value : (x y : Float) (s t : Bool) (A B C : ℕ) → 0 < C → 0 < B → HasValue x s A C → HasValue y t B C → rem binary64 x y ≡ round binary64 s (A % B) C
unfolding rem
rem_value nan y s t A B C c b h k = absurd h
rem_value (inf u) y s t A B C c b h k = absurd h
rem_value (fin u m e) nan s t A B C c b h k = absurd k
rem_value (fin u m e) (inf w) s t A B C c b h k = absurd k
rem_value (fin u m e) (fin w l d) s t A B C c b h k =
    let D = down e * down d in
    let P : 0 < D = mul-pos (down_pos e) (down_pos d) in
    let Y : 0 < l * up d * down e = mul-pos (some l (up d) B C (down d) b c (down_pos d) k.1) (down_pos e) in
    let one : m * up e * down d * C ≡ A * D = mul_right_comm (m * up e) (down d) C ∙ ap (λ (x : ℕ). x * down d) h.1 ∙ mul_assoc A (down e) (down d) in
    let two : l * up d * down e * C ≡ B * D = mul_right_comm (l * up d) (down e) C ∙ ap (λ (x : ℕ). x * down e) k.1 ∙ mul_assoc B (down d) (down e) ∙ ap (λ (x : ℕ). B * x) (mul_comm (down d) (down e)) in
    cond_no (eqb l 0) nan (round binary64 u (m * up e * down d % (l * up d * down e)) D) (not_T (eqb l 0) (λ z. lt_irrefl 0 (subst (λ (n : ℕ). 0 < n) (none l (up d) (eqb→eq l 0 z)) (some l (up d) B C (down d) b c (down_pos d) k.1))))
    ∙ ap (λ (v : Bool). round binary64 v (m * up e * down d % (l * up d * down e)) D) h.0
    ∙ round_same binary64 s (m * up e * down d % (l * up d * down e)) D (A % B) C P c
    (sym (mod-scale (m * up e * down d) (l * up d * down e) C Y c) ∙ ap₂ (λ (p q : ℕ). p % q) one two ∙ mod-scale A B D b P)
  where
    none : (l u : ℕ) → l ≡ 0 → l * u ≡ 0
    none l u e = ap (λ (n : ℕ). n * u) e ∙ zero-mul u

    some : (l u B C d : ℕ) → 0 < B → 0 < C → 0 < d → l * u * C ≡ B * d → 0 < l * u
    some l u B C d b c p e = elim (split 0 (l * u)) [
      | inl g ↦ g
      | inr g ↦ absurd (lt_irrefl 0 (subst (λ (n : ℕ). 0 < n) (sym e ∙ ap (λ (n : ℕ). n * C) (nil (l * u) g) ∙ zero-mul C) (mul-pos b p)))
    ]
      where
        nil : (n : ℕ) → n ≤ 0 → n ≡ 0
        nil n h = omega arith

-- ---- by digits and places

lead_high : (x t : ℕ) → 0 < place x → 2 ^ 52 ≤ lead x t
lead_high zero t h = absurd (lt_irrefl 0 h)
lead_high (suc x) t h = omega arith

lead-pos : (x t : ℕ) → 0 < x * 4503599627370496 + t → 0 < lead x t
lead-pos zero t h = omega arith
lead-pos (suc x) t h = omega arith

part-pos : (n c : ℕ) → 0 < n → n / 2 ^ c * 2 ^ c ≡ n → 0 < n / 2 ^ c
part-pos n c P e = elim (split 0 (n / 2 ^ c)) [
  | inl g ↦ g
  | inr g ↦ absurd (lt_irrefl 0 (subst (λ (z : ℕ). 0 < z) (sym e ∙ ap (λ (z : ℕ). z * 2 ^ c) (nil (n / 2 ^ c) g) ∙ zero-mul (2 ^ c)) P))
]
  where
    nil : (n : ℕ) → n ≤ 0 → n ≡ 0
    nil n h = omega arith

module _ (a b : ℕ) (A : a < 2 ^ 64) (B : b < 2 ^ 64) (fa : a / 2 ^ 52 % 2 ^ 11 < 2047) (fb : b / 2 ^ 52 % 2 ^ 11 < 2047) (some : 0 < b % 2 ^ 63) where
  abbrev m : ℕ
  m = lead (a / 2 ^ 52 % 2 ^ 11) (a % 2 ^ 52)

  abbrev n : ℕ
  n = lead (b / 2 ^ 52 % 2 ^ 11) (b % 2 ^ 52)

  abbrev i : ℕ
  i = place (a / 2 ^ 52 % 2 ^ 11)

  abbrev j : ℕ
  j = place (b / 2 ^ 52 % 2 ^ 11)

  divisor-pos : 0 < n
  divisor-pos = lead-pos (b / 2 ^ 52 % 2 ^ 11) (b % 2 ^ 52) (omega arith)

  pub rem_is : rem binary64 (of_bits binary64 a) (of_bits binary64 b) ≡ round binary64 (finite a A fa).s (m * 2 ^ i % (n * 2 ^ j)) (2 ^ 1074)
  rem_is = rem_value (of_bits binary64 a) (of_bits binary64 b) (finite a A fa).s (finite b B fb).s (m * 2 ^ i) (n * 2 ^ j) (2 ^ 1074) (pow_pos 1074) (mul-pos divisor-pos (pow_pos j)) (finite a A fa).value (finite b B fb).value

  pub rem-less : i < j → of_bits binary64 a ≡ rem binary64 (of_bits binary64 a) (of_bits binary64 b)
  rem-less l =
      (finite a A fa).own
      ∙ ap (λ (z : ℕ). round binary64 (finite a A fa).s z (2 ^ 1074))
      (sym (mod-eq_of_lt (lt_of_lt_of_le (shl_lt 53 i (lead-lt (a / 2 ^ 52 % 2 ^ 11) (a % 2 ^ 52) (mod-lt a (pow_pos 52))))
      (le_trans (pow_mono (up_one i j l)) (le_trans (le_of_eq (pow-add 2 52 j)) (mul-le-mul_right (2 ^ j) (lead_high (b / 2 ^ 52 % 2 ^ 11) (b % 2 ^ 52) (after i j l))))))))
      ∙ sym rem_is
    where
      up_one : (i j : ℕ) → i < j → 53 + i ≤ 52 + j
      up_one i j h = omega arith

      after : (i j : ℕ) → i < j → 0 < j
      after i j h = omega arith

  -- c of the divisor's zeros at the end taken up; w is what stands before them
  pub rem-split : (le : j ≤ i) (c u : ℕ) → c ≤ i - j → n / 2 ^ c * 2 ^ c ≡ n → u < 2 ^ 63 → of_bits binary64 u ≡ round binary64 false (m % (n / 2 ^ c) * 2 ^ (i - j - c) % (n / 2 ^ c) * 2 ^ (j + c)) (2 ^ 1074)
      → of_bits binary64 (a / 2 ^ 63 * 2 ^ 63 + u % 2 ^ 63) ≡ rem binary64 (of_bits binary64 a) (of_bits binary64 b)
  rem-split le c u C e U h =
      let w = n / 2 ^ c in
      let d = i - j - c in
      let whole : d + (j + c) ≡ i = rejoin' i j c le C in
      signed_units a u (m % w * 2 ^ d % w * 2 ^ (j + c)) (finite a A fa) U h
      ∙ ap (λ (z : ℕ). round binary64 (finite a A fa).s z (2 ^ 1074))
      (ap (λ (z : ℕ). z * 2 ^ (j + c)) (mod_times m (2 ^ d) w)
      ∙ sym (mod-scale (m * 2 ^ d) w (2 ^ (j + c)) (part-pos n c divisor-pos e) (pow_pos (j + c)))
      ∙ ap₂ (λ (y z : ℕ). y % z) (mul_assoc m (2 ^ d) (2 ^ (j + c)) ∙ ap (λ (z : ℕ). m * z) (sym (pow-add 2 d (j + c)) ∙ ap (λ (z : ℕ). 2 ^ z) whole))
      (ap (λ (z : ℕ). w * z) (ap (λ (z : ℕ). 2 ^ z) (add_comm j c) ∙ pow-add 2 c j) ∙ sym (mul_assoc w (2 ^ c) (2 ^ j)) ∙ ap (λ (z : ℕ). z * 2 ^ j) e))
      ∙ sym rem_is
    where
      rejoin' : (i j c : ℕ) → j ≤ i → c ≤ i - j → i - j - c + (j + c) ≡ i
      rejoin' i j c h k = omega arith

  -- the same, of digits and places that are known by equations
  abbrev Split : (m n i j : ℕ) → Type 0
  Split m n i j =
      j ≤ i → (c u : ℕ) → c ≤ i - j → n / 2 ^ c * 2 ^ c ≡ n → u < 2 ^ 63 → of_bits binary64 u ≡ round binary64 false (m % (n / 2 ^ c) * 2 ^ (i - j - c) % (n / 2 ^ c) * 2 ^ (j + c)) (2 ^ 1074)
      → of_bits binary64 (a / 2 ^ 63 * 2 ^ 63 + u % 2 ^ 63) ≡ rem binary64 (of_bits binary64 a) (of_bits binary64 b)

  pub split_at : {m' n' i' j' : ℕ} → m' ≡ m → n' ≡ n → i' ≡ i → j' ≡ j → Split m' n' i' j'
  split_at {m'} {n'} {i'} {j'} p q r s =
      subst (λ (z : ℕ). Split z n' i' j') (sym p) (subst (λ (z : ℕ). Split m z i' j') (sym q) (subst (λ (z : ℕ). Split m n z j') (sym r) (subst (λ (z : ℕ). Split m n i z) (sym s) rem-split)))

-- ---- where an operand is no finite number, or the divisor is zero

pub round_number : (s : Bool) (a c : ℕ) → T (not (is_nan (round binary64 s a c)))
unfolding round
round_number s a c =
    let n = a * 2 ^ 1074 in
    let k = size (n / c) - 53 in
    let u = c * 2 ^ k in
    units_number s (nearest (n / u) (compare (n % u * 2) u)) k

-- ---- where no remainder is worked out
-- `f64::NAN`
the-nan : of_bits binary64 9221120237041090560 ≡ nan
unfolding of_bits
the-nan = refl

rem-by-nan : (x : Float) → rem binary64 x nan ≡ nan
unfolding rem
rem-by-nan nan = refl
rem-by-nan (inf s) = refl
rem-by-nan (fin s m e) = refl

pub by_nan : (x y : Float) → is_nan y ≡ true → of_bits binary64 9221120237041090560 ≡ rem binary64 x y
by_nan x y n = the-nan ∙ subst (λ (v : Float). nan ≡ rem binary64 x v) (sym (nan-only y n)) (sym (rem-by-nan x))

pub not_finite : (x y : Float) → float_is_finite x ≡ false → of_bits binary64 9221120237041090560 ≡ rem binary64 x y
unfolding rem float_is_finite
not_finite nan y f = the-nan
not_finite (inf s) y f = the-nan
not_finite (fin s m e) y f = absurd (true≢false f)

rem-by-zero : (x y : Float) → eq y (of_bits binary64 0) ≡ true → rem binary64 x y ≡ nan
unfolding rem eq of_bits
rem-by-zero nan y e = refl
rem-by-zero (inf t) y e = refl
rem-by-zero (fin t m d) nan e = refl
rem-by-zero (fin t m d) (inf s) e = absurd (false≢true e)
rem-by-zero (fin t m d) (fin s n g) e =
    let A = n * up g * 1 in
    let B = 0 * down g in
    let v : A ≡ B = eqb→eq A B (and_l (eqb A B) (beq s false || eqb A 0) (subst T (sym e) tt)) in
    let z : n ≡ 0 = zero-factor n (up g) (up_pos g) (sym (mul-one (n * up g)) ∙ v ∙ zero-mul (down g)) in
    ap (λ (i : ℕ). cond (eqb i 0) nan (round binary64 t (m * up d * down g % (i * up g * down d)) (down d * down g))) z

rem-by-inf : (x : Float) (s : Bool) → float_is_finite x ≡ true → rem binary64 x (inf s) ≡ x
unfolding rem float_is_finite
rem-by-inf nan s f = absurd (false≢true f)
rem-by-inf (inf t) s f = absurd (false≢true f)
rem-by-inf (fin t m e) s f = refl

-- std's word for an infinity
infinite : (x : Float) → float_is_infinite x ≡ true → (s : Bool) × (x ≡ inf s)
unfolding float_is_infinite
infinite nan e = absurd (false≢true e)
infinite (inf s) e = (s, refl)
infinite (fin s m d) e = absurd (false≢true e)

inf-infinite : (s : Bool) → float_is_infinite (inf s) ≡ true
unfolding float_is_infinite
inf-infinite s = refl

no-other : (x : Float) → float_is_finite x ≡ true → (is_nan x ≡ false) × (float_is_infinite x ≡ false)
unfolding is_nan float_is_finite float_is_infinite
no-other nan f = absurd (false≢true f)
no-other (inf s) f = absurd (false≢true f)
no-other (fin s m e) f = (refl, refl)

zero-level : (s : Bool) → eq (fin s 0 (pos 0)) (of_bits binary64 0) ≡ true
unfolding eq of_bits
zero-level true = refl
zero-level false = refl

ones-at : (s : Bool) (t : ℕ) → T (not (is_nan (of_fields binary64 s 2047 t))) → of_fields binary64 s 2047 t ≡ inf s
unfolding of_fields is_nan
ones-at s t n = go (eqb t 0) n
  where
    go : (p : Bool) → T (not (is_nan (cond p (inf s) nan))) → cond p (inf s) nan ≡ inf s
    go true n = refl
    go false n = absurd n

zero-fields : (s : Bool) → of_fields binary64 s 0 0 ≡ fin s 0 (pos 0)
unfolding of_fields odd
zero-fields s = refl

low-fields : (s : Bool) (x t : ℕ) → x < 2048 → t < 4503599627370496 → pat s x t % 2 ^ 63 ≡ 0 → (x ≡ 0) × (t ≡ 0)
low-fields true x t X H e = (omega arith, omega arith)
low-fields false x t X H e = (omega arith, omega arith)

module _ (x : Float) (held : T (fits binary64 x)) where
  from_fields : (F : Fields (to_bits binary64 x)) → x ≡ of_fields binary64 F.s F.x F.t
  from_fields F = sym (bits_back x held) ∙ ap (of_bits binary64) F.is ∙ read F.s F.x F.t F.x_lt F.t-lt

  pub is-inf : T (not (is_nan x)) → to_bits binary64 x / 2 ^ 52 % 2 ^ 11 ≡ 2047 → (s : Bool) × (x ≡ inf s)
  is-inf n e =
      let F = fields (to_bits binary64 x) (bits-lt x held) in
      let v : x ≡ of_fields binary64 F.s 2047 F.t = from_fields F ∙ ap (λ (z : ℕ). of_fields binary64 F.s z F.t) (sym F.field ∙ e) in
      let r = ones-at F.s F.t (subst (λ (w : Float). T (not (is_nan w))) v n) in
      (F.s, v ∙ r)

  pub is_zero : to_bits binary64 x % 2 ^ 63 ≡ 0 → (s : Bool) × (x ≡ fin s 0 (pos 0))
  is_zero e =
      let F = fields (to_bits binary64 x) (bits-lt x held) in
      let z = low-fields F.s F.x F.t F.x_lt F.t-lt (ap (λ (n : ℕ). n % 2 ^ 63) (sym F.is) ∙ e) in
      (F.s, from_fields F ∙ ap₂ (of_fields binary64 F.s) z.0 z.1 ∙ zero-fields F.s)

-- the same as `remainder` asks for it
module _ (x : Float) (held : fits binary64 x ≡ true) where
  pub finite_field : is_nan x ≡ false → float_is_infinite x ≡ false → to_bits binary64 x / 2 ^ 52 % 2 ^ 11 < 2047
  finite_field n f =
      let no : to_bits binary64 x / 2 ^ 52 % 2 ^ 11 ≡ 2047 → ⊥ =
      λ e. let i = is-inf x (true-T _ held) (false-T _ n) e in true≢false (sym (ap float_is_infinite i.1 ∙ inf-infinite i.0) ∙ f) in
      omega (arith, no)

  pub field_below : float_is_finite x ≡ true → to_bits binary64 x / 2 ^ 52 % 2 ^ 11 < 2047
  field_below f = let o = no-other x f in finite_field o.0 o.1

  pub some_digits : eq x (of_bits binary64 0) ≡ false → 0 < to_bits binary64 x % 2 ^ 63
  some_digits e =
      let no : to_bits binary64 x % 2 ^ 63 ≡ 0 → ⊥ =
      λ z. let i = is_zero x (true-T _ held) z in true≢false (sym (ap (λ (v : Float). eq v (of_bits binary64 0)) i.1 ∙ zero-level i.0) ∙ e) in
      omega (arith, no)

pub by_zero : (x y : Float) → eq y (of_bits binary64 0) ≡ true → of_bits binary64 9221120237041090560 ≡ rem binary64 x y
by_zero x y e = the-nan ∙ sym (rem-by-zero x y e)

pub by_infinity : (x y : Float) → float_is_finite x ≡ true → float_is_infinite y ≡ true → x ≡ rem binary64 x y
by_infinity x y h f = let i = infinite y f in sym (ap (rem binary64 x) i.1 ∙ rem-by-inf x i.0 h)

-- r is the pattern that `rem_bits` gives of two finite numbers
module _ (r : ℕ) (x y : Float) (e : of_bits binary64 r ≡ rem binary64 (of_bits binary64 (to_bits binary64 x)) (of_bits binary64 (to_bits binary64 y))) (hx : fits binary64 x ≡ true) (hy : fits binary64 y ≡ true) where
  pub of_two : of_bits binary64 r ≡ rem binary64 x y
  of_two = e ∙ ap₂ (rem binary64) (bits_back x (true-T _ hx)) (bits_back y (true-T _ hy))

  pub no_nan_made : float_is_finite x ≡ true → is_nan y ≡ false → eq y (of_bits binary64 0) ≡ false → float_is_infinite y ≡ false → T (not (nan_bits binary64 r))
  no_nan_made fx ny some fy =
      no_nan r _ e
      (subst (λ (v : Float). T (not (is_nan v))) (sym (rem_is (to_bits binary64 x) (to_bits binary64 y) (bits-lt x (true-T _ hx)) (bits-lt y (true-T _ hy)) (field_below x hx fx) (finite_field y hy ny fy) (some_digits y hy some)))
      (round_number _ _ (2 ^ 1074)))
