-- What number a bit pattern of binary64 stands for. A pattern is `pat s x t`: the sign's bit, the 11 bits x of the exponent and the 52 bits t of the fraction.
-- Assumes nothing.
use Rattle.std.proofs.Common.{◌≡◌, ℕ, zero, suc, ◌+◌, ◌*◌, ◌/◌, ◌%◌, ◌^◌, ◌<◌, ◌≤◌, Bool, true, false, cond, not, T, eqb, leb, sym, refl, ap, ◌∙◌, subst, ap₂, zero-add, arith, le→leb, leb→le}
use lib.Dec.{nleb→lt}
use lib.Arith.{lt→nleb}
use lib.Ieee.{Float, nan, inf, fin, binary64, fits, is_nan, nan_bits, to_bits, odd, of_fields, of_bits}
use lib.Ieee.Bits.{is_true, is_false, of_bits-to_bits, to_bits-lt, nan_bits_is}
use Rattle.float.specs.Rounding.{with_sign, is_negative, abs_f, copysign_f}

-- ---- a pattern and its three fields

abbrev pub sign_bit : Bool → ℕ
sign_bit s = cond s 9223372036854775808 0

abbrev pub pat : Bool → ℕ → ℕ → ℕ
pat s x t = sign_bit s + (x * 4503599627370496 + t)

of_bits_is : (b : ℕ) → of_bits binary64 b ≡ of_fields binary64 (leb 9223372036854775808 b) (b % 9223372036854775808 / 4503599627370496) (b % 4503599627370496)
unfolding of_bits
of_bits_is b = refl

sign_of : (s : Bool) (x t : ℕ) → x < 2048 → t < 4503599627370496 → leb 9223372036854775808 (pat s x t) ≡ s
sign_of true x t X H = is_true (leb 9223372036854775808 (pat true x t)) (le→leb 9223372036854775808 (pat true x t) (omega arith))
sign_of false x t X H = is_false (leb 9223372036854775808 (pat false x t)) (lt→nleb 9223372036854775808 (pat false x t) (omega arith))

field_of : (s : Bool) (x t : ℕ) → x < 2048 → t < 4503599627370496 → pat s x t % 9223372036854775808 / 4503599627370496 ≡ x
field_of true x t X H = omega arith
field_of false x t X H = omega arith

pub digits_of : (s : Bool) (x t : ℕ) → x < 2048 → t < 4503599627370496 → pat s x t % 4503599627370496 ≡ t
digits_of true x t X H = omega arith
digits_of false x t X H = omega arith

pub read : (s : Bool) (x t : ℕ) → x < 2048 → t < 4503599627370496 → of_bits binary64 (pat s x t) ≡ of_fields binary64 s x t
read s x t X H =
    of_bits_is (pat s x t)
    ∙ ap (λ (a : Bool). of_fields binary64 a (pat s x t % 9223372036854775808 / 4503599627370496) (pat s x t % 4503599627370496)) (sign_of s x t X H)
    ∙ ap₂ (of_fields binary64 s) (field_of s x t X H) (digits_of s x t X H)

-- every number of 64 bits is such a pattern, and `(b >> 52) & 0x7ff` is its exponent's field
pub record Fields (b : ℕ) : Type 0 where
  pub s : Bool
  pub x : ℕ
  pub t : ℕ
  pub x_lt : x < 2048
  pub t-lt : t < 4503599627370496
  pub is : b ≡ pat s x t
  pub field : b / 2 ^ 52 % 2 ^ 11 ≡ x

pub fields : (b : ℕ) → b < 2 ^ 64 → Fields b
fields b h = go (leb 9223372036854775808 b) (leb→le 9223372036854775808 b) (nleb→lt 9223372036854775808 b)
  where
    go : (a : Bool) → (T a → 9223372036854775808 ≤ b) → (T (not a) → b < 9223372036854775808) → Fields b
    go true y n =
        let k = y tt in
        record { s = true; x = b % 9223372036854775808 / 4503599627370496; t = b % 4503599627370496; x_lt = omega arith; t-lt = omega arith; is = omega arith; field = omega arith }
    go false y n =
        let k = n tt in
        record { s = false; x = b % 9223372036854775808 / 4503599627370496; t = b % 4503599627370496; x_lt = omega arith; t-lt = omega arith; is = omega arith; field = omega arith }

-- ---- a NaN

-- a pattern whose value is no NaN is no NaN's
pub no_nan : (r : ℕ) (v : Float) → of_bits binary64 r ≡ v → T (not (is_nan v)) → T (not (nan_bits binary64 r))
no_nan r v e n = subst (λ (a : Bool). T (not a)) (sym (nan_bits_is binary64 r ∙ ap is_nan e)) n

-- ---- another sign

odd-signed : (r : Bool) (d : ℕ) (s : Bool) (q k l : ℕ) → with_sign r (odd d s q k l) ≡ odd d r q k l
unfolding odd with_sign
odd-signed r d s zero k l = refl
odd-signed r d s (suc q) k l = refl

cond-signed : (a c : Bool) (r s : Bool) (v w : Float) → with_sign r v ≡ w → with_sign r (cond a (cond c (inf s) nan) v) ≡ cond a (cond c (inf r) nan) w
unfolding with_sign
cond-signed true true r s v w h = refl
cond-signed true false r s v w h = refl
cond-signed false c r s v w h = h

fields-signed : (r s : Bool) (x t : ℕ) → with_sign r (of_fields binary64 s x t) ≡ of_fields binary64 r x t
unfolding of_fields
fields-signed r s zero t = odd-signed r 53 s t 0 1074
fields-signed r s (suc x) t =
    cond-signed (eqb (suc x) 2047) (eqb t 0) r s (odd 53 s (4503599627370496 + t) x 1074) (odd 53 r (4503599627370496 + t) x 1074) (odd-signed r 53 s (4503599627370496 + t) x 1074)

-- the lower 63 bits of b under another sign's bit
pub signed : (r : Bool) (b : ℕ) → b < 2 ^ 64 → of_bits binary64 (sign_bit r + b % 2 ^ 63) ≡ with_sign r (of_bits binary64 b)
signed r b h =
    let F = fields b h in
    ap (of_bits binary64) (low r F.s F.is F.x_lt F.t-lt)
    ∙ read r F.x F.t F.x_lt F.t-lt
    ∙ sym (ap (λ (a : ℕ). with_sign r (of_bits binary64 a)) F.is ∙ ap (with_sign r) (read F.s F.x F.t F.x_lt F.t-lt) ∙ fields-signed r F.s F.x F.t)
  where
    low : {x t : ℕ} (r s : Bool) → b ≡ pat s x t → x < 2048 → t < 4503599627370496 → sign_bit r + b % 2 ^ 63 ≡ pat r x t
    low r true e X H = omega arith
    low r false e X H = omega arith

signed-number : (r : Bool) (v : Float) → T (not (is_nan v)) → T (not (is_nan (with_sign r v)))
unfolding with_sign is_nan
signed-number r nan n = n
signed-number r (inf s) n = tt
signed-number r (fin s m e) n = tt

sign_at : (s : Bool) (x t : ℕ) → T (not (is_nan (of_fields binary64 s x t))) → is_negative (of_fields binary64 s x t) ≡ s
unfolding of_fields odd is_negative is_nan
sign_at s zero zero n = refl
sign_at s zero (suc t) n = refl
sign_at s (suc x) t n = go (eqb (suc x) 2047) (eqb t 0) n
  where
    go : (a c : Bool) → T (not (is_nan (cond a (cond c (inf s) nan) (odd 53 s (4503599627370496 + t) x 1074)))) → is_negative (cond a (cond c (inf s) nan) (odd 53 s (4503599627370496 + t) x 1074)) ≡ s
    go true true n = refl
    go true false n = absurd n
    go false c n = plain (4503599627370496 + t)
      where
        plain : (q : ℕ) → is_negative (odd 53 s q x 1074) ≡ s
        plain zero = refl
        plain (suc q) = refl

-- ---- a float's own bits

module _ (x : Float) (held : T (fits binary64 x)) where
  pub bits-lt : to_bits binary64 x < 2 ^ 64
  bits-lt = to_bits-lt binary64 x held

  pub bits_back : of_bits binary64 (to_bits binary64 x) ≡ x
  bits_back = of_bits-to_bits binary64 x held

  pub abs-bits : of_bits binary64 (to_bits binary64 x % 2 ^ 63) ≡ abs_f x
  unfolding abs_f
  abs-bits = ap (of_bits binary64) (sym (zero-add (to_bits binary64 x % 2 ^ 63))) ∙ signed false (to_bits binary64 x) bits-lt ∙ ap (with_sign false) bits_back

  pub abs-number : T (not (is_nan x)) → T (not (is_nan (abs_f x)))
  unfolding abs_f
  abs-number n = signed-number false x n

-- the sign's bit is that of the sign; a NaN's pattern has none
sign-place : (y : Float) → T (fits binary64 y) → T (not (is_nan y)) → to_bits binary64 y / 2 ^ 63 * 2 ^ 63 ≡ sign_bit (is_negative y)
sign-place y held n =
    let b = to_bits binary64 y in
    let F = fields b (bits-lt y held) in
    let e : of_fields binary64 F.s F.x F.t ≡ y = sym (read F.s F.x F.t F.x_lt F.t-lt) ∙ ap (of_bits binary64) (sym F.is) ∙ bits_back y held in
    ap (λ (a : ℕ). a / 2 ^ 63 * 2 ^ 63) F.is
    ∙ top F.s F.x F.t F.x_lt F.t-lt
    ∙ ap sign_bit (sym (sign_at F.s F.x F.t (subst (λ (v : Float). T (not (is_nan v))) (sym e) n)) ∙ ap is_negative e)
  where
    top : (s : Bool) (x t : ℕ) → x < 2048 → t < 4503599627370496 → pat s x t / 2 ^ 63 * 2 ^ 63 ≡ sign_bit s
    top true x t X H = omega arith
    top false x t X H = omega arith

top_bit : (y : Float) → T (fits binary64 y) → to_bits binary64 y / 2 ^ 63 * 2 ^ 63 ≡ sign_bit (is_negative y)
unfolding is_nan is_negative to_bits
top_bit nan held = refl
top_bit (inf s) held = sign-place (inf s) held tt
top_bit (fin s m e) held = sign-place (fin s m e) held tt

module _ (x y : Float) (hx : T (fits binary64 x)) (hy : T (fits binary64 y)) where
  pub copysign-bits : of_bits binary64 (to_bits binary64 y / 2 ^ 63 * 2 ^ 63 + to_bits binary64 x % 2 ^ 63) ≡ copysign_f x y
  unfolding copysign_f
  copysign-bits =
      ap (λ (a : ℕ). of_bits binary64 (a + to_bits binary64 x % 2 ^ 63)) (top_bit y hy)
      ∙ signed (is_negative y) (to_bits binary64 x) (bits-lt x hx)
      ∙ ap (with_sign (is_negative y)) (bits_back x hx)

  pub copysign-number : T (not (is_nan x)) → T (not (is_nan (copysign_f x y)))
  unfolding copysign_f
  copysign-number n = signed-number (is_negative y) x n
