-- Laws of `trunc_f`, `floor_f`, `abs_f` and `copysign_f`. Of a finite f64 x, whatever its size, `trunc_f x` is the whole number `trunc_z x` and `floor_f x` the whole
-- number `floor_z x`: nothing is rounded. A whole number is its own floor and its own whole part. `HasValue x s a c` says that x is finite, has the sign s,
-- and is a / c in size. Assumes nothing.
use Rattle.std.proofs.Common.{◌≡◌, ℕ, zero, suc, ◌+◌, ◌-◌, ◌*◌, ◌/◌, ◌%◌, ◌^◌, ◌<◌, ◌≤◌, Bool, true, false, cond, ◌&&◌, T, eqb, ltb, leb, ℤ, pos, negsuc, nat_abs, sym, refl, ap, ◌∙◌, subst, ap₂, le_trans, le_of_eq, le_of_lt, zero-lt-suc, mul_assoc, mul-lt-mul_of_pos_right, zero-mul, mul-one, div-le_self, div-one, arith, ltb→lt, pow_pos, pow-add}
use Prim.Native.Nat.{compare}
use native.Mathlib.Nat.{mod-one}
use lib.Ieee.{Float, nan, inf, fin, binary64, up, down, fits, size, nearest, odd, units, round, of_int}
use lib.Ieee.Fits.{down_pos, and_l, and_r, round-fits, nan-fits, inf-fits, of_int-fits}
use lib.Ieee.Bits.{of_bits-fits}
use lib.Ieee.Exact.{HasValue, round_exact}
use lib.Ieee.Back.{round_whole, whole_unique}
use lib.Ieee.Nearest.{div_same}
use lib.Ieee.Scale.{finite}
use Rattle.integers.specs.Whole.{floor_div}
use Rattle.float.specs.Whole.{signed, IsWhole, floor_z, trunc_z}
use Rattle.float.specs.Rounding.{trunc_f, floor_f, with_sign, abs_f, copysign_f, to_integer_or_infinity}
use Rattle.float.proofs.Fractions as frac
use Rattle.float.proofs.Fractions.{ceil-same, floor-signed, floor-same, cut}

-- ---- the f64 of a whole number, with a sign that also a zero has
abbrev pub whole_number : Bool → ℕ → Float
whole_number s n = round binary64 s n 1

pub units-signed : (r s : Bool) (q k : ℕ) → with_sign r (units binary64 s q k) ≡ units binary64 r q k
unfolding units odd with_sign
units-signed r s q k = go (ltb (q * 2 ^ k) (2 ^ 2098)) q
  where
    go : (p : Bool) (q : ℕ) → with_sign r (cond p (odd 54 s q k 1074) (inf s)) ≡ cond p (odd 54 r q k 1074) (inf r)
    go true zero = refl
    go true (suc q) = refl
    go false q = refl

pub round-signed : (r s : Bool) (a c : ℕ) → with_sign r (round binary64 s a c) ≡ round binary64 r a c
unfolding round
round-signed r s a c =
    let n = a * 2 ^ 1074 in
    let k = size (n / c) - 53 in
    let u = c * 2 ^ k in
    units-signed r s (nearest (n / u) (compare (n % u * 2) u)) k

pub int-signed : (s : Bool) (n : ℕ) → with_sign s (of_int binary64 (signed s n)) ≡ whole_number s n
unfolding of_int
int-signed false n = round-signed false false n 1
int-signed true zero = round-signed true false 0 1
int-signed true (suc n) = round-signed true true (suc n) 1

-- ---- `trunc_f` and `floor_f` of a finite value
pub trunc-fin : (s : Bool) (m : ℕ) (e : ℤ) → trunc_f (fin s m e) ≡ whole_number s (m * up e / down e)
unfolding trunc_f trunc_z
trunc-fin s m e = int-signed s (m * up e / down e)

pub floor-fin : (s : Bool) (m : ℕ) (e : ℤ) → floor_f (fin s m e) ≡ whole_number s (frac.down s (m * up e) (down e))
unfolding floor_f floor_z
floor-fin s m e = ap (λ (z : ℤ). with_sign s (of_int binary64 z)) (floor-signed s (m * up e) (down e) (down_pos e)) ∙ int-signed s (frac.down s (m * up e) (down e))

pub trunc-value : (x : Float) (s : Bool) (a c : ℕ) → 0 < c → HasValue x s a c → trunc_f x ≡ whole_number s (a / c)
trunc-value nan s a c C h = absurd h
trunc-value (inf t) s a c C h = absurd h
trunc-value (fin t m e) s a c C h = trunc-fin t m e ∙ ap₂ whole_number h.0 (div_same (m * up e) (down e) a c (down_pos e) C h.1)

pub floor-value : (x : Float) (s : Bool) (a c : ℕ) → 0 < c → HasValue x s a c → floor_f x ≡ whole_number s (frac.down s a c)
floor-value nan s a c C h = absurd h
floor-value (inf t) s a c C h = absurd h
floor-value (fin t m e) s a c C h = floor-fin t m e ∙ ap (λ (b : Bool). whole_number b (frac.down b (m * up e) (down e))) h.0 ∙ ap (whole_number s) (go s)
  where
    go : (s : Bool) → frac.down s (m * up e) (down e) ≡ frac.down s a c
    go false = div_same (m * up e) (down e) a c (down_pos e) C h.1
    go true = ceil-same (m * up e) (down e) a c (down_pos e) C h.1

-- the whole numbers, likewise
pub trunc_z-value : (x : Float) (s : Bool) (a c : ℕ) → 0 < c → HasValue x s a c → trunc_z x ≡ signed s (a / c)
unfolding trunc_z
trunc_z-value nan s a c C h = absurd h
trunc_z-value (inf t) s a c C h = absurd h
trunc_z-value (fin t m e) s a c C h = ap₂ signed h.0 (div_same (m * up e) (down e) a c (down_pos e) C h.1)

pub floor_z-value : (x : Float) (s : Bool) (a c : ℕ) → 0 < c → HasValue x s a c → floor_z x ≡ floor_div (signed s a) c
unfolding floor_z
floor_z-value nan s a c C h = absurd h
floor_z-value (inf t) s a c C h = absurd h
floor_z-value (fin t m e) s a c C h = ap (λ (b : Bool). floor_div (signed b (m * up e)) (down e)) h.0 ∙ floor-same s (m * up e) (down e) a c (down_pos e) C h.1

-- ---- what a format's own digits and range say
fits_lt : (s : Bool) (m : ℕ) (e : ℤ) → T (fits binary64 (fin s m e)) → m < 2 ^ 53
unfolding fits
fits_lt s zero e h = pow_pos 53
fits_lt s (suc m) e h =
    ltb→lt (suc m) (2 ^ 53) (and_r (eqb (suc m % 2) 1) (ltb (suc m) (2 ^ 53)) (and_l (eqb (suc m % 2) 1 && ltb (suc m) (2 ^ 53)) (leb (down e) (2 ^ 1074))
    (and_l (eqb (suc m % 2) 1 && ltb (suc m) (2 ^ 53) && leb (down e) (2 ^ 1074)) (ltb (suc m * up e) (2 ^ 1024 * down e)) h)))

fits-range : (s : Bool) (m k : ℕ) → T (fits binary64 (fin s m (pos k))) → m * 2 ^ k < 2 ^ 1024
unfolding fits
fits-range s zero k h = subst (λ (n : ℕ). n < 2 ^ 1024) (sym (zero-mul (2 ^ k))) (pow_pos 1024)
fits-range s (suc m) k h =
    ltb→lt (suc m * 2 ^ k) (2 ^ 1024) (and_r (eqb (suc m % 2) 1 && ltb (suc m) (2 ^ 53) && leb 1 (2 ^ 1074)) (ltb (suc m * 2 ^ k) (2 ^ 1024)) h)

-- ---- nothing is rounded: the result is the whole number itself
whole-large : (s : Bool) (m k : ℕ) → T (fits binary64 (fin s m (pos k))) → HasValue (whole_number s (m * 2 ^ k)) s (m * 2 ^ k) 1
whole-large s m k h =
    let e : m * 2 ^ k * 2 ^ 1074 ≡ m * 2 ^ (k + 1074) = mul_assoc m (2 ^ k) (2 ^ 1074) ∙ ap (λ (n : ℕ). m * n) (sym (pow-add 2 k 1074)) in
    round_exact binary64 s (m * 2 ^ k) 1 m (k + 1074) (zero-lt-suc 0) (fits_lt s m (pos k) h)
    (subst (λ (n : ℕ). n < 2 ^ 2098) e (mul-lt-mul_of_pos_right (fits-range s m k h) (pow_pos 1074)))
    (e ∙ sym (mul-one (m * 2 ^ (k + 1074))))

down-whole : (s : Bool) (n : ℕ) → frac.down s n 1 ≡ n
down-whole false n = div-one n
down-whole true n = frac.ceil-exact n 1 (mod-one n) ∙ div-one n

part-le : (m k : ℕ) → m * 1 / 2 ^ suc k ≤ m
part-le m k = le_trans (div-le_self (m * 1) (2 ^ suc k)) (le_of_eq (mul-one m))

down_le : (s : Bool) (m k : ℕ) → m < 2 ^ 53 → frac.down s (m * 1) (2 ^ suc k) ≤ 2 ^ 53
down_le false m k h = le_trans (part-le m k) (le_of_lt h)
down_le true m k h = go (eqb (m * 1 % 2 ^ suc k) 0) (m * 1 / 2 ^ suc k) (part-le m k)
  where
    go : (p : Bool) (n : ℕ) → n ≤ m → cond p n (suc n) ≤ 2 ^ 53
    go true n l = omega arith
    go false n l = omega arith

trunc-exact : (s : Bool) (m : ℕ) (e : ℤ) → T (fits binary64 (fin s m e)) → HasValue (whole_number s (m * up e / down e)) s (m * up e / down e) 1
trunc-exact s m (pos k) h = subst (λ (n : ℕ). HasValue (whole_number s n) s n 1) (sym (div-one (m * 2 ^ k))) (whole-large s m k h)
trunc-exact s m (negsuc k) h = round_whole binary64 s (m * 1 / 2 ^ suc k) (le_trans (part-le m k) (le_of_lt (fits_lt s m (negsuc k) h)))

floor-exact : (s : Bool) (m : ℕ) (e : ℤ) → T (fits binary64 (fin s m e)) → HasValue (whole_number s (frac.down s (m * up e) (down e))) s (frac.down s (m * up e) (down e)) 1
floor-exact s m (pos k) h = subst (λ (n : ℕ). HasValue (whole_number s n) s n 1) (sym (down-whole s (m * 2 ^ k))) (whole-large s m k h)
floor-exact s m (negsuc k) h = round_whole binary64 s (frac.down s (m * 1) (2 ^ suc k)) (down_le s m k (fits_lt s m (negsuc k) h))

-- THE LAWS: the whole part and the floor of a finite f64
pub trunc-whole : (x : Float) → T (fits binary64 x) → T (finite x) → IsWhole (trunc_f x) (trunc_z x)
unfolding trunc_z
trunc-whole nan h F = absurd F
trunc-whole (inf s) h F = absurd F
trunc-whole (fin s m e) h F =
    subst (λ (v : Float). IsWhole v (signed s (m * up e / down e))) (sym (trunc-fin s m e)) (record { sign = s; size = m * up e / down e; value = trunc-exact s m e h; is = refl })

pub floor-whole : (x : Float) → T (fits binary64 x) → T (finite x) → IsWhole (floor_f x) (floor_z x)
unfolding floor_z
floor-whole nan h F = absurd F
floor-whole (inf s) h F = absurd F
floor-whole (fin s m e) h F =
    subst (λ (v : Float). IsWhole v (floor_div (signed s (m * up e)) (down e))) (sym (floor-fin s m e)) (record {
      sign = s;
      size = frac.down s (m * up e) (down e);
      value = floor-exact s m e h;
      is = sym (floor-signed s (m * up e) (down e) (down_pos e));
    })

-- ---- the f64 results are f64 values
pub trunc-fits : (x : Float) → T (fits binary64 (trunc_f x))
unfolding trunc_f
trunc-fits nan = nan-fits binary64
trunc-fits (inf s) = inf-fits binary64 s
trunc-fits (fin s m e) = subst (λ (v : Float). T (fits binary64 v)) (sym (trunc-fin s m e)) (round-fits binary64 s (m * up e / down e) 1)

pub integer-fits : (x : Float) → T (fits binary64 (to_integer_or_infinity x))
unfolding to_integer_or_infinity
integer-fits nan = of_bits-fits binary64 0
integer-fits (inf s) = inf-fits binary64 s
integer-fits (fin s m e) = of_int-fits binary64 (trunc_z (fin s m e))

-- ---- of a whole number
pub value-finite : (x : Float) (s : Bool) (a c : ℕ) → HasValue x s a c → T (finite x)
value-finite nan s a c v = v
value-finite (inf t) s a c v = v
value-finite (fin t m e) s a c v = tt

pub whole-finite : {x : Float} {z : ℤ} → IsWhole x z → T (finite x)
whole-finite {x} w = value-finite x w.sign w.size 1 w.value

pub trunc_z-whole : {x : Float} {z : ℤ} → IsWhole x z → trunc_z x ≡ z
trunc_z-whole {x} w = trunc_z-value x w.sign w.size 1 (zero-lt-suc 0) w.value ∙ ap (signed w.sign) (div-one w.size) ∙ w.is

-- a float is one whole number
pub number-unique : {x : Float} {z z' : ℤ} → IsWhole x z → IsWhole x z' → z ≡ z'
number-unique w w' = sym (trunc_z-whole w) ∙ trunc_z-whole w'

exact-own : (x : Float) (s : Bool) (n : ℕ) → T (fits binary64 x) → HasValue x s n 1 → HasValue (whole_number s n) s n 1
exact-own nan s n h v = absurd v
exact-own (inf t) s n h v = absurd v
exact-own (fin t m e) s n h v =
    subst (λ (k : ℕ). HasValue (whole_number s k) s k 1) (cut (m * up e) (down e) n (down_pos e) v.1).0
    (subst (λ (r : Bool). HasValue (whole_number r (m * up e / down e)) r (m * up e / down e) 1) v.0 (trunc-exact t m e h))

-- a whole number is its own whole part and its own floor, -0 too
pub trunc-own : {x : Float} {z : ℤ} → T (fits binary64 x) → IsWhole x z → trunc_f x ≡ x
trunc-own {x} h w =
    let s = w.sign in
    let n = w.size in
    trunc-value x s n 1 (zero-lt-suc 0) w.value ∙ ap (whole_number s) (div-one n)
    ∙ whole_unique binary64 (whole_number s n) x s n (round-fits binary64 s n 1) h (exact-own x s n h w.value) w.value

pub floor-own : {x : Float} {z : ℤ} → T (fits binary64 x) → IsWhole x z → floor_f x ≡ x
floor-own {x} h w =
    floor-value x w.sign w.size 1 (zero-lt-suc 0) w.value ∙ ap (whole_number w.sign) (down-whole w.sign w.size ∙ sym (div-one w.size))
    ∙ sym (trunc-value x w.sign w.size 1 (zero-lt-suc 0) w.value) ∙ trunc-own h w

sign-value : (r : Bool) (x : Float) (s : Bool) (a c : ℕ) → HasValue x s a c → HasValue (with_sign r x) r a c
unfolding with_sign
sign-value r nan s a c v = absurd v
sign-value r (inf t) s a c v = absurd v
sign-value r (fin t m e) s a c v = (refl, v.1)

sign-whole : (r : Bool) {x : Float} {z : ℤ} → IsWhole x z → IsWhole (with_sign r x) (signed r (nat_abs z))
sign-whole r {x} {z} w = record {
  sign = r;
  size = w.size;
  value = sign-value r x w.sign w.size 1 w.value;
  is = ap (signed r) (sym (frac.nat_abs-signed w.sign w.size) ∙ ap nat_abs w.is);
}

pub abs-whole : {x : Float} {z : ℤ} → IsWhole x z → IsWhole (abs_f x) (pos (nat_abs z))
unfolding abs_f
abs-whole w = sign-whole false w

-- ---- Boa's `x.abs().floor().copysign(x)` is the whole part
pub trunc-by-floor : (x : Float) → copysign_f (floor_f (abs_f x)) x ≡ trunc_f x
unfolding copysign_f floor_f abs_f trunc_f
trunc-by-floor nan = refl
trunc-by-floor (inf s) = refl
trunc-by-floor (fin s m e) = ap (with_sign s) (floor-fin false m e) ∙ round-signed s false (m * up e / down e) 1 ∙ sym (trunc-fin s m e)
