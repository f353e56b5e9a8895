-- THE DIVISION LAW, once for all divisors: for a whole number t below 2 ^ 53 in magnitude and a whole divisor d from 1 up to 2 ^ 53, the floor of the rounded
-- quotient is the floor of the quotient. Assumes nothing.
use Rattle.std.proofs.Common.{◌≡◌, ℕ, zero, suc, ◌+◌, ◌-◌, ◌*◌, ◌/◌, ◌%◌, ◌^◌, ◌<◌, Bool, true, false, T, ◌⊎◌, ℤ, pos, nat_abs, sym, refl, ap, ◌∙◌, subst, inl, inr, add-zero, mod-lt, zero-lt-suc, suc-mul, eq-zero-or-pos, div-add-mod', mul-one, arith, pow_pos}
use native.Mathlib.Nat.{zero-mod, suc-mod, mod_self}
use lib.Ieee.{Float, Format, binary64, prec, low, unlike, round, div}
use lib.Ieee.Fits.{div-fits}
use lib.Ieee.Scale.{grid, finite}
use Rattle.integers.specs.Whole.{floor_div, floor_mod}
use Rattle.float.specs.Whole.{signed, IsWhole, floor_z}
use Rattle.float.specs.Rounding.{floor_f}
use Rattle.float.proofs.Fractions.{down, ceil-exact, floor-signed, floor-same, floor-in}
use Rattle.float.proofs.Rounding.{floor_z-value, floor-whole, value-finite}
use Rattle.float.proofs.Nearest.{strictly, strictly-value, exactly-value}
use Rattle.float.proofs.Whole.{size_is, positive-value}
use Rattle.float.proofs.Ops.{div_is}

-- with something left over, a / b lies strictly between two whole numbers itself
between : (a b : ℕ) → 0 < b → 0 < a % b → (a / b * b < a) × (a < suc (a / b) * b)
between a b B R =
    let s : a / b * b + a % b ≡ a = div-add-mod' a b in
    let m : a % b < b = mod-lt a B in
    (omega arith, simp suc-mul (omega arith))

exact : (a b : ℕ) → a % b ≡ 0 → a / b * b ≡ a * 1
exact a b R = sym (add-zero (a / b * b)) ∙ ap (λ (r : ℕ). a / b * b + r) (sym R) ∙ div-add-mod' a b ∙ sym (mul-one a)

pub round-floor : (f : Format) (s : Bool) (a b : ℕ) → 0 < b → a < 2 ^ prec f → b < 2 ^ prec f → floor_z (round f s a b) ≡ floor_div (signed s a) b
round-floor f s a b B A S = go (eq-zero-or-pos (a % b))
  where
    go : (a % b ≡ 0) ⊎ (0 < a % b) → floor_z (round f s a b) ≡ floor_div (signed s a) b
    go (inl z) =
        floor_z-value (round f s a b) s (a / b) 1 (zero-lt-suc 0) (exactly-value f s a b B A z)
        ∙ floor-same s (a / b) 1 a b (zero-lt-suc 0) B (exact a b z)
    go (inr p) =
        let k = strictly f a b B A S p in
        let i = between a b B p in
        floor_z-value (round f s a b) s (grid f a b) (2 ^ low f) (pow_pos (low f)) (strictly-value f s a b B A S p)
        ∙ floor-in s (grid f a b) (2 ^ low f) (a / b) (pow_pos (low f)) k.0 k.1
        ∙ sym (floor-in s a b (a / b) B i.0 i.1)

unlike-false : (s : Bool) → unlike s false ≡ s
unlike-false false = refl
unlike-false true = refl

quotient_is : (f : Format) {x y : Float} {t : ℤ} {d : ℕ} (u : IsWhole x t) → IsWhole y (pos d) → 0 < d → div f x y ≡ round f u.sign u.size d
quotient_is f {x} {y} {t} {d} u w D =
    div_is f x y u.sign false u.size d D u.value (positive-value D w) ∙ ap (λ (s : Bool). round f s u.size d) (unlike-false u.sign)

pub floor_z-div : (f : Format) {x y : Float} {t : ℤ} {d : ℕ} → IsWhole x t → IsWhole y (pos d) → nat_abs t < 2 ^ prec f → 0 < d → d < 2 ^ prec f
    → floor_z (div f x y) ≡ floor_div t d
floor_z-div f {x} {y} {t} {d} u w A D S =
    ap floor_z (quotient_is f u w D)
    ∙ round-floor f u.sign u.size d D (subst (λ (n : ℕ). n < 2 ^ prec f) (sym (size_is u)) A) S
    ∙ ap (λ (z : ℤ). floor_div z d) u.is

-- ---- the quotient is finite
round-finite : (f : Format) (s : Bool) (a b : ℕ) → 0 < b → a < 2 ^ prec f → b < 2 ^ prec f → T (finite (round f s a b))
round-finite f s a b B A S = go (eq-zero-or-pos (a % b))
  where
    go : (a % b ≡ 0) ⊎ (0 < a % b) → T (finite (round f s a b))
    go (inl z) = value-finite (round f s a b) s (a / b) 1 (exactly-value f s a b B A z)
    go (inr p) = value-finite (round f s a b) s (grid f a b) (2 ^ low f) (strictly-value f s a b B A S p)

pub div-finite : (f : Format) {x y : Float} {t : ℤ} {d : ℕ} → IsWhole x t → IsWhole y (pos d) → nat_abs t < 2 ^ prec f → 0 < d → d < 2 ^ prec f → T (finite (div f x y))
div-finite f u w A D S = subst (λ (r : Float). T (finite r)) (sym (quotient_is f u w D)) (round-finite f u.sign u.size _ D (subst (λ (n : ℕ). n < 2 ^ prec f) (sym (size_is u)) A) S)

-- ---- `floor(x / y)` in f64 is the whole number floor(t / d)
pub floor-div : {x y : Float} {t : ℤ} {d : ℕ} → IsWhole x t → IsWhole y (pos d) → nat_abs t < 2 ^ 53 → 0 < d → d < 2 ^ 53 → IsWhole (floor_f (div binary64 x y)) (floor_div t d)
floor-div {x} {y} u w A D S =
    subst (IsWhole (floor_f (div binary64 x y))) (floor_z-div binary64 u w A D S) (floor-whole (div binary64 x y) (div-fits binary64 x y) (div-finite binary64 u w A D S))

-- ---- where the divisor goes into it, the quotient itself is the whole number
no-rest : (s : Bool) (a b : ℕ) → 0 < b → floor_mod (signed s a) b ≡ 0 → a % b ≡ 0
no-rest false a b B e = e
no-rest true zero b B e = zero-mod b
no-rest true (suc a) b B e = suc-mod a b ∙ ap (λ (i : ℕ). i % b) (full (a % b) b (mod-lt a B) e) ∙ mod_self b
  where
    full : (r b : ℕ) → r < b → b - suc r ≡ 0 → suc r ≡ b
    full r b l e = omega arith

down-exact : (s : Bool) (a b : ℕ) → a % b ≡ 0 → down s a b ≡ a / b
down-exact false a b e = refl
down-exact true a b e = ceil-exact a b e

pub div-exact : (f : Format) {x y : Float} {t : ℤ} {d : ℕ} → IsWhole x t → IsWhole y (pos d) → nat_abs t < 2 ^ prec f → 0 < d → floor_mod t d ≡ 0 → IsWhole (div f x y) (floor_div t d)
div-exact f {x} {y} {t} {d} u w A D e =
    let s = u.sign in
    let n = u.size in
    let r : n % d ≡ 0 = no-rest s n d D (ap (λ (z : ℤ). floor_mod z d) u.is ∙ e) in
    subst (λ (v : Float). IsWhole v (floor_div t d)) (sym (quotient_is f u w D)) (record {
      sign = s;
      size = n / d;
      value = exactly-value f s n d D (subst (λ (k : ℕ). k < 2 ^ prec f) (sym (size_is u)) A) r;
      is = ap (signed s) (sym (down-exact s n d r)) ∙ sym (floor-signed s n d D) ∙ ap (λ (z : ℤ). floor_div z d) u.is;
    })
