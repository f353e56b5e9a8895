-- A fraction's whole part, its ceiling and its floor do not depend on how it is written; and where it lies strictly between q and q + 1, what they are.
-- Assumes nothing.
use Rattle.std.proofs.Common.{◌≡◌, ℕ, zero, suc, ◌+◌, ◌*◌, ◌/◌, ◌%◌, ◌<◌, Bool, true, false, cond, not, T, eqb, pos, negsuc, neg_ℤ, nat_abs, sym, refl, ap, ◌∙◌, subst, ap₂, add-zero, le_of_lt, lt_irrefl, mod-lt, zero-lt-suc, suc-mul, div-add-mod', zero-mul, mul-one, mul_right_comm, mul-div_cancel, add-one, arith, eqb→eq}
use native.Mathlib.Nat.{zero-mod, zero-div, div-eq_of_lt-le, eq_of_mul-eq-mul_right, mul-mod_left}
use lib.Dec.{not_T}
use lib.Ieee.Bits.{is_true, is_false}
use lib.Ieee.Fits.{eq→eqb}
use lib.Ieee.Nearest.{div_same}
use Rattle.integers.specs.Whole.{floor_div}
use Rattle.float.specs.Whole.{signed}

-- two tests that follow from each other
pub same_test : (p q : Bool) → (T p → T q) → (T q → T p) → p ≡ q
same_test true true f g = refl
same_test true false f g = absurd (f tt)
same_test false true f g = absurd (g tt)
same_test false false f g = refl

pub nat_abs-signed : (s : Bool) (n : ℕ) → nat_abs (signed s n) ≡ n
nat_abs-signed false n = refl
nat_abs-signed true zero = refl
nat_abs-signed true (suc n) = refl

-- ---- the ceiling: the least whole number that is not below a / c
abbrev pub ceil : ℕ → ℕ → ℕ
ceil a c = cond (eqb (a % c) 0) (a / c) (suc (a / c))

pub ceil-exact : (a d : ℕ) → a % d ≡ 0 → ceil a d ≡ a / d
ceil-exact a d h = ap (λ (p : Bool). cond p (a / d) (suc (a / d))) (is_true (eqb (a % d) 0) (eq→eqb h))

pub ceil-more : (a d : ℕ) → (a % d ≡ 0 → ⊥) → ceil a d ≡ suc (a / d)
ceil-more a d h = ap (λ (p : Bool). cond p (a / d) (suc (a / d))) (is_false (eqb (a % d) 0) (not_T (eqb (a % d) 0) (λ u. h (eqb→eq (a % d) 0 u))))

no-rest : (a b c d : ℕ) → 0 < b → a * d ≡ c * b → a % b ≡ 0 → c % d ≡ 0
no-rest a b c d B h z =
    let w = a / b in
    let e : w * b ≡ a = sym (add-zero (w * b)) ∙ ap (λ (r : ℕ). w * b + r) (sym z) ∙ div-add-mod' a b in
    let k : c ≡ w * d = eq_of_mul-eq-mul_right b B c (w * d) (sym h ∙ ap (λ (r : ℕ). r * d) (sym e) ∙ mul_right_comm w b d) in
    ap (λ (r : ℕ). r % d) k ∙ mul-mod_left w d

pub ceil-same : (a b c d : ℕ) → 0 < b → 0 < d → a * d ≡ c * b → ceil a b ≡ ceil c d
ceil-same a b c d B D h =
    ap (λ (p : Bool). cond p (a / b) (suc (a / b)))
    (same_test (eqb (a % b) 0) (eqb (c % d) 0) (λ u. eq→eqb (no-rest a b c d B h (eqb→eq (a % b) 0 u))) (λ u. eq→eqb (no-rest c d a b D (sym h) (eqb→eq (c % d) 0 u))))
    ∙ ap (λ (n : ℕ). cond (eqb (c % d) 0) n (suc n)) (div_same a b c d B D h)

-- ---- the floor of -a / b is minus the ceiling of a / b
less-same : (a b : ℕ) → 0 < b → (suc a % b ≡ 0 → ⊥) → a / b ≡ suc a / b
less-same a b B R =
    let q = suc a / b in
    let s : q * b + suc a % b ≡ suc a = div-add-mod' (suc a) b in
    let m : suc a % b < b = mod-lt (suc a) B in
    let p : 0 < suc a % b = some (suc a % b) R in
    div-eq_of_lt-le b (omega arith) (simp (add-one, suc-mul) (omega arith))
  where
    some : (r : ℕ) → (r ≡ 0 → ⊥) → 0 < r
    some zero h = absurd (h refl)
    some (suc r) h = zero-lt-suc r

less_one : (a b q : ℕ) → 0 < b → suc a / b ≡ q → suc a % b ≡ 0 → neg_ℤ (pos q) ≡ negsuc (a / b)
less_one a b zero B e R = absurd (none (sym (div-add-mod' (suc a) b) ∙ ap₂ (λ (i j : ℕ). i * b + j) e R))
  where
    none : suc a ≡ 0 * b + 0 → ⊥
    none h = omega (arith, zero-mul b)
less_one a b (suc q) B e R =
    let s : suc q * b + 0 ≡ suc a = ap₂ (λ (i j : ℕ). i * b + j) (sym e) (sym R) ∙ div-add-mod' (suc a) b in
    let s' : q * b + b ≡ suc a = sym (suc-mul q b) ∙ sym (add-zero (suc q * b)) ∙ s in
    ap negsuc (sym (div-eq_of_lt-le b (omega arith) (simp (add-one, suc-mul) (omega arith))))

floor-minus : (a b : ℕ) → 0 < b → floor_div (signed true a) b ≡ neg_ℤ (pos (ceil a b))
floor-minus zero b B = ap pos (zero-div b) ∙ sym (ap (λ (n : ℕ). neg_ℤ (pos n)) (ceil-exact 0 b (zero-mod b) ∙ zero-div b))
floor-minus (suc a) b B = go (eqb (suc a % b) 0) (eqb→eq (suc a % b) 0) (λ t e. lib.Dec.T_not (eqb (suc a % b) 0) t (eq→eqb e))
  where
    go : (p : Bool) → (T p → suc a % b ≡ 0) → (T (not p) → suc a % b ≡ 0 → ⊥) → negsuc (a / b) ≡ neg_ℤ (pos (cond p (suc a / b) (suc (suc a / b))))
    go true y n = sym (less_one a b (suc a / b) B refl (y tt))
    go false y n = ap negsuc (less-same a b B (n tt))

-- the floor of ±a / b, by its sign
abbrev pub down : Bool → ℕ → ℕ → ℕ
down false a b = a / b
down true a b = ceil a b

pub floor-signed : (s : Bool) (a b : ℕ) → 0 < b → floor_div (signed s a) b ≡ signed s (down s a b)
floor-signed false a b B = refl
floor-signed true a b B = floor-minus a b B

pub floor-same : (s : Bool) (a b c d : ℕ) → 0 < b → 0 < d → a * d ≡ c * b → floor_div (signed s a) b ≡ floor_div (signed s c) d
floor-same false a b c d B D h = ap pos (div_same a b c d B D h)
floor-same true a b c d B D h = floor-minus a b B ∙ ap (λ (n : ℕ). neg_ℤ (pos n)) (ceil-same a b c d B D h) ∙ sym (floor-minus c d D)

-- ---- a fraction r / l strictly between q and q + 1
pub div-in : (r l q : ℕ) → q * l < r → r < suc q * l → r / l ≡ q
div-in r l q lo hi = div-eq_of_lt-le l (le_of_lt lo) (subst (λ (k : ℕ). r < k * l) (sym (add-one q)) hi)

rest_in : (r l q : ℕ) → q * l < r → r < suc q * l → r % l ≡ 0 → ⊥
rest_in r l q lo hi z =
    lt_irrefl r (subst (λ (i : ℕ). i < r) (sym (sym (div-add-mod' r l) ∙ ap₂ (λ (i j : ℕ). i * l + j) (div-in r l q lo hi) z ∙ add-zero (q * l))) lo)

pub floor-in : (s : Bool) (r l q : ℕ) → 0 < l → q * l < r → r < suc q * l → floor_div (signed s r) l ≡ signed s (cond s (suc q) q)
floor-in false r l q L lo hi = ap pos (div-in r l q lo hi)
floor-in true r l q L lo hi = floor-minus r l L ∙ ap (λ (n : ℕ). neg_ℤ (pos n)) (ceil-more r l (rest_in r l q lo hi) ∙ ap suc (div-in r l q lo hi))

-- ---- what has the value n / 1
pub cut : (x d n : ℕ) → 0 < d → x * 1 ≡ n * d → (x / d ≡ n) × (x % d ≡ 0)
cut x d n D h =
    let q : x ≡ n * d = sym (mul-one x) ∙ h in
    (ap (λ (i : ℕ). i / d) q ∙ mul-div_cancel n D, ap (λ (i : ℕ). i % d) q ∙ mul-mod_left n d)
