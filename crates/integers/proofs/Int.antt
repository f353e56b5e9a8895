-- Linear arithmetic over ℤ by `omega`, which reads ℕ alone. Each whole number z is the difference `plus z - minus z` of two naturals,
-- and each operation is one linear equation between such naturals. An order or an equation of ℤ is one of ℕ. Assumes nothing.
use mathlib.Core.Path.{◌≡◌, refl, ap, ◌∙◌, subst}
use mathlib.Core.Bool.{Bool, true, false, not, cond}
use Prim.Native.Nat.{ℕ, zero, suc, ◌+◌, ◌*◌, ◌-◌, ◌≤◌, ◌<◌}
use native.Mathlib.Omega.{arith, div_fact, mod_fact}
use lib.Dec.{T, ltb, ltb→lt, nltb→le, leb→le, le→leb, lt→ltb}
use lib.IntN.{ℤ, pos, negsuc, neg_ℤ, nat_abs, sub_ℕ, ◌+ℤ◌, ◌-ℤ◌, ◌*ℤ◌}
use lib.Signed.{◌≤ℤ◌, ◌<ℤ◌, le_z_yes, lt_z_yes}
use Rattle.integers.specs.Whole.{floor_div, floor_mod}

abbrev pub plus : ℤ → ℕ
plus (pos n) = n
plus (negsuc n) = 0

abbrev pub minus : ℤ → ℕ
minus (pos n) = 0
minus (negsuc n) = suc n

-- ---- each operation
pub sub-fact : (a b : ℕ) → plus (sub_ℕ a b) + b ≡ a + minus (sub_ℕ a b)
sub-fact a b = go (ltb a b) (λ t. ltb→lt a b t) (λ t. nltb→le a b t)
  where
    go : (c : Bool) → (T c → a < b) → (T (not c) → b ≤ a) → plus (cond c (negsuc (b - suc a)) (pos (a - b))) + b ≡ a + minus (cond c (negsuc (b - suc a)) (pos (a - b)))
    go true f g = omega (arith, f tt)
    go false f g = omega (arith, g tt)

pub add-fact : (x y : ℤ) → plus (x +ℤ y) + (minus x + minus y) ≡ plus x + plus y + minus (x +ℤ y)
add-fact (pos a) (pos b) = omega arith
add-fact (pos a) (negsuc b) = omega (arith, sub-fact a (suc b))
add-fact (negsuc a) (pos b) = omega (arith, sub-fact b (suc a))
add-fact (negsuc a) (negsuc b) = omega arith

pub neg-fact : (x : ℤ) → (plus (neg_ℤ x) ≡ minus x) × (minus (neg_ℤ x) ≡ plus x)
neg-fact (pos zero) = (refl, refl)
neg-fact (pos (suc n)) = (refl, refl)
neg-fact (negsuc n) = (refl, refl)

pub diff-fact : (x y : ℤ) → plus (x -ℤ y) + (minus x + plus y) ≡ plus x + minus y + minus (x -ℤ y)
diff-fact x y = omega (arith, add-fact x (neg_ℤ y), neg-fact y)

pub mul-fact : (k : ℕ) (x : ℤ) → (plus (pos k *ℤ x) ≡ k * plus x) × (minus (pos k *ℤ x) ≡ k * minus x)
mul-fact k (pos b) = (refl, omega arith)
mul-fact k (negsuc b) = ((neg-fact (pos (k * suc b))).0 ∙ omega arith, (neg-fact (pos (k * suc b))).1)

pub mul-fact' : (x : ℤ) (k : ℕ) → (plus (x *ℤ pos k) ≡ k * plus x) × (minus (x *ℤ pos k) ≡ k * minus x)
mul-fact' (pos b) k = (omega arith, omega arith)
mul-fact' (negsuc b) k = ((neg-fact (pos (suc b * k))).0 ∙ omega arith, (neg-fact (pos (suc b * k))).1 ∙ omega arith)

-- the quotient and the remainder by k + 1
pub div-mod-fact : (x : ℤ) (k : ℕ) → (plus x + suc k * minus (floor_div x (suc k)) ≡ minus x + suc k * plus (floor_div x (suc k)) + floor_mod x (suc k)) × (floor_mod x (suc k) < suc k)
div-mod-fact (pos a) k = (omega (arith, div_fact a k), mod_fact a k)
div-mod-fact (negsuc a) k = (omega (arith, div_fact a k, mod_fact a k), omega (arith, mod_fact a k))

pub mod-small : (x : ℤ) (k : ℕ) → floor_mod x (suc k) < suc k
mod-small x k = (div-mod-fact x k).1

-- ---- an equation and an order
pub eq-in : (x y : ℤ) → x ≡ y → plus x + minus y ≡ plus y + minus x
eq-in x y e = subst (λ z. plus x + minus z ≡ plus z + minus x) e refl

abbrev pos_part : (a b : ℕ) → a ≡ b → pos a ≡ pos b
pos_part a b e = ap pos e

pub eq-out : (x y : ℤ) → plus x + minus y ≡ plus y + minus x → x ≡ y
eq-out (pos a) (pos b) h = pos_part a b (omega arith)
eq-out (pos a) (negsuc b) h = absurd (omega arith)
eq-out (negsuc a) (pos b) h = absurd (omega arith)
eq-out (negsuc a) (negsuc b) h = ap negsuc (eq a b h)
  where
    eq : (a b : ℕ) → 0 + suc b ≡ 0 + suc a → a ≡ b
    eq a b h = omega arith

pub le_in : (x y : ℤ) → x ≤ℤ y → plus x + minus y ≤ plus y + minus x
le_in (pos a) (pos b) h = omega (arith, leb→le a b h.le)
le_in (pos a) (negsuc b) h = absurd h.le
le_in (negsuc a) (pos b) h = omega arith
le_in (negsuc a) (negsuc b) h = omega (arith, leb→le b a h.le)

pub le_out : (x y : ℤ) → plus x + minus y ≤ plus y + minus x → x ≤ℤ y
le_out (pos a) (pos b) h = le_z_yes (le→leb a b (omega arith))
le_out (pos a) (negsuc b) h = absurd (omega arith)
le_out (negsuc a) (pos b) h = le_z_yes tt
le_out (negsuc a) (negsuc b) h = le_z_yes (le→leb b a (omega arith))

pub lt_in : (x y : ℤ) → x <ℤ y → plus x + minus y < plus y + minus x
lt_in (pos a) (pos b) h = omega (arith, ltb→lt a b h.lt)
lt_in (pos a) (negsuc b) h = absurd h.lt
lt_in (negsuc a) (pos b) h = omega arith
lt_in (negsuc a) (negsuc b) h = omega (arith, ltb→lt b a h.lt)

pub lt_out : (x y : ℤ) → plus x + minus y < plus y + minus x → x <ℤ y
lt_out (pos a) (pos b) h = lt_z_yes (lt→ltb a b (omega arith))
lt_out (pos a) (negsuc b) h = absurd (omega arith)
lt_out (negsuc a) (pos b) h = lt_z_yes tt
lt_out (negsuc a) (negsuc b) h = lt_z_yes (lt→ltb b a (omega arith))

-- the set to hand `omega`: it reads ℤ's equations and orders among the hypotheses, and proves them. The facts of the operations
-- that the goal or a hypothesis has are listed beside it, as `omega (ints, add-fact x y, div-mod-fact z 399)`.
pub ruleset ints = (arith, eq-in, eq-out, le_in, le_out, lt_in, lt_out)

-- ---- a magnitude
pub abs-in : (x : ℤ) {k : ℕ} → nat_abs x ≤ k → (plus x ≤ minus x + k) × (minus x ≤ plus x + k)
abs-in (pos n) h = (omega arith, omega arith)
abs-in (negsuc n) h = (omega arith, omega arith)

pub abs-out : (x : ℤ) {k : ℕ} → (plus x ≤ minus x + k) × (minus x ≤ plus x + k) → nat_abs x ≤ k
abs-out (pos n) h = omega arith
abs-out (negsuc n) h = omega arith

-- ---- all facts of a term at once. `read e` is the facts of every operation in e: a term of ℤ written with `+ᵗ`, `-ᵗ`, `*ᵗ` (by a numeral
-- on the left), `ᵗ*` (on the right), `/ᵗ` (the floor, by a numeral) and, for whatever else stands in it, `at`
infixl 6 ◌+ᵗ◌ ◌-ᵗ◌
infixl 7 ◌*ᵗ◌ ◌ᵗ*◌ ◌/ᵗ◌
pub data Term : Type 0 where
  at : ℤ → Term
  ◌+ᵗ◌ : Term → Term → Term
  ◌-ᵗ◌ : Term → Term → Term
  ◌*ᵗ◌ : ℕ → Term → Term
  ◌ᵗ*◌ : Term → ℕ → Term
  ◌/ᵗ◌ : Term → ℕ → Term

abbrev pub value : Term → ℤ
value (at x) = x
value (a +ᵗ b) = value a +ℤ value b
value (a -ᵗ b) = value a -ℤ value b
value (k *ᵗ a) = pos k *ℤ value a
value (a ᵗ* k) = value a *ℤ pos k
value (a /ᵗ d) = floor_div (value a) d

abbrev pub Quotient : ℤ → ℕ → Type 0
Quotient x zero = Unit {0}
Quotient x (suc k) = (plus x + suc k * minus (floor_div x (suc k)) ≡ minus x + suc k * plus (floor_div x (suc k)) + floor_mod x (suc k)) × (floor_mod x (suc k) < suc k)

quotient : (x : ℤ) (d : ℕ) → Quotient x d
quotient x zero = tt
quotient x (suc k) = div-mod-fact x k

abbrev pub Facts : Term → Type 0
Facts (at x) = Unit {0}
Facts (a +ᵗ b) = Facts a × Facts b × (plus (value a +ℤ value b) + (minus (value a) + minus (value b)) ≡ plus (value a) + plus (value b) + minus (value a +ℤ value b))
Facts (a -ᵗ b) = Facts a × Facts b × (plus (value a -ℤ value b) + (minus (value a) + plus (value b)) ≡ plus (value a) + minus (value b) + minus (value a -ℤ value b))
Facts (k *ᵗ a) = Facts a × ((plus (pos k *ℤ value a) ≡ k * plus (value a)) × (minus (pos k *ℤ value a) ≡ k * minus (value a)))
Facts (a ᵗ* k) = Facts a × ((plus (value a *ℤ pos k) ≡ k * plus (value a)) × (minus (value a *ℤ pos k) ≡ k * minus (value a)))
Facts (a /ᵗ d) = Facts a × Quotient (value a) d

pub read : (e : Term) → Facts e
read (at x) = tt
read (a +ᵗ b) = (read a, read b, add-fact (value a) (value b))
read (a -ᵗ b) = (read a, read b, diff-fact (value a) (value b))
read (k *ᵗ a) = (read a, mul-fact k (value a))
read (a ᵗ* k) = (read a, mul-fact' (value a) k)
read (a /ᵗ d) = (read a, quotient (value a) d)

-- ---- a test, both ways
pub by-test {ℓ} : (c : Bool) {G : Type ℓ} → (T c → G) → (T (not c) → G) → G
by-test true f g = f tt
by-test false f g = g tt

pub by_cond {ℓ} : {A : Type 0} (P : A → Type ℓ) (c : Bool) (x y : A) → (T c → P x) → (T (not c) → P y) → P (cond c x y)
by_cond P true x y f g = f tt
by_cond P false x y f g = g tt

-- a number that is not negative
pub natural : (x : ℤ) → pos 0 ≤ℤ x → x ≡ pos (plus x)
natural (pos n) h = refl
natural (negsuc n) h = absurd h.le
