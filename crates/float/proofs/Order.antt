-- The order of whole floats is that of the whole numbers; and what each outcome of a test in the code says of them. Assumes nothing.
use Rattle.std.proofs.Common.{◌≡◌, ℕ, zero, suc, ◌+◌, ◌*◌, ◌/◌, ◌<◌, ◌≤◌, Bool, true, false, ◌&&◌, ◌||◌, T, eqb, ltb, leb, ◌≢◌, ℤ, pos, negsuc, nat_abs, ◌≤ℤ◌, ◌<ℤ◌, sym, refl, ap, ◌∙◌, subst, ap₂, true≢false, le_refl, le_of_suc-le-suc, lt_of_le_of_lt, zero-lt-suc, div-lt_iff_lt-mul, add-mul, lt_of_mul-lt-mul_right, mul-lt-mul_of_pos_right, mul-pos, zero-add, zero-mul, mul_right_comm, arith, eqb→eq, ltb→lt, lt→ltb, nltb→le}
use native.Mathlib.Nat.{eq_of_mul-eq-mul_right}
use mathlib.Core.Bool.{beq}
use lib.Signed.{lt_z, le_z, le_z_yes, lt_z_yes, clash_ℤ}
use lib.Dec.{eqb_refl, not_T, leb-zero, leb-suc-zero, leb-suc-suc, eqb-zero-suc, eqb-suc-zero, eqb-suc-suc}
use lib.Ieee.{Float, nan, inf, fin, up, down, below, level, lt, eq, le}
use lib.Ieee.Fits.{down_pos, eq→eqb, and_l, and_r}
use lib.Ieee.Exact.{HasValue}
use lib.Ieee.Bits.{is_true, is_false}
use lib.Ieee.Scale.{finite}
use Rattle.integers.proofs.Machine.{true-T, false-T, le-true}
use Rattle.float.specs.Whole.{signed, IsWhole, trunc_z}
use Rattle.float.specs.Rounding.{abs_f}
use Rattle.float.proofs.Fractions.{same_test, nat_abs-signed}
use Rattle.float.proofs.Ops.{ltb-scale, over-left, over-right, strip}
use Rattle.float.proofs.Whole.{positive-value}

-- ---- the tests at a common divisor
eqb-scale : (a b c : ℕ) → 0 < c → eqb (a * c) (b * c) ≡ eqb a b
eqb-scale a b c C =
    same_test (eqb (a * c) (b * c)) (eqb a b)
    (λ t. eq→eqb (eq_of_mul-eq-mul_right c C a b (eqb→eq (a * c) (b * c) t)))
    (λ t. eq→eqb (ap (λ (i : ℕ). i * c) (eqb→eq a b t)))

below-scale : (s t : Bool) (a b c : ℕ) → 0 < c → below s (a * c) t (b * c) ≡ below s a t b
below-scale false false a b c C = ltb-scale a b c C
below-scale false true a b c C = refl
below-scale true false a b c C = ap₂ ltb (sym (zero-mul c)) (sym (add-mul a b c)) ∙ ltb-scale 0 (a + b) c C
below-scale true true a b c C = ltb-scale b a c C

level-scale : (s t : Bool) (a b c : ℕ) → 0 < c → level s (a * c) t (b * c) ≡ level s a t b
level-scale s t a b c C =
    ap₂ (λ (i j : Bool). i && (beq s t || j)) (eqb-scale a b c C) (ap (eqb (a * c)) (sym (zero-mul c)) ∙ eqb-scale a 0 c C)

-- ---- the order of n and -n
below-signed : (s t : Bool) (a b : ℕ) → below s a t b ≡ lt_z (signed s a) (signed t b)
below-signed false false a b = refl
below-signed false true a zero = sym (same_test (ltb a 0) false (λ h. absurd (none a (ltb→lt a 0 h))) (λ h. absurd h))
  where
    none : (n : ℕ) → n < 0 → ⊥
    none n k = omega arith
below-signed false true a (suc b) = refl
below-signed true false zero b = ap (ltb 0) (zero-add b)
below-signed true false (suc a) b = same_test (ltb 0 (suc a + b)) true (λ h. tt) (λ h. lt→ltb 0 (suc a + b) (some a b))
  where
    some : (m n : ℕ) → 0 < suc m + n
    some m n = omega arith
below-signed true true zero zero = refl
below-signed true true zero (suc b) = same_test (ltb (suc b) 0) false (λ h. none b (ltb→lt (suc b) 0 h)) (λ h. absurd h)
  where
    none : (n : ℕ) → suc n < 0 → ⊥
    none n k = omega arith
below-signed true true (suc a) zero = same_test (ltb 0 (suc a)) true (λ h. tt) (λ h. lt→ltb 0 (suc a) (zero-lt-suc a))
below-signed true true (suc a) (suc b) = leb-suc-suc (suc b) a

lt-is : (x y : Float) (s t : Bool) (a b : ℕ) → HasValue x s a 1 → HasValue y t b 1 → lt x y ≡ below s a t b
unfolding lt
lt-is nan y s t a b p q = absurd p
lt-is (inf u) y s t a b p q = absurd p
lt-is (fin u m e) nan s t a b p q = absurd q
lt-is (fin u m e) (inf v) s t a b p q = absurd q
lt-is (fin u m e) (fin v n d) s t a b p q =
    let c = down e * down d in
    ap₂ (λ (i j : Bool). below i (m * up e * down d) j (n * up d * down e)) p.0 q.0
    ∙ ap₂ (λ (i j : ℕ). below s i t j) (over-left m e a d p.1) (over-right n d b e q.1)
    ∙ below-scale s t a b c (mul-pos (down_pos e) (down_pos d))

pub lt-whole : {x y : Float} {z w : ℤ} → IsWhole x z → IsWhole y w → lt x y ≡ lt_z z w
lt-whole {x} {y} u v =
    lt-is x y u.sign v.sign u.size v.size u.value v.value ∙ below-signed u.sign v.sign u.size v.size ∙ ap₂ lt_z u.is v.is

eq_is : (x y : Float) (s t : Bool) (a b : ℕ) → HasValue x s a 1 → HasValue y t b 1 → eq x y ≡ level s a t b
unfolding eq
eq_is nan y s t a b p q = absurd p
eq_is (inf u) y s t a b p q = absurd p
eq_is (fin u m e) nan s t a b p q = absurd q
eq_is (fin u m e) (inf v) s t a b p q = absurd q
eq_is (fin u m e) (fin v n d) s t a b p q =
    let c = down e * down d in
    ap₂ (λ (i j : Bool). level i (m * up e * down d) j (n * up d * down e)) p.0 q.0
    ∙ ap₂ (λ (i j : ℕ). level s i t j) (over-left m e a d p.1) (over-right n d b e q.1)
    ∙ level-scale s t a b c (mul-pos (down_pos e) (down_pos d))

-- ---- equality as a test on integers
abbrev pub eq_z : ℤ → ℤ → Bool
eq_z (pos a) (pos b) = eqb a b
eq_z (pos a) (negsuc b) = false
eq_z (negsuc a) (pos b) = false
eq_z (negsuc a) (negsuc b) = eqb a b

pub eq_z→eq : (z w : ℤ) → T (eq_z z w) → z ≡ w
eq_z→eq (pos a) (pos b) t = ap pos (eqb→eq a b t)
eq_z→eq (pos a) (negsuc b) t = absurd t
eq_z→eq (negsuc a) (pos b) t = absurd t
eq_z→eq (negsuc a) (negsuc b) t = ap negsuc (eqb→eq a b t)

and-true : (a : Bool) → (a && true) ≡ a
and-true true = refl
and-true false = refl

-- with unlike signs, only 0 and 0 are level
unlike-level : (a b : ℕ) → (eqb a b && eqb a 0) ≡ (eqb a 0 && eqb b 0)
unlike-level zero zero = refl
unlike-level zero (suc b) = ap₂ (λ (i j : Bool). i && j) (eqb-zero-suc b) refl ∙ sym (ap (λ (i : Bool). true && i) (eqb-suc-zero b))
unlike-level (suc a) zero = ap₂ (λ (i j : Bool). i && j) (eqb-suc-zero a) (eqb-suc-zero a) ∙ sym (ap (λ (i : Bool). i && true) (eqb-suc-zero a))
unlike-level (suc a) (suc b) =
    same_test (eqb (suc a) (suc b) && eqb (suc a) 0) (eqb (suc a) 0 && eqb (suc b) 0) (λ h. absurd (no a (and_r (eqb (suc a) (suc b)) (eqb (suc a) 0) h))) (λ h. absurd (no a (and_l (eqb (suc a) 0) (eqb (suc b) 0) h)))
  where
    no : (n : ℕ) → T (eqb (suc n) 0) → ⊥
    no n h = subst T (eqb-suc-zero n) h

level-signed : (s t : Bool) (a b : ℕ) → level s a t b ≡ eq_z (signed s a) (signed t b)
level-signed false false a b = and-true (eqb a b)
level-signed true true zero zero = refl
level-signed true true zero (suc b) = and-true (eqb zero (suc b)) ∙ eqb-zero-suc b
level-signed true true (suc a) zero = and-true (eqb (suc a) 0) ∙ eqb-suc-zero a
level-signed true true (suc a) (suc b) = and-true (eqb (suc a) (suc b)) ∙ eqb-suc-suc a b
level-signed false true a zero = unlike-level a 0 ∙ and-true (eqb a 0)
level-signed false true a (suc b) = unlike-level a (suc b) ∙ ap (λ (i : Bool). eqb a 0 && i) (eqb-suc-zero b) ∙ and-false (eqb a 0)
  where
    and-false : (i : Bool) → (i && false) ≡ false
    and-false true = refl
    and-false false = refl
level-signed true false zero b = and-true (eqb 0 b)
level-signed true false (suc a) b = unlike-level (suc a) b ∙ ap (λ (i : Bool). i && eqb b 0) (eqb-suc-zero a)

pub eq-whole : {x y : Float} {z w : ℤ} → IsWhole x z → IsWhole y w → eq x y ≡ eq_z z w
eq-whole {x} {y} u v =
    eq_is x y u.sign v.sign u.size v.size u.value v.value ∙ level-signed u.sign v.sign u.size v.size ∙ ap₂ eq_z u.is v.is

-- ---- no larger
or-leb : (a b : ℕ) → (ltb a b || eqb a b) ≡ leb a b
or-leb zero zero = refl
or-leb zero (suc b) = ap₂ (λ (i j : Bool). i || j) (leb-suc-suc 0 b ∙ leb-zero b) refl ∙ sym (leb-zero (suc b))
or-leb (suc a) zero = ap₂ (λ (i j : Bool). i || j) (leb-suc-zero (suc a)) (eqb-suc-zero a) ∙ sym (leb-suc-zero a)
or-leb (suc a) (suc b) = ap₂ (λ (i j : Bool). i || j) (leb-suc-suc (suc a) b) (eqb-suc-suc a b) ∙ or-leb a b ∙ sym (leb-suc-suc a b)

flip-eqb : (a b : ℕ) → eqb a b ≡ eqb b a
flip-eqb a b = same_test (eqb a b) (eqb b a) (λ h. eq→eqb (sym (eqb→eq a b h))) (λ h. eq→eqb (sym (eqb→eq b a h)))

or-le_z : (z w : ℤ) → (lt_z z w || eq_z z w) ≡ le_z z w
or-le_z (pos a) (pos b) = or-leb a b
or-le_z (pos a) (negsuc b) = refl
or-le_z (negsuc a) (pos b) = refl
or-le_z (negsuc a) (negsuc b) = ap (λ (i : Bool). ltb b a || i) (flip-eqb a b) ∙ or-leb b a

pub le-whole : {x y : Float} {z w : ℤ} → IsWhole x z → IsWhole y w → le x y ≡ le_z z w
unfolding le
le-whole {x} {y} {z} {w} u v = ap₂ (λ (i j : Bool). i || j) (lt-whole u v) (eq-whole u v) ∙ or-le_z z w

eq_z-same : (z w : ℤ) → z ≡ w → eq_z z w ≡ true
eq_z-same z w q = ap (λ (i : ℤ). eq_z i w) q ∙ own w
  where
    own : (w : ℤ) → eq_z w w ≡ true
    own (pos n) = is_true (eqb n n) (eqb_refl n)
    own (negsuc n) = is_true (eqb n n) (eqb_refl n)

-- ---- a test that passed, and one that failed
module _ {x y : Float} {z w : ℤ} (u : IsWhole x z) (v : IsWhole y w) where
  pub le_yes : le x y ≡ true → z ≤ℤ w
  le_yes e = le-true (sym (le-whole u v) ∙ e)

  pub eq_yes : eq x y ≡ true → z ≡ w
  eq_yes e = eq_z→eq z w (true-T (eq_z z w) (sym (eq-whole u v) ∙ e))

  pub eq_no : eq x y ≡ false → z ≢ w
  eq_no e q = true≢false (sym (eq_z-same z w q) ∙ sym (eq-whole u v) ∙ e)

  -- ---- and the outcome, from the order of the whole numbers
  pub lt-holds : z <ℤ w → lt x y ≡ true
  lt-holds h = lt-whole u v ∙ is_true (lt_z z w) h.lt

  pub lt-fails : w ≤ℤ z → lt x y ≡ false
  lt-fails h = lt-whole u v ∙ is_false (lt_z z w) (not_T (lt_z z w) (λ t. clash_ℤ (lt_z_yes t) h))

  pub le-holds : z ≤ℤ w → le x y ≡ true
  le-holds h = le-whole u v ∙ is_true (le_z z w) h.le

  pub le-fails : w <ℤ z → le x y ≡ false
  le-fails h = le-whole u v ∙ is_false (le_z z w) (not_T (le_z z w) (λ t. clash_ℤ h (le_z_yes t)))

  pub eq-holds : z ≡ w → eq x y ≡ true
  eq-holds q = eq-whole u v ∙ eq_z-same z w q

at_most : (X D Y E n : ℕ) → 0 < D → 0 < E → Y * 1 ≡ n * E → ltb (Y * D) (X * E) ≡ false → X / D ≤ n
at_most X D Y E n DP EP h t =
    let l : X * E ≤ Y * D = nltb→le (Y * D) (X * E) (false-T (ltb (Y * D) (X * E)) t) in
    let k : Y * D ≡ n * D * E = ap (λ (i : ℕ). i * D) (strip Y n E h) ∙ mul_right_comm n E D in
    le_of_suc-le-suc ((div-lt_iff_lt-mul DP).1 (lt_of_mul-lt-mul_right E (over n D E (X * E) EP DP (subst (λ (i : ℕ). X * E ≤ i) k l))))
  where
    over : (n D E a : ℕ) → 0 < E → 0 < D → a ≤ n * D * E → a < suc n * D * E
    over n D E a e d l = lt_of_le_of_lt l (mul-lt-mul_of_pos_right (mul-lt-mul_of_pos_right (le_refl (suc n)) d) e)

bounded : (x y : Float) (n : ℕ) → HasValue y false n 1 → T (finite x) → lt y (abs_f x) ≡ false → nat_abs (trunc_z x) ≤ n
unfolding lt abs_f trunc_z
bounded nan y n v F t = absurd F
bounded (inf s) y n v F t = absurd F
bounded (fin s m e) nan n v F t = absurd v
bounded (fin s m e) (inf u) n v F t = absurd v
bounded (fin s m e) (fin true k d) n v F t = absurd (true≢false v.0)
bounded (fin s m e) (fin false k d) n v F t =
    subst (λ (i : ℕ). i ≤ n) (sym (nat_abs-signed s (m * up e / down e))) (at_most (m * up e) (down e) (k * up d) (down d) n (down_pos e) (down_pos d) v.1 t)

-- ---- a bound on the magnitude of any finite float bounds its whole part: `|x| > y` failed
pub trunc-bounded : (x : Float) {y : Float} {n : ℕ} → 0 < n → IsWhole y (pos n) → T (finite x) → lt y (abs_f x) ≡ false → nat_abs (trunc_z x) ≤ n
trunc-bounded x {y} {n} N w F t = bounded x y n (positive-value N w) F t
