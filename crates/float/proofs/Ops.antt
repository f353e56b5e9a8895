-- The operations at two values whose sizes are whole numbers: each is `round` of the whole numbers' own result. Assumes nothing.
use Rattle.std.proofs.Common.{◌≡◌, ℕ, ◌+◌, ◌-◌, ◌*◌, ◌/◌, ◌%◌, ◌<◌, Bool, cond, not, ◌&&◌, T, eqb, ltb, ℤ, sym, ap, ◌∙◌, subst, ap₂, lt_irrefl, mod-lt, zero-lt-suc, mul_assoc, mul_comm, add-mul, lt_of_mul-lt-mul_right, mul-lt-mul_of_pos_right, mul-pos, div-add-mod', zero-mul, mul-one, mul_left_comm, eqb→eq, ltb→lt, lt→ltb}
use native.Mathlib.Nat.{mul-mul-mul_comm, mul-sub}
use mathlib.Core.Bool.{beq}
use lib.Dec.{not_T}
use lib.Arith.{digits_mod}
use lib.Ieee.{Float, nan, inf, fin, Format, unlike, up, down, round, sum, add, mul, div, rem}
use lib.Ieee.Bits.{cond_no}
use lib.Ieee.Fits.{down_pos}
use lib.Ieee.Exact.{HasValue}
use lib.Ieee.Scale.{round_same}
use Rattle.float.proofs.Fractions.{same_test}

-- ---- small things
pub ltb-scale : (a b c : ℕ) → 0 < c → ltb (a * c) (b * c) ≡ ltb a b
ltb-scale a b c C =
    same_test (ltb (a * c) (b * c)) (ltb a b)
    (λ t. lt→ltb a b (lt_of_mul-lt-mul_right c (ltb→lt (a * c) (b * c) t)))
    (λ t. lt→ltb (a * c) (b * c) (mul-lt-mul_of_pos_right (ltb→lt a b t) C))

pub mod-scale : (a b c : ℕ) → 0 < b → 0 < c → a * c % (b * c) ≡ a % b * c
mod-scale a b c B C =
    ap (λ (x : ℕ). x % (b * c)) (ap (λ (x : ℕ). x * c) (sym (div-add-mod' a b)) ∙ add-mul (a / b * b) (a % b) c ∙ ap (λ (x : ℕ). x + a % b * c) (mul_assoc (a / b) b c))
    ∙ digits_mod (a / b) (mul-lt-mul_of_pos_right (mod-lt a B) C)

pub sub-scale : (a b c : ℕ) → (a - b) * c ≡ a * c - b * c
sub-scale a b c = mul_comm (a - b) c ∙ mul-sub c a b ∙ ap₂ (λ (x y : ℕ). x - y) (mul_comm c a) (mul_comm c b)

-- the value, with no factor 1
pub strip : (x a d : ℕ) → x * 1 ≡ a * d → x ≡ a * d
strip x a d h = sym (mul-one x) ∙ h

-- two values over one divisor
pub over-left : (m : ℕ) (e : ℤ) (a : ℕ) (d : ℤ) → m * up e * 1 ≡ a * down e → m * up e * down d ≡ a * (down e * down d)
over-left m e a d h = ap (λ (i : ℕ). i * down d) (strip (m * up e) a (down e) h) ∙ mul_assoc a (down e) (down d)

pub over-right : (n : ℕ) (d : ℤ) (b : ℕ) (e : ℤ) → n * up d * 1 ≡ b * down d → n * up d * down e ≡ b * (down e * down d)
over-right n d b e h = over-left n d b e h ∙ ap (λ (i : ℕ). b * i) (mul_comm (down d) (down e))

-- a divisor that is not 0 has an m that is not 0
pub not_null : (m : ℕ) (e : ℤ) (b : ℕ) → 0 < b → m * up e * 1 ≡ b * down e → T (not (eqb m 0))
not_null m e b B h =
    not_T (eqb m 0)
    (λ t. lt_irrefl 0 (subst (λ (x : ℕ). 0 < x) (sym h ∙ ap (λ (y : ℕ). y * up e * 1) (eqb→eq m 0 t) ∙ ap (λ (y : ℕ). y * 1) (zero-mul (up e)) ∙ zero-mul 1) (mul-pos B (down_pos e))))

-- ---- the operations
pub mul_is : (f : Format) (x y : Float) (s t : Bool) (a b : ℕ) → HasValue x s a 1 → HasValue y t b 1 → mul f x y ≡ round f (unlike s t) (a * b) 1
unfolding mul
mul_is f nan y s t a b p q = absurd p
mul_is f (inf u) y s t a b p q = absurd p
mul_is f (fin u m e) nan s t a b p q = absurd q
mul_is f (fin u m e) (inf v) s t a b p q = absurd q
mul_is f (fin u m e) (fin v n d) s t a b p q =
    ap₂ (λ (i j : Bool). round f (unlike i j) (m * up e * (n * up d)) (down e * down d)) p.0 q.0
    ∙ round_same f (unlike s t) (m * up e * (n * up d)) (down e * down d) (a * b) 1 (mul-pos (down_pos e) (down_pos d)) (zero-lt-suc 0)
    (mul-one (m * up e * (n * up d)) ∙ ap₂ (λ (i j : ℕ). i * j) (strip (m * up e) a (down e) p.1) (strip (n * up d) b (down d) q.1) ∙ mul-mul-mul_comm a (down e) b (down d))

pub div_is : (f : Format) (x y : Float) (s t : Bool) (a b : ℕ) → 0 < b → HasValue x s a 1 → HasValue y t b 1 → div f x y ≡ round f (unlike s t) a b
unfolding div
div_is f nan y s t a b B p q = absurd p
div_is f (inf u) y s t a b B p q = absurd p
div_is f (fin u m e) nan s t a b B p q = absurd q
div_is f (fin u m e) (inf v) s t a b B p q = absurd q
div_is f (fin u m e) (fin v n d) s t a b B p q =
    let X : m * up e ≡ a * down e = strip (m * up e) a (down e) p.1 in
    let Y : n * up d ≡ b * down d = strip (n * up d) b (down d) q.1 in
    let C : 0 < n * up d * down e = mul-pos (subst (λ (z : ℕ). 0 < z) (sym Y) (mul-pos B (down_pos d))) (down_pos e) in
    let E : a * down e * down d * b ≡ a * (b * down d * down e) = simp (mul_assoc, mul_comm, mul_left_comm) in
    cond_no (eqb n 0) (cond (eqb m 0) nan (inf (unlike u v))) (round f (unlike u v) (m * up e * down d) (n * up d * down e)) (not_null n d b B q.1)
    ∙ ap₂ (λ (i j : Bool). round f (unlike i j) (m * up e * down d) (n * up d * down e)) p.0 q.0
    ∙ round_same f (unlike s t) (m * up e * down d) (n * up d * down e) a b C B
    (ap (λ (i : ℕ). i * down d * b) X ∙ E ∙ ap (λ (j : ℕ). a * (j * down e)) (sym Y))

pub rem_is : (f : Format) (x y : Float) (s t : Bool) (a b : ℕ) → 0 < b → HasValue x s a 1 → HasValue y t b 1 → rem f x y ≡ round f s (a % b) 1
unfolding rem
rem_is f nan y s t a b B p q = absurd p
rem_is f (inf u) y s t a b B p q = absurd p
rem_is f (fin u m e) nan s t a b B p q = absurd q
rem_is f (fin u m e) (inf v) s t a b B p q = absurd q
rem_is f (fin u m e) (fin v n d) s t a b B p q =
    let c = down e * down d in
    let C : 0 < c = mul-pos (down_pos e) (down_pos d) in
    let X : m * up e * down d ≡ a * c = over-left m e a d p.1 in
    let Y : n * up d * down e ≡ b * c = over-right n d b e q.1 in
    let r = m * up e * down d % (n * up d * down e) in
    cond_no (eqb n 0) nan (round f u r c) (not_null n d b B q.1)
    ∙ ap (λ (i : Bool). round f i r c) p.0
    ∙ round_same f s r c (a % b) 1 C (zero-lt-suc 0) (mul-one r ∙ ap₂ (λ (i j : ℕ). i % j) X Y ∙ mod-scale a b c B C)

-- a sum over a common divisor
sum-scale : (f : Format) (s t : Bool) (a b c : ℕ) → 0 < c → sum f s (a * c) t (b * c) c ≡ sum f s a t b 1
unfolding sum
sum-scale f s t a b c C =
    let O : 0 < 1 = zero-lt-suc 0 in
    let one : (x y : ℕ) → x ≡ y * c → x * 1 ≡ y * c = λ x y h. mul-one x ∙ h in
    let p : round f s (a * c + b * c) c ≡ round f s (a + b) 1 = round_same f s (a * c + b * c) c (a + b) 1 C O (one (a * c + b * c) (a + b) (sym (add-mul a b c))) in
    let q : round f t (b * c - a * c) c ≡ round f t (b - a) 1 = round_same f t (b * c - a * c) c (b - a) 1 C O (one (b * c - a * c) (b - a) (sym (sub-scale b a c))) in
    let r : (i : Bool) → round f i (a * c - b * c) c ≡ round f i (a - b) 1 = λ i. round_same f i (a * c - b * c) c (a - b) 1 C O (one (a * c - b * c) (a - b) (sym (sub-scale a b c))) in
    ap₂ (λ (i j : Bool). cond (beq s t) (round f s (a * c + b * c) c) (cond i (round f t (b * c - a * c) c) (round f (s && j) (a * c - b * c) c))) (ltb-scale a b c C) (ltb-scale b a c C)
    ∙ ap₂ (λ (x y : Float). cond (beq s t) x (cond (ltb a b) y (round f (s && ltb b a) (a * c - b * c) c))) p q
    ∙ ap (λ (z : Float). cond (beq s t) (round f s (a + b) 1) (cond (ltb a b) (round f t (b - a) 1) z)) (r (s && ltb b a))

pub add_is : (f : Format) (x y : Float) (s t : Bool) (a b : ℕ) → HasValue x s a 1 → HasValue y t b 1 → add f x y ≡ sum f s a t b 1
unfolding add
add_is f nan y s t a b p q = absurd p
add_is f (inf u) y s t a b p q = absurd p
add_is f (fin u m e) nan s t a b p q = absurd q
add_is f (fin u m e) (inf v) s t a b p q = absurd q
add_is f (fin u m e) (fin v n d) s t a b p q =
    let c = down e * down d in
    let C : 0 < c = mul-pos (down_pos e) (down_pos d) in
    let X : m * up e * down d ≡ a * c = over-left m e a d p.1 in
    let Y : n * up d * down e ≡ b * c = over-right n d b e q.1 in
    ap₂ (λ (i j : Bool). sum f i (m * up e * down d) j (n * up d * down e) c) p.0 q.0
    ∙ ap₂ (λ (i j : ℕ). sum f s i t j c) X Y
    ∙ sum-scale f s t a b c C
