-- Whole numbers in a float: an integer `as` a float, the sign, sums, differences and products, each exact to 2 ^ 53 in magnitude; one float for one whole
-- number, but for 0, which is two. Assumes nothing.
use Rattle.std.proofs.Common.{◌≡◌, ℕ, zero, suc, ◌+◌, ◌-◌, ◌*◌, ◌^◌, ◌<◌, ◌≤◌, Bool, true, false, cond, not, ◌&&◌, T, eqb, ltb, ◌≢◌, ℤ, pos, negsuc, ◌+ℤ◌, ◌-ℤ◌, ◌*ℤ◌, neg_ℤ, nat_abs, sym, refl, ap, ◌∙◌, subst, ap₂, add-zero, le_of_lt, lt_irrefl, zero-lt-suc, mul-pos, mul-zero, zero-mul, mul-one, arith, eqb→eq, ltb→lt, lt→ltb, nltb→le, T_not}
use native.Mathlib.Nat.{sub-zero}
use lib.IntN.{neg_ℤ-neg_ℤ, neg_ℤ-+ℤ, +ℤ_comm, pos-ne-negsuc}
use lib.Dec.{not_T}
use lib.Arith.{le→nltb}
use lib.Ieee.{Float, nan, inf, fin, Format, binary64, prec, unlike, up, down, round, sum, neg, add, sub, mul, of_int, fits}
use lib.Ieee.Bits.{cond_no, is_true}
use lib.Ieee.Exact.{HasValue}
use lib.Ieee.Fits.{down_pos, up_pos, eq→eqb, of_int-fits}
use lib.Ieee.Back.{round_whole, whole_unique}
use Rattle.float.specs.Whole.{signed, IsWhole, plain}
use Rattle.float.proofs.Ops.{mul_is, add_is}
use Rattle.float.proofs.Fractions.{nat_abs-signed}

pub size_is : {x : Float} {z : ℤ} (w : IsWhole x z) → w.size ≡ nat_abs z
size_is w = sym (nat_abs-signed w.sign w.size) ∙ ap nat_abs w.is

-- a whole number above 0 has the sign false
above_zero : (s : Bool) (n d : ℕ) → 0 < d → signed s n ≡ pos d → s ≡ false
above_zero false n d D e = refl
above_zero true zero d D e = absurd (lt_irrefl 0 (subst (λ (i : ℕ). 0 < i) (sym (ap nat_abs e)) D))
above_zero true (suc n) d D e = absurd (pos-ne-negsuc d n (sym e))

pub positive-value : {y : Float} {d : ℕ} → 0 < d → IsWhole y (pos d) → HasValue y false d 1
positive-value {y} {d} D w = subst (λ (n : ℕ). HasValue y false n 1) (size_is w) (subst (λ (s : Bool). HasValue y s w.size 1) (above_zero w.sign w.size d D w.is) w.value)

cond_yes : {X : Type 0} (b : Bool) (x y : X) → T b → cond b x y ≡ x
cond_yes true x y t = refl
cond_yes false x y t = absurd t

-- ---- a rounded whole number
pub round-is-whole : (f : Format) (s : Bool) (n : ℕ) (z : ℤ) → signed s n ≡ z → nat_abs z ≤ 2 ^ prec f → IsWhole (round f s n 1) z
round-is-whole f s n z e h = record { sign = s; size = n; value = round_whole f s n (subst (λ (i : ℕ). i ≤ 2 ^ prec f) (sym (ap nat_abs e) ∙ nat_abs-signed s n) h); is = e }

pub of_int-whole : (f : Format) (z : ℤ) → nat_abs z ≤ 2 ^ prec f → IsWhole (of_int f z) z
unfolding of_int
of_int-whole f (pos n) h = round-is-whole f false n (pos n) refl h
of_int-whole f (negsuc n) h = round-is-whole f true (suc n) (negsuc n) refl h

-- ---- the sign
pub neg_value : (x : Float) (s : Bool) (a c : ℕ) → HasValue x s a c → HasValue (neg x) (not s) a c
unfolding neg
neg_value nan s a c v = v
neg_value (inf t) s a c v = v
neg_value (fin t m e) s a c v = (ap not v.0, v.1)

signed-not : (s : Bool) (n : ℕ) → signed (not s) n ≡ neg_ℤ (signed s n)
signed-not false n = refl
signed-not true n = sym (neg_ℤ-neg_ℤ (pos n))

pub neg-whole : {x : Float} {z : ℤ} → IsWhole x z → IsWhole (neg x) (neg_ℤ z)
neg-whole {x} {z} w = record { sign = not w.sign; size = w.size; value = neg_value x w.sign w.size 1 w.value; is = signed-not w.sign w.size ∙ ap neg_ℤ w.is }

-- ---- products
signed_mul : (s t : Bool) (a b : ℕ) → signed (unlike s t) (a * b) ≡ signed s a *ℤ signed t b
signed_mul false false a b = refl
signed_mul false true a zero = ap (λ (i : ℕ). neg_ℤ (pos i)) (mul-zero a) ∙ ap pos (sym (mul-zero a))
signed_mul false true a (suc b) = refl
signed_mul true false zero b = ap (λ (i : ℕ). neg_ℤ (pos i)) (zero-mul b) ∙ ap pos (sym (zero-mul b))
signed_mul true false (suc a) b = refl
signed_mul true true zero zero = refl
signed_mul true true zero (suc b) = ap pos (zero-mul (suc b)) ∙ ap (λ (i : ℕ). neg_ℤ (pos i)) (sym (zero-mul (suc b)))
signed_mul true true (suc a) zero = ap pos (mul-zero (suc a)) ∙ ap (λ (i : ℕ). neg_ℤ (pos i)) (sym (mul-zero (suc a)))
signed_mul true true (suc a) (suc b) = refl

pub mul-whole : (f : Format) {x y : Float} {z w : ℤ} → IsWhole x z → IsWhole y w → nat_abs (z *ℤ w) ≤ 2 ^ prec f → IsWhole (mul f x y) (z *ℤ w)
mul-whole f {x} {y} {z} {w} u v h =
    subst (λ (r : Float). IsWhole r (z *ℤ w)) (sym (mul_is f x y u.sign v.sign u.size v.size u.value v.value))
    (round-is-whole f (unlike u.sign v.sign) (u.size * v.size) (z *ℤ w) (signed_mul u.sign v.sign u.size v.size ∙ ap₂ (λ (i j : ℤ). i *ℤ j) u.is v.is) h)

-- ---- sums
pub minus-above : (a b : ℕ) → b ≤ a → pos (a - b) ≡ pos a +ℤ neg_ℤ (pos b)
minus-above a zero h = ap pos (sub-zero a ∙ sym (add-zero a))
minus-above a (suc b) h = sym (cond_no (ltb a (suc b)) (negsuc (suc b - suc a)) (pos (a - suc b)) (le→nltb a (suc b) h))

pub minus-below : (a b : ℕ) → a < b → neg_ℤ (pos (b - a)) ≡ pos a +ℤ neg_ℤ (pos b)
minus-below a zero h = absurd (none h)
  where
    none : a < 0 → ⊥
    none k = omega arith
minus-below a (suc b) h =
    ap (λ (i : ℕ). neg_ℤ (pos i)) (one_more a b h) ∙ sym (cond_yes (ltb a (suc b)) (negsuc (suc b - suc a)) (pos (a - suc b)) (lt→ltb a (suc b) h))
  where
    one_more : (i j : ℕ) → i < suc j → suc j - i ≡ suc (suc j - suc i)
    one_more i j k = omega arith

-- r is the rounded whole number z, and is -0 only where N holds
pub record Rounded (f : Format) (r : Float) (z : ℤ) (N : Type 0) : Type 0 where
  pub sg : Bool
  pub sz : ℕ
  pub same : r ≡ round f sg sz 1
  pub total : signed sg sz ≡ z
  pub zeros : sz ≡ 0 → T sg → N

gap : (a b : ℕ) → a < b → b - a ≡ 0 → ⊥
gap a b h e = omega arith

pub sum-cases : (f : Format) (s : Bool) (a : ℕ) (t : Bool) (b : ℕ) → Rounded f (sum f s a t b 1) (signed s a +ℤ signed t b) ((T s × (a ≡ 0)) × (T t × (b ≡ 0)))
unfolding sum
sum-cases f false a false b = record { sg = false; sz = a + b; same = refl; total = refl; zeros = λ e n. absurd n }
sum-cases f true a true b = record { sg = true; sz = a + b; same = refl; total = neg_ℤ-+ℤ (pos a) (pos b); zeros = λ e n. ((tt, first a b e), (tt, second a b e)) }
  where
    first : (i j : ℕ) → i + j ≡ 0 → i ≡ 0
    first i j e = omega arith

    second : (i j : ℕ) → i + j ≡ 0 → j ≡ 0
    second i j e = omega arith
sum-cases f false a true b = go (ltb a b) (ltb→lt a b) (nltb→le a b)
  where
    go : (c : Bool) → (T c → a < b) → (T (not c) → b ≤ a) → Rounded f (cond c (round f true (b - a) 1) (round f false (a - b) 1)) (pos a +ℤ neg_ℤ (pos b)) ((⊥ × (a ≡ 0)) × (Unit {0} × (b ≡ 0)))
    go true l g = record { sg = true; sz = b - a; same = refl; total = minus-below a b (l tt); zeros = λ e n. absurd (gap a b (l tt) e) }
    go false l g = record { sg = false; sz = a - b; same = refl; total = minus-above a b (g tt); zeros = λ e n. absurd n }
sum-cases f true a false b = go (ltb a b) (ltb→lt a b) (nltb→le a b) (ltb b a) (ltb→lt b a) (nltb→le b a)
  where
    go : (c : Bool) → (T c → a < b) → (T (not c) → b ≤ a) → (d : Bool) → (T d → b < a) → (T (not d) → a ≤ b)
        → Rounded f (cond c (round f false (b - a) 1) (round f d (a - b) 1)) (neg_ℤ (pos a) +ℤ pos b) ((Unit {0} × (a ≡ 0)) × (⊥ × (b ≡ 0)))
    go true l g d l' g' = record { sg = false; sz = b - a; same = refl; total = minus-above b a (le_of_lt (l tt)) ∙ +ℤ_comm (pos b) (neg_ℤ (pos a)); zeros = λ e n. absurd n }
    go false l g true l' g' = record { sg = true; sz = a - b; same = refl; total = minus-below b a (l' tt) ∙ +ℤ_comm (pos b) (neg_ℤ (pos a)); zeros = λ e n. absurd (gap b a (l' tt) e) }
    go false l g false l' g' =
        record { sg = false; sz = a - b; same = refl; total = ap pos (level (g tt) (g' tt)) ∙ minus-above b a (g' tt) ∙ +ℤ_comm (pos b) (neg_ℤ (pos a)); zeros = λ e n. absurd n }
      where
        level : b ≤ a → a ≤ b → a - b ≡ b - a
        level p q = omega arith

pub add-cases : (f : Format) {x y : Float} {z w : ℤ} (u : IsWhole x z) (v : IsWhole y w) → Rounded f (add f x y) (z +ℤ w) ((T u.sign × (u.size ≡ 0)) × (T v.sign × (v.size ≡ 0)))
add-cases f {x} {y} {z} {w} u v =
    let r = sum-cases f u.sign u.size v.sign v.size in
    record { sg = r.sg; sz = r.sz; same = add_is f x y u.sign v.sign u.size v.size u.value v.value ∙ r.same; total = r.total ∙ ap₂ (λ (i j : ℤ). i +ℤ j) u.is v.is; zeros = r.zeros }

pub rounded-whole : {f : Format} {r : Float} {z : ℤ} {N : Type 0} → Rounded f r z N → nat_abs z ≤ 2 ^ prec f → IsWhole r z
rounded-whole {f} {r} {z} c h = subst (λ (i : Float). IsWhole i z) (sym c.same) (round-is-whole f c.sg c.sz z c.total h)

pub add-whole : (f : Format) {x y : Float} {z w : ℤ} → IsWhole x z → IsWhole y w → nat_abs (z +ℤ w) ≤ 2 ^ prec f → IsWhole (add f x y) (z +ℤ w)
add-whole f u v h = rounded-whole (add-cases f u v) h

pub sub-whole : (f : Format) {x y : Float} {z w : ℤ} → IsWhole x z → IsWhole y w → nat_abs (z -ℤ w) ≤ 2 ^ prec f → IsWhole (sub f x y) (z -ℤ w)
unfolding sub
sub-whole f u v h = add-whole f u (neg-whole v) h

-- ---- -0
pub zero-factor : (n d : ℕ) → 0 < d → n * d ≡ 0 → n ≡ 0
zero-factor zero d D e = refl
zero-factor (suc n) d D e = absurd (lt_irrefl 0 (subst (λ (i : ℕ). 0 < i) e (mul-pos (zero-lt-suc n) D)))

-- a whole number that has no minus, or is not 0
pub plain_value : (x : Float) (s : Bool) (n : ℕ) → HasValue x s n 1 → (n ≡ 0 → T s → ⊥) → T (plain x)
plain_value nan s n v h = tt
plain_value (inf t) s n v h = tt
plain_value (fin t m e) s n v h = go t m v.0 v.1
  where
    go : (t : Bool) (m : ℕ) → t ≡ s → m * up e * 1 ≡ n * down e → T (not (t && eqb m 0))
    go false m p q = tt
    go true m p q = not_T (eqb m 0) (λ k. h (null m (eqb→eq m 0 k) q) (subst T p tt))
      where
        null : (m : ℕ) → m ≡ 0 → m * up e * 1 ≡ n * down e → n ≡ 0
        null m z q = zero-factor n (down e) (down_pos e) (sym q ∙ ap (λ (i : ℕ). i * up e * 1) z ∙ ap (λ (i : ℕ). i * 1) (zero-mul (up e)) ∙ zero-mul 1)

pub zero-signed : (s : Bool) → signed s 0 ≡ pos 0
zero-signed true = refl
zero-signed false = refl

pub plain-nonzero : {x : Float} {z : ℤ} → IsWhole x z → z ≢ pos 0 → T (plain x)
plain-nonzero {x} {z} w h = plain_value x w.sign w.size w.value (λ e s. h (sym w.is ∙ ap (signed w.sign) e ∙ zero-signed w.sign))

-- and the other way round
not_plain : (x : Float) (s : Bool) (n : ℕ) → HasValue x s n 1 → T s → n ≡ 0 → T (plain x) → ⊥
not_plain nan s n v t e p = v
not_plain (inf u) s n v t e p = v
not_plain (fin u m d) s n v t e p =
    T_not (eqb m 0) (subst (λ (i : Bool). T (not (i && eqb m 0))) (v.0 ∙ is_true s t) p)
    (eq→eqb (zero-factor m (up d) (up_pos d) (sym (mul-one (m * up d)) ∙ v.1 ∙ ap (λ (i : ℕ). i * down d) e ∙ zero-mul (down d))))

pub rounded-plain : (f : Format) (r : Float) (z : ℤ) (N : Type 0) → Rounded f r z N → nat_abs z ≤ 2 ^ prec f → (N → ⊥) → T (plain r)
unfolding round-is-whole
rounded-plain f r z N c h k =
    let w = round-is-whole f c.sg c.sz z c.total h in
    subst (λ (i : Float). T (plain i)) (sym c.same) (plain_value (round f c.sg c.sz 1) c.sg c.sz w.value (λ e s. k (c.zeros e s)))

-- a sum is -0 only where both summands are: x + 0.0 is not
pub add-plain : (f : Format) {x y : Float} {z w : ℤ} → IsWhole x z → IsWhole y w → nat_abs (z +ℤ w) ≤ 2 ^ prec f → T (plain y) → T (plain (add f x y))
add-plain f {x} {y} {z} {w} u v h p =
    rounded-plain f (add f x y) (z +ℤ w) ((T u.sign × (u.size ≡ 0)) × (T v.sign × (v.size ≡ 0))) (add-cases f u v) h
    (λ n. not_plain y v.sign v.size v.value n.1.0 n.1.1 p)

zero-fits : (f : Format) (s : Bool) → T (fits f (fin s 0 (pos 0)))
unfolding fits
zero-fits f s = tt

int-zero : fin false 0 (pos 0) ≡ of_int binary64 (pos 0)
unfolding of_int
int-zero = refl

-- ---- one float for one whole number, but for 0
same_sign : (s t : Bool) (m n : ℕ) → signed s m ≡ signed t n → (m ≡ 0 → ⊥) → s ≡ t
same_sign true true m n e h = refl
same_sign false false m n e h = refl
same_sign true false zero n e h = absurd (h refl)
same_sign true false (suc m) n e h = absurd (pos-ne-negsuc n m (sym e))
same_sign false true m zero e h = absurd (h (ap nat_abs e))
same_sign false true m (suc n) e h = absurd (pos-ne-negsuc m n e)

pub unique : (f : Format) {x y : Float} {z : ℤ} → T (fits f x) → T (fits f y) → IsWhole x z → IsWhole y z → z ≢ pos 0 → x ≡ y
unique f {x} {y} {z} p q u v h =
    let m : u.size ≡ v.size = size_is u ∙ sym (size_is v) in
    let s : u.sign ≡ v.sign = same_sign u.sign v.sign u.size v.size (u.is ∙ sym v.is) (λ e. h (sym u.is ∙ ap (signed u.sign) e ∙ zero-signed u.sign)) in
    whole_unique f x y v.sign v.size p q (subst (λ (i : ℕ). HasValue x v.sign i 1) m (subst (λ (i : Bool). HasValue x i u.size 1) s u.value)) v.value

-- ---- 0 is two floats
zero-value : (f : Format) (x : Float) (s : Bool) → T (fits f x) → HasValue x s 0 1 → x ≡ fin s 0 (pos 0)
zero-value f x s h v = whole_unique f x (fin s 0 (pos 0)) s 0 h (zero-fits f s) v (refl, refl)

pub zero-cases : {x : Float} → T (fits binary64 x) → IsWhole x (pos 0) → (s : Bool) × (x ≡ fin s 0 (pos 0))
zero-cases {x} h w = (w.sign, zero-value binary64 x w.sign h (subst (λ (n : ℕ). HasValue x w.sign n 1) (size_is w) w.value))

zero-plain : {x : Float} → T (fits binary64 x) → IsWhole x (pos 0) → T (plain x) → x ≡ of_int binary64 (pos 0)
zero-plain {x} h w p = let c = zero-cases h w in c.1 ∙ go c.0 (subst (λ (v : Float). T (plain v)) c.1 p)
  where
    go : (s : Bool) → T (plain (fin s 0 (pos 0))) → fin s 0 (pos 0) ≡ of_int binary64 (pos 0)
    go false p = int-zero
    go true p = absurd p

-- the float that `as f64` makes of z, where x is not -0
pub int-unique : {x : Float} {z : ℤ} → T (fits binary64 x) → IsWhole x z → T (plain x) → nat_abs z ≤ 2 ^ 53 → x ≡ of_int binary64 z
int-unique {x} {z} h w p b = go z w b
  where
    go : (z : ℤ) → IsWhole x z → nat_abs z ≤ 2 ^ 53 → x ≡ of_int binary64 z
    go (pos zero) w b = zero-plain h w p
    go (pos (suc n)) w b = unique binary64 h (of_int-fits binary64 (pos (suc n))) w (of_int-whole binary64 (pos (suc n)) b) (λ e. some n (ap nat_abs e))
      where
        some : (n : ℕ) → suc n ≡ 0 → ⊥
        some n e = omega arith
    go (negsuc n) w b = unique binary64 h (of_int-fits binary64 (negsuc n)) w (of_int-whole binary64 (negsuc n) b) (λ e. pos-ne-negsuc 0 n (sym e))
