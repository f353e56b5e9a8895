-- A whole float `as` an integer: Rust's cast gives the number, and Rattle's check of it asks that the float is not -0, which `x + 0.0` never is.
-- Assumes nothing.
use Rattle.std.proofs.Common.{◌≡◌, ℕ, zero, suc, ◌-◌, ◌*◌, ◌/◌, ◌%◌, ◌^◌, ◌<◌, ◌≤◌, min, Bool, true, false, cond, not, ◌&&◌, T, eqb, ltb, leb, ℤ, pos, negsuc, ◌+ℤ◌, neg_ℤ, nat_abs, sym, ap, ◌∙◌, subst, ap₂, true≢false, arith, le→leb, lt→ltb, pow_pos, w64, to_z, of_z, to_z-of_z}
use mathlib.Core.Bool.{false≢true}
use lib.IntN.{+ℤ_idr, pos-ne-negsuc}
use lib.Signed.{mag}
use lib.Ieee.{Float, nan, inf, fin, Format, binary64, prec, up, down, add, of_bits, to_unsigned, to_signed, whole, in_signed, in_float}
use lib.Ieee.Fits.{down_pos, eq→eqb, and_i}
use lib.Ieee.Exact.{HasValue}
use Rattle.float.specs.Whole.{signed, IsWhole, WholeWithin, plain, trunc_z}
use Rattle.float.proofs.Fractions.{cut}
use Rattle.float.proofs.Whole.{size_is, add-whole, add-plain}
use Rattle.float.proofs.Literal.{zero-whole}

-- ---- the integer that it is, -0 included
uncapped : (a c : ℕ) → a < c → min a (c - 1) ≡ a
uncapped a c h = omega arith

uncapped_le : (a c : ℕ) → a ≤ c → min a c ≡ a
uncapped_le a c h = omega arith

-- the range of a signed width, for n and -n
small : (s : Bool) (n H : ℕ) → 0 < H → mag (signed s n) < H → cond s (n ≤ H) (n < H)
small false n H P h = h
small true zero H P h = omega arith
small true (suc n) H P h = h

pick-signed : (s : Bool) (n H : ℕ) → cond s (n ≤ H) (n < H) → cond s (neg_ℤ (pos (min n H))) (pos (min n (H - 1))) ≡ signed s n
pick-signed false n H h = ap pos (uncapped n H h)
pick-signed true n H h = ap (λ (i : ℕ). neg_ℤ (pos i)) (uncapped_le n H h)

to_signed-value : (h : ℕ) (x : Float) (s : Bool) (n : ℕ) → HasValue x s n 1 → cond s (n ≤ 2 ^ h) (n < 2 ^ h) → to_signed h x ≡ signed s n
unfolding to_signed
to_signed-value h nan s n v r = absurd v
to_signed-value h (inf t) s n v r = absurd v
to_signed-value h (fin t m e) s n v r =
    ap₂ (λ (i : Bool) (j : ℕ). cond i (neg_ℤ (pos (min j (2 ^ h)))) (pos (min j (2 ^ h - 1)))) v.0 (cut (m * up e) (down e) n (down_pos e) v.1).0
    ∙ pick-signed s n (2 ^ h) r

pub to_signed-whole : (h : ℕ) {x : Float} {z : ℤ} → IsWhole x z → mag z < 2 ^ h → to_signed h x ≡ z
to_signed-whole h {x} {z} w r =
    to_signed-value h x w.sign w.size w.value (small w.sign w.size (2 ^ h) (pow_pos h) (subst (λ (i : ℤ). mag i < 2 ^ h) (sym w.is) r)) ∙ w.is

to_unsigned-value : (k : ℕ) (x : Float) (s : Bool) (n a : ℕ) → HasValue x s n 1 → signed s n ≡ pos a → a < 2 ^ k → to_unsigned k x ≡ a
unfolding to_unsigned
to_unsigned-value k nan s n a v e r = absurd v
to_unsigned-value k (inf t) s n a v e r = absurd v
to_unsigned-value k (fin t m e) s n a v q r = go t s n v.0 (cut (m * up e) (down e) n (down_pos e) v.1).0 q
  where
    go : (t s : Bool) (n : ℕ) → t ≡ s → m * up e / down e ≡ n → signed s n ≡ pos a → cond t 0 (min (m * up e / down e) (2 ^ k - 1)) ≡ a
    go true true zero p c q = ap nat_abs q
    go true true (suc n) p c q = absurd (pos-ne-negsuc a n (sym q))
    go false false n p c q = uncapped (m * up e / down e) (2 ^ k) (subst (λ (i : ℕ). i < 2 ^ k) (sym (c ∙ ap nat_abs q)) r) ∙ c ∙ ap nat_abs q
    go true false n p c q = absurd (true≢false p)
    go false true n p c q = absurd (false≢true p)

pub to_unsigned-whole : (k : ℕ) {x : Float} {a : ℕ} → IsWhole x (pos a) → a < 2 ^ k → to_unsigned k x ≡ a
to_unsigned-whole k {x} {a} w r = to_unsigned-value k x w.sign w.size a w.value w.is r

-- ---- what the machine's check of the cast asks: not -0 besides
whole-value : (f : Format) (x : Float) (s : Bool) (n : ℕ) → HasValue x s n 1 → n ≤ 2 ^ prec f → T (plain x) → T (whole f x)
unfolding whole
whole-value f nan s n v h p = absurd v
whole-value f (inf t) s n v h p = absurd v
whole-value f (fin t m e) s n v h p =
    let c = cut (m * up e) (down e) n (down_pos e) v.1 in
    and_i (eqb (m * up e % down e) 0 && leb (m * up e / down e) (2 ^ prec f)) (not (t && eqb m 0))
    (and_i (eqb (m * up e % down e) 0) (leb (m * up e / down e) (2 ^ prec f)) (eq→eqb c.1) (le→leb (m * up e / down e) (2 ^ prec f) (subst (λ (i : ℕ). i ≤ 2 ^ prec f) (sym c.0) h)))
    p

pub whole-whole : (f : Format) {x : Float} {z : ℤ} → IsWhole x z → nat_abs z ≤ 2 ^ prec f → T (plain x) → T (whole f x)
whole-whole f {x} {z} w h p = whole-value f x w.sign w.size w.value (subst (λ (i : ℕ). i ≤ 2 ^ prec f) (sym (size_is w)) h) p

in_signed-value : (f : Format) (h : ℕ) (x : Float) (s : Bool) (n : ℕ) → HasValue x s n 1 → T (whole f x) → cond s (n ≤ 2 ^ h) (n < 2 ^ h) → T (in_signed f h x)
unfolding in_signed
in_signed-value f h nan s n v p r = absurd v
in_signed-value f h (inf t) s n v p r = absurd v
in_signed-value f h (fin t m e) s n v p r =
    and_i (whole f (fin t m e)) (cond t (leb (m * up e / down e) (2 ^ h)) (ltb (m * up e / down e) (2 ^ h))) p
    (subst (λ (i : ℕ). T (cond t (leb i (2 ^ h)) (ltb i (2 ^ h)))) (sym (cut (m * up e) (down e) n (down_pos e) v.1).0) (subst (λ (i : Bool). T (cond i (leb n (2 ^ h)) (ltb n (2 ^ h)))) (sym v.0) (go s r)))
  where
    go : (s : Bool) → cond s (n ≤ 2 ^ h) (n < 2 ^ h) → T (cond s (leb n (2 ^ h)) (ltb n (2 ^ h)))
    go true k = le→leb n (2 ^ h) k
    go false k = lt→ltb n (2 ^ h) k

pub in_signed-whole : (f : Format) (h : ℕ) {x : Float} {z : ℤ} → IsWhole x z → nat_abs z ≤ 2 ^ prec f → mag z < 2 ^ h → T (plain x) → T (in_signed f h x)
in_signed-whole f h {x} {z} w b r p =
    in_signed-value f h x w.sign w.size w.value (whole-whole f w b p) (small w.sign w.size (2 ^ h) (pow_pos h) (subst (λ (i : ℤ). mag i < 2 ^ h) (sym w.is) r))

-- the range of 63 bits holds every whole number to 2^53
pub in-63 : (z : ℤ) → nat_abs z ≤ 2 ^ 53 → mag z < 2 ^ 63
in-63 (pos n) h = omega arith
in-63 (negsuc n) h = omega arith

-- ---- the cast of `x + 0.0`
zero-plain : T (plain (of_bits binary64 0))
unfolding of_bits
zero-plain = tt

pub plus-zero : {x : Float} {z : ℤ} → IsWhole x z → nat_abs z ≤ 2 ^ 53 → IsWhole (add binary64 x (of_bits binary64 0)) z × T (plain (add binary64 x (of_bits binary64 0)))
plus-zero {x} {z} w h =
    let b : nat_abs (z +ℤ pos 0) ≤ 2 ^ 53 = subst (λ (i : ℤ). nat_abs i ≤ 2 ^ 53) (sym (+ℤ_idr z)) h in
    (subst (IsWhole (add binary64 x (of_bits binary64 0))) (+ℤ_idr z) (add-whole binary64 w zero-whole b), add-plain binary64 w zero-whole b zero-plain)

pub cast_signed : (h : ℕ) {x : Float} {z : ℤ} → IsWhole x z → nat_abs z ≤ 2 ^ 53 → mag z < 2 ^ h
    → T (in_signed binary64 h (add binary64 x (of_bits binary64 0))) × (to_signed h (add binary64 x (of_bits binary64 0)) ≡ z)
cast_signed h w b s = let v = plus-zero w b in (in_signed-whole binary64 h v.0 b s v.1, to_signed-whole h v.0 s)

module _ (x : Float) (h : WholeWithin (2 ^ 53) x) where
  cast : T (in_signed binary64 63 (add binary64 x (of_bits binary64 0))) × (to_signed 63 (add binary64 x (of_bits binary64 0)) ≡ trunc_z x)
  cast = cast_signed 63 h.whole h.size (in-63 (trunc_z x) h.size)

  pub exact_taken : T (in_signed binary64 63 (add binary64 x (of_bits binary64 0)))
  exact_taken = cast.0

  pub exact_back : to_z w64 (of_z w64 (to_signed 63 (add binary64 x (of_bits binary64 0)))) ≡ trunc_z x
  exact_back = ap (λ z. to_z w64 (of_z w64 z)) cast.1 ∙ to_z-of_z {w = w64} (record { sfits = in-63 (trunc_z x) h.size })

-- ---- and back: an integer of at most 53 digits is a float
pub int-in-float : (z : ℤ) → nat_abs z ≤ 2 ^ 53 → T (in_float binary64 z)
unfolding in_float
int-in-float (pos n) h = le→leb n (2 ^ 53) h
int-in-float (negsuc n) h = lt→ltb n (2 ^ 53) h
