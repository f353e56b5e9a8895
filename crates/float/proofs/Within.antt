-- `is_whole_within` is `WholeWithin`, both ways, for every bound to 2^53: what equals its own whole part is a whole number. A number equals its whole
-- part where the two have one pattern. With +0 for -0 it is the f64 of its whole number. Assumes nothing.
use Rattle.std.proofs.Common.{◌≡◌, ℕ, zero, suc, ◌*◌, ◌^◌, ◌<◌, ◌≤◌, Bool, true, false, cond, not, ◌&&◌, ◌||◌, T, eqb, ℤ, pos, negsuc, nat_abs, sym, refl, ap, ◌∙◌, subst, true≢false, mul-one, mul_right_comm, lit≤, le→leb, eqb→eq, leb→le}
use mathlib.Core.Bool.{beq, false≢true, and-true, and-false}
use native.Mathlib.Nat.{eq_of_mul-eq-mul_right}
use lib.Signed.{le_z_yes}
use lib.Ieee.{Float, nan, inf, fin, binary64, up, down, level, of_int, of_bits, to_bits, is_nan, eq, le, ne, fits}
use lib.Ieee.Bits.{is_true, to_bits-of_bits}
use lib.Ieee.Fits.{eq→eqb, and_l, and_r, down_pos, of_int-fits}
use Rattle.integers.proofs.Int.{ints}
use Rattle.integers.proofs.Machine.{true-T, false-T}
use Rattle.float.specs.Whole.{signed, IsWhole, WholeWithin}
use Rattle.float.specs.Rounding.{trunc_f, abs_f, is_whole_within, plus_zero}
use Rattle.float.proofs.Fractions.{same_test}
use Rattle.float.proofs.Patterns.{bits_back}
use Rattle.float.proofs.Whole.{of_int-whole, unique, zero-factor, zero-signed}
use Rattle.float.proofs.Rounding.{trunc-whole, trunc-own, abs-whole, whole-finite}
use Rattle.float.proofs.Order.{eq_yes, eq_no, eq-holds, le_yes, le-holds}
use Rattle.float.proofs.Special.{nan-test, nan-only, eq-nan-right}

-- ---- what equals a whole number is that number, -0 too
-- M / E is the whole number S, and M / E = N / D
cross : (M E D N S : ℕ) → 0 < E → M * 1 ≡ S * E → M * D ≡ N * E → N * 1 ≡ S * D
cross M E D N S p h k =
    mul-one N ∙ eq_of_mul-eq-mul_right E p N (S * D) (sym k ∙ ap (λ (i : ℕ). i * D) (sym (mul-one M) ∙ h) ∙ mul_right_comm S E D)

signs : (s u r : Bool) (S : ℕ) {A : ℕ} {z : ℤ} → s ≡ r → signed r S ≡ z → (A ≡ 0 → S ≡ 0) → T (beq s u || eqb A 0) → signed u S ≡ z
signs true true r S p q null t = ap (λ (i : Bool). signed i S) p ∙ q
signs false false r S p q null t = ap (λ (i : Bool). signed i S) p ∙ q
signs true false r S {A} p q null t = let n = null (eqb→eq A 0 t) in ap (signed false) n ∙ sym (zero-signed r) ∙ ap (signed r) (sym n) ∙ q
signs false true r S {A} p q null t = let n = null (eqb→eq A 0 t) in ap (signed true) n ∙ zero-signed true ∙ sym (zero-signed r) ∙ ap (signed r) (sym n) ∙ q

same_whole : (y x : Float) {z : ℤ} → IsWhole y z → eq y x ≡ true → IsWhole x z
unfolding eq
same_whole nan x w t = absurd w.value
same_whole (inf s) x w t = absurd w.value
same_whole (fin s m e) nan w t = absurd (false≢true t)
same_whole (fin s m e) (inf u) w t = absurd (false≢true t)
same_whole (fin s m e) (fin u n d) {z} w t =
    let A = m * up e * down d in
    let B = n * up d * down e in
    let l : T (level s A u B) = subst T (sym t) tt in
    let S = w.size in
    let v : m * up e * 1 ≡ S * down e = w.value.1 in
    record {
      sign = u;
      size = S;
      value = (refl, cross (m * up e) (down e) (down d) (n * up d) S (down_pos e) v (eqb→eq A B (and_l (eqb A B) (beq s u || eqb A 0) l)));
      is = signs s u w.sign S w.value.0 w.is (null (m * up e) (down e) (down d) S (down_pos e) (down_pos d) v) (and_r (eqb A B) (beq s u || eqb A 0) l);
    }
  where
    null : (M E D S : ℕ) → 0 < E → 0 < D → M * 1 ≡ S * E → M * D ≡ 0 → S ≡ 0
    null M E D S p q v h = zero-factor S E p (sym v ∙ mul-one M ∙ zero-factor M D q h)

-- ---- the tests on patterns
equals_itself : (x : Float) → T (not (is_nan x)) → T (eq x x)
unfolding ne
equals_itself x n = go (eq x x) (subst (λ (b : Bool). T (not b)) (sym (nan-test x)) n)
  where
    go : (b : Bool) → T (not (not b)) → T b
    go true t = tt
    go false t = t

own-part : (x : Float) → T (fits binary64 x) → T (eq (trunc_f x) x) → trunc_f x ≡ x
unfolding trunc_f
own-part nan h t = refl
own-part (inf s) h t = refl
own-part (fin s m e) h t = let x = fin s m e in trunc-own h (same_whole (trunc_f x) x (trunc-whole x h tt) (is_true (eq (trunc_f x) x) t))

same-bits : (x : Float) (r : ℕ) → T (fits binary64 x) → T (not (is_nan x)) → r < 2 ^ 64 → of_bits binary64 r ≡ trunc_f x → eqb r (to_bits binary64 x) ≡ eq (trunc_f x) x
same-bits x r h n l e =
    same_test (eqb r (to_bits binary64 x)) (eq (trunc_f x) x)
    (λ t. subst (λ (y : Float). T (eq y x)) (sym (ap (of_bits binary64) (eqb→eq r (to_bits binary64 x) t) ∙ bits_back x h) ∙ e) (equals_itself x n))
    (λ t. let o : of_bits binary64 r ≡ x = e ∙ own-part x h t in
    eq→eqb (sym (to_bits-of_bits binary64 r l (subst (λ (y : Float). T (not (is_nan y))) (sym o) n)) ∙ ap (to_bits binary64) o))

-- the same as `is_whole_within` finds it: m is x's magnitude
module _ (x most m : Float) where
  pub unbounded : le m most ≡ false → m ≡ abs_f x → false ≡ is_whole_within most x
  unfolding is_whole_within
  unbounded t is = let own = eq (trunc_f x) x in sym (ap (λ (b : Bool). own && b) (ap (λ (y : Float). le y most) (sym is) ∙ t) ∙ and-false own)

  pub same_pattern : (r : ℕ) → le m most ≡ true → m ≡ abs_f x → of_bits binary64 r ≡ trunc_f (of_bits binary64 (to_bits binary64 x)) → r < 2 ^ 64 → fits binary64 x ≡ true → is_nan x ≡ false
      → eqb r (to_bits binary64 x) ≡ is_whole_within most x
  unfolding is_whole_within
  same_pattern r t is e l held n =
      let h = true-T _ held in
      let own = eq (trunc_f x) x in
      same-bits x r h (false-T _ n) l (e ∙ ap trunc_f (bits_back x h)) ∙ sym (ap (λ (b : Bool). own && b) (ap (λ (y : Float). le y most) (sym is) ∙ t) ∙ and-true own)

pub not_whole : (x most : Float) → is_nan x ≡ true → false ≡ is_whole_within most x
unfolding is_whole_within
not_whole x most t =
    let e : x ≡ nan = nan-only x t in
    sym (ap (λ (y : Float). eq (trunc_f x) y && le (abs_f x) most) e ∙ ap (λ (b : Bool). b && le (abs_f x) most) (eq-nan-right (trunc_f x)))

-- ---- the test is the record, both ways
both : (a b : Bool) → (a && b) ≡ true → (a ≡ true) × (b ≡ true)
both true b h = (refl, h)
both false b h = absurd (false≢true h)

above : (s : Bool) (y : Float) {z : ℤ} → IsWhole y z → le (abs_f (inf s)) y ≡ false
unfolding le abs_f
above s nan w = absurd w.value
above s (inf t) w = absurd w.value
above s (fin t m e) w = refl

module _ (n : ℕ) (small : n ≤ 2 ^ 53) where
  bound : IsWhole (of_int binary64 (pos n)) (pos n)
  bound = of_int-whole binary64 (pos n) small

  pub within-is : (x : Float) → T (fits binary64 x) → is_whole_within (of_int binary64 (pos n)) x ≡ true → WholeWithin n x
  unfolding is_whole_within
  within-is nan h t = absurd (true≢false (sym (both (eq (trunc_f nan) nan) _ t).0 ∙ eq-nan-right (trunc_f nan)))
  within-is (inf s) h t = absurd (true≢false (sym (both (eq (trunc_f (inf s)) (inf s)) _ t).1 ∙ above s _ bound))
  within-is (fin s m e) h t =
      let x = fin s m e in
      let p = both (eq (trunc_f x) x) _ t in
      let w = same_whole (trunc_f x) x (trunc-whole x h tt) p.0 in
      record { whole = w; size = leb→le _ _ (le_yes (abs-whole w) bound p.1).le }

  pub within-holds : (x : Float) → T (fits binary64 x) → WholeWithin n x → is_whole_within (of_int binary64 (pos n)) x ≡ true
  unfolding is_whole_within
  within-holds x h w =
      rw (eq-holds (trunc-whole x h (whole-finite w.whole)) w.whole refl, le-holds (abs-whole w.whole) bound (le_z_yes (le→leb _ _ w.size)))

-- ---- +0 for a zero: of a whole number it is the f64 of that number
abs-zero : (z : ℤ) → pos (nat_abs z) ≡ pos 0 → z ≡ pos 0
abs-zero (pos zero) e = refl
abs-zero (pos (suc n)) e = absurd (omega (ints, e))
abs-zero (negsuc n) e = absurd (omega (ints, e))

pub plus-zero-whole : {x : Float} {z : ℤ} → T (fits binary64 x) → IsWhole x z → nat_abs z ≤ 2 ^ 53 → plus_zero x ≡ of_int binary64 z
plus-zero-whole {x} {z} h w b = go (eq (abs_f x) (of_int binary64 (pos 0))) refl
  where
    o : IsWhole (of_int binary64 (pos 0)) (pos 0)
    o = of_int-whole binary64 (pos 0) (lit≤ tt)

    go : (t : Bool) → eq (abs_f x) (of_int binary64 (pos 0)) ≡ t → plus_zero x ≡ of_int binary64 z
    go true e = ap (λ c. cond c (of_int binary64 (pos 0)) x) e ∙ ap (of_int binary64) (sym (abs-zero z (eq_yes (abs-whole w) o e)))
    go false e =
        ap (λ c. cond c (of_int binary64 (pos 0)) x) e
        ∙ unique binary64 h (of_int-fits binary64 z) w (of_int-whole binary64 z b) (λ k. eq_no (abs-whole w) o e (ap (λ y. pos (nat_abs y)) k))
