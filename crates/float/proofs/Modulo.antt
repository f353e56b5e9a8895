-- `%` and `rem_euclid` of whole floats: the remainder, exactly. Assumes nothing.
use Rattle.std.proofs.Common.{◌≡◌, ℕ, zero, suc, ◌-◌, ◌%◌, ◌^◌, ◌<◌, ◌≤◌, Bool, true, false, cond, ltb, ◌⊎◌, ℤ, pos, negsuc, ◌+ℤ◌, neg_ℤ, nat_abs, sym, refl, ap, ◌∙◌, subst, inl, inr, le_trans, le_of_lt, mod-lt, mod-eq_of_lt, eq-or-lt_of_le, sub-le, arith}
use native.Mathlib.Nat.{zero-mod, mod_self, suc-mod, sub_self}
use lib.Signed.{lt_z, rem_z}
use lib.Arith.{le→nltb}
use lib.Ieee.{Float, Format, binary64, prec, rem, add, lt}
use lib.Ieee.Bits.{cond_no, is_false}
use Rattle.integers.specs.Whole.{floor_mod}
use Rattle.float.specs.Whole.{signed, IsWhole}
use Rattle.float.specs.Rounding.{rem_euclid_f}
use Rattle.float.proofs.Ops.{rem_is}
use Rattle.float.proofs.Fractions.{nat_abs-signed}
use Rattle.float.proofs.Whole.{positive-value, round-is-whole, add-whole}
use Rattle.float.proofs.Order.{lt-whole}
use Rattle.float.proofs.Rounding.{abs-whole}
use Rattle.float.proofs.Literal.{zero-whole}

signed_rem : (s : Bool) (a d : ℕ) → signed s (a % d) ≡ rem_z (signed s a) (pos d)
signed_rem false a d = refl
signed_rem true zero d = ap (λ (i : ℕ). neg_ℤ (pos i)) (zero-mod d) ∙ ap pos (sym (zero-mod d))
signed_rem true (suc a) d = refl

pub rem-whole : (f : Format) {x y : Float} {t : ℤ} {d : ℕ} → IsWhole x t → IsWhole y (pos d) → 0 < d → d ≤ 2 ^ prec f → IsWhole (rem f x y) (rem_z t (pos d))
rem-whole f {x} {y} {t} {d} u w D S =
    let e : signed u.sign (u.size % d) ≡ rem_z t (pos d) = signed_rem u.sign u.size d ∙ ap (λ (z : ℤ). rem_z z (pos d)) u.is in
    subst (λ (r : Float). IsWhole r (rem_z t (pos d))) (sym (rem_is f x y u.sign false u.size d D u.value (positive-value D w)))
    (round-is-whole f u.sign (u.size % d) (rem_z t (pos d)) e
    (subst (λ (i : ℕ). i ≤ 2 ^ prec f) (sym (nat_abs-signed u.sign (u.size % d)) ∙ ap nat_abs e) (le_trans (le_of_lt (mod-lt u.size D)) S)))

-- ---- one less than a, and what is left over
left_over : (a d : ℕ) → 0 < d → ((suc a % d ≡ 0) × (d - suc (a % d) ≡ 0)) ⊎ ((suc a % d ≡ suc (a % d)) × (suc (a % d) < d))
left_over a d D = go (eq-or-lt_of_le (mod-lt a D))
  where
    go : (suc (a % d) ≡ d) ⊎ (suc (a % d) < d) → ((suc a % d ≡ 0) × (d - suc (a % d) ≡ 0)) ⊎ ((suc a % d ≡ suc (a % d)) × (suc (a % d) < d))
    go (inl e) = inl (suc-mod a d ∙ ap (λ (i : ℕ). i % d) e ∙ mod_self d, ap (λ (i : ℕ). d - i) e ∙ sub_self d)
    go (inr l) = inr (suc-mod a d ∙ mod-eq_of_lt l, l)

zero-not-below : (a : ℕ) → ltb a 0 ≡ false
zero-not-below a = is_false (ltb a 0) (le→nltb a 0 (omega arith))

-- ---- `let r = x % y; if r < 0 { r + a } else { r }`, where a is the divisor too and 0 is a zero of either sign
picked : (f : Format) {x y a o : Float} {t : ℤ} {d : ℕ} → IsWhole x t → IsWhole y (pos d) → IsWhole a (pos d) → IsWhole o (pos 0) → 0 < d → d ≤ 2 ^ prec f
    → IsWhole (cond (lt (rem f x y) o) (add f (rem f x y) a) (rem f x y)) (pos (floor_mod t d))
picked f {x} {y} {a} {o} {t} {d} u w v n D S = go t (rem-whole f u w D S)
  where
    at : {z : ℤ} (b : Bool) → lt_z z (pos 0) ≡ b → IsWhole (rem f x y) z → (k : ℤ) → IsWhole (cond b (add f (rem f x y) a) (rem f x y)) k → IsWhole (cond (lt (rem f x y) o) (add f (rem f x y) a) (rem f x y)) k
    at b e h k g = subst (λ (i : Bool). IsWhole (cond i (add f (rem f x y) a) (rem f x y)) k) (sym (lt-whole h n ∙ e)) g

    go : (t : ℤ) → IsWhole (rem f x y) (rem_z t (pos d)) → IsWhole (cond (lt (rem f x y) o) (add f (rem f x y) a) (rem f x y)) (pos (floor_mod t d))
    go (pos m) h = at false (zero-not-below (m % d)) h (pos (m % d)) h
    go (negsuc m) h = pick (left_over m d D)
      where
        pick : ((suc m % d ≡ 0) × (d - suc (m % d) ≡ 0)) ⊎ ((suc m % d ≡ suc (m % d)) × (suc (m % d) < d))
            → IsWhole (cond (lt (rem f x y) o) (add f (rem f x y) a) (rem f x y)) (pos (d - suc (m % d)))
        pick (inl p) =
            let g : IsWhole (rem f x y) (pos 0) = subst (λ (i : ℕ). IsWhole (rem f x y) (neg_ℤ (pos i))) p.0 h in
            subst (λ (i : ℕ). IsWhole (cond (lt (rem f x y) o) (add f (rem f x y) a) (rem f x y)) (pos i)) (sym p.1) (at false (zero-not-below 0) g (pos 0) g)
        pick (inr p) =
            let g : IsWhole (rem f x y) (negsuc (m % d)) = subst (λ (i : ℕ). IsWhole (rem f x y) (neg_ℤ (pos i))) p.0 h in
            let e : negsuc (m % d) +ℤ pos d ≡ pos (d - suc (m % d)) = cond_no (ltb d (suc (m % d))) (negsuc (suc (m % d) - suc d)) (pos (d - suc (m % d))) (le→nltb d (suc (m % d)) (le_of_lt p.1)) in
            let b : nat_abs (negsuc (m % d) +ℤ pos d) ≤ 2 ^ prec f = subst (λ (i : ℤ). nat_abs i ≤ 2 ^ prec f) (sym e) (le_trans (sub-le d (suc (m % d))) S) in
            at true refl g (pos (d - suc (m % d))) (subst (λ (i : ℤ). IsWhole (add f (rem f x y) a) i) e (add-whole f g v b))

-- THE LAW: `rem_euclid` by a whole divisor d from 1 up to 2 ^ 53 is the remainder from 0 up. Where it is 0 and x is negative, it is -0.
pub rem-euclid-whole : {x y : Float} {t : ℤ} {d : ℕ} → IsWhole x t → IsWhole y (pos d) → 0 < d → d ≤ 2 ^ 53 → IsWhole (rem_euclid_f x y) (pos (floor_mod t d))
unfolding rem_euclid_f
rem-euclid-whole u w D S = picked binary64 u w (abs-whole w) zero-whole D S
