-- ToIntegerOrInfinity of a number that is not NaN is its whole part, with -0 turned into +0. Assumes nothing.
use Rattle.std.proofs.Common.{◌≡◌, ℕ, zero, suc, ◌*◌, ◌/◌, Bool, true, false, cond, not, ◌&&◌, ◌||◌, T, eqb, pos, negsuc, sym, refl, ap, ◌∙◌, subst, true≢false, zero-mul}
use mathlib.Core.Bool.{false≢true}
use lib.Ieee.{Float, nan, inf, fin, binary64, fits, is_nan, up, down, eq, round, of_bits, of_int}
use lib.Ieee.Scale.{finite}
use Rattle.integers.proofs.Machine.{true-T}
use Rattle.float.specs.Whole.{signed, IsWhole, trunc_z, plain}
use Rattle.float.specs.Rounding.{trunc_f, abs_f, to_integer_or_infinity, plus_zero}
use Rattle.float.proofs.Rounding.{trunc-fin, trunc-whole}
use Rattle.float.proofs.Order.{eq_z, eq_z→eq, eq-whole, eq_yes, eq_no}
use Rattle.float.proofs.Whole.{plain-nonzero}
use Rattle.float.proofs.Special.{finite_number}
use Rattle.float.proofs.Literal.{zero-whole}

zero-int : of_bits binary64 0 ≡ of_int binary64 (pos 0)
unfolding of_bits of_int
zero-int = refl

plus-int : (n : ℕ) → round binary64 false n 1 ≡ of_int binary64 (pos n)
unfolding of_int
plus-int n = refl

minus-int : (n : ℕ) → round binary64 true (suc n) 1 ≡ of_int binary64 (negsuc n)
unfolding of_int
minus-int n = refl

zero-plain : T (plain (of_bits binary64 0))
unfolding of_bits
zero-plain = tt

test : (x : Float) → T (fits binary64 x) → T (finite x) → eq (trunc_f x) (of_bits binary64 0) ≡ eq_z (trunc_z x) (pos 0)
test x h F = eq-whole (trunc-whole x h F) zero-whole

pub of_nan : (x : Float) → is_nan x ≡ true → of_bits binary64 0 ≡ to_integer_or_infinity x
unfolding to_integer_or_infinity is_nan
of_nan nan e = refl
of_nan (inf s) e = absurd (false≢true e)
of_nan (fin s m d) e = absurd (false≢true e)

pub integer-zero : (x : Float) → T (fits binary64 x) → eq (trunc_f x) (of_bits binary64 0) ≡ true → of_bits binary64 0 ≡ to_integer_or_infinity x
unfolding to_integer_or_infinity trunc_f eq of_bits
integer-zero nan h e = refl
integer-zero (inf s) h e = absurd (false≢true e)
integer-zero (fin s m d) h e =
    zero-int ∙ ap (of_int binary64) (sym (eq_z→eq (trunc_z (fin s m d)) (pos 0) (subst T (sym (sym (test (fin s m d) h tt) ∙ e)) tt)))

pub integer-other : (x : Float) → T (fits binary64 x) → T (not (is_nan x)) → eq (trunc_f x) (of_bits binary64 0) ≡ false → trunc_f x ≡ to_integer_or_infinity x
unfolding to_integer_or_infinity trunc_f trunc_z is_nan
integer-other nan h n e = absurd n
integer-other (inf s) h n e = refl
integer-other (fin s m d) h n e = trunc-fin s m d ∙ go s (m * up d / down d) (sym (test (fin s m d) h tt) ∙ e)
  where
    go : (s : Bool) (k : ℕ) → eq_z (signed s k) (pos 0) ≡ false → round binary64 s k 1 ≡ of_int binary64 (signed s k)
    go false k e = plus-int k
    go true zero e = absurd (true≢false e)
    go true (suc k) e = minus-int k

-- the same, as the code finds it: t is x's whole part
module _ (x : Float) (held : fits binary64 x ≡ true) (t : Float) (is : t ≡ trunc_f x) where
  pub of_zero : eq t (of_bits binary64 0) ≡ true → of_bits binary64 0 ≡ to_integer_or_infinity x
  of_zero e = integer-zero x (true-T _ held) (ap (λ v. eq v (of_bits binary64 0)) (sym is) ∙ e)

  pub of_other : T (not (is_nan x)) → eq t (of_bits binary64 0) ≡ false → t ≡ to_integer_or_infinity x
  of_other n e = is ∙ integer-other x (true-T _ held) n (ap (λ v. eq v (of_bits binary64 0)) (sym is) ∙ e)

-- whatever the sign of a zero is, it equals 0
pub abs-zero-test : (x : Float) → eq (abs_f x) (of_bits binary64 0) ≡ eq x (of_bits binary64 0)
unfolding eq abs_f of_bits
abs-zero-test nan = refl
abs-zero-test (inf s) = refl
abs-zero-test (fin false m e) = refl
abs-zero-test (fin true m e) =
    let A = m * up e * 1 in
    subst (λ (i : ℕ). (eqb A i && true) ≡ (eqb A i && (false || eqb A 0))) (sym (zero-mul (down e))) (same (eqb A 0))
  where
    same : (b : Bool) → (b && true) ≡ (b && (false || b))
    same true = refl
    same false = refl

-- of a finite float it is the whole part, with +0 for a zero
pub integer-is : (x : Float) → T (fits binary64 x) → T (finite x) → to_integer_or_infinity x ≡ plus_zero (trunc_f x)
integer-is x h F = go (eq (trunc_f x) (of_bits binary64 0)) refl
  where
    go : (b : Bool) → eq (trunc_f x) (of_bits binary64 0) ≡ b → to_integer_or_infinity x ≡ plus_zero (trunc_f x)
    go b e =
        by b e ∙ sym (ap (λ c. cond c (of_int binary64 (pos 0)) (trunc_f x)) (ap (eq (abs_f (trunc_f x))) (sym zero-int) ∙ abs-zero-test (trunc_f x) ∙ e))
      where
        by : (b : Bool) → eq (trunc_f x) (of_bits binary64 0) ≡ b → to_integer_or_infinity x ≡ cond b (of_int binary64 (pos 0)) (trunc_f x)
        by true e = sym (integer-zero x h e) ∙ zero-int
        by false e = sym (integer-other x h (finite_number x F) e)

-- of a finite float it is the whole number, and not -0
pub integer-whole : (x : Float) → T (fits binary64 x) → T (finite x) → IsWhole (to_integer_or_infinity x) (trunc_z x) × T (plain (to_integer_or_infinity x))
integer-whole x h F = go (eq (trunc_f x) (of_bits binary64 0)) refl
  where
    go : (b : Bool) → eq (trunc_f x) (of_bits binary64 0) ≡ b → IsWhole (to_integer_or_infinity x) (trunc_z x) × T (plain (to_integer_or_infinity x))
    go true e =
        subst (λ (v : Float). IsWhole v (trunc_z x) × T (plain v)) (integer-zero x h e)
        (subst (IsWhole (of_bits binary64 0)) (sym (eq_yes (trunc-whole x h F) zero-whole e)) zero-whole, zero-plain)
    go false e =
        subst (λ (v : Float). IsWhole v (trunc_z x) × T (plain v)) (integer-other x h (finite_number x F) e)
        (trunc-whole x h F, plain-nonzero (trunc-whole x h F) (eq_no (trunc-whole x h F) zero-whole e))
