-- NaN: the test `x != x`, and the equality with it; the test for a finite value. Assumes nothing.
use Rattle.std.proofs.Common.{◌≡◌, true, false, not, T, refl, subst}
use mathlib.Core.Bool.{false≢true}
use lib.Dec.{not_T}
use lib.Ieee.{Float, nan, inf, fin, eq, ne, is_nan}
use lib.Ieee.Bits.{is_false}
use lib.Ieee.Compare.{differs_from_itself, nan_differs}
use lib.Ieee.Scale.{finite}
use Rattle.std.specs.Float.{float_is_finite}

-- ---- the tests `x != x` and `is_finite`
number : (x : Float) → T (not (is_nan x)) → x ≡ nan → ⊥
unfolding is_nan
number x n e = subst (λ (v : Float). T (not (is_nan v))) e n

pub nan-test : (x : Float) → ne x x ≡ is_nan x
unfolding is_nan
nan-test nan = nan_differs
nan-test (inf s) = is_false (ne (inf s) (inf s)) (not_T (ne (inf s) (inf s)) (λ t. number (inf s) tt (differs_from_itself (inf s) t)))
nan-test (fin s m e) = is_false (ne (fin s m e) (fin s m e)) (not_T (ne (fin s m e) (fin s m e)) (λ t. number (fin s m e) tt (differs_from_itself (fin s m e) t)))

pub nan-only : (x : Float) → is_nan x ≡ true → x ≡ nan
unfolding is_nan
nan-only nan e = refl
nan-only (inf s) e = absurd (false≢true e)
nan-only (fin s m d) e = absurd (false≢true e)

pub finite_number : (x : Float) → T (finite x) → T (not (is_nan x))
unfolding is_nan
finite_number nan F = F
finite_number (inf s) F = tt
finite_number (fin s m e) F = tt

-- std's word for the same test
pub finite_is : (x : Float) → float_is_finite x ≡ finite x
unfolding float_is_finite
finite_is nan = refl
finite_is (inf s) = refl
finite_is (fin s m e) = refl

-- ---- NaN in a test

pub eq-nan-right : (x : Float) → eq x nan ≡ false
unfolding eq
eq-nan-right nan = refl
eq-nan-right (inf s) = refl
eq-nan-right (fin s m e) = refl
