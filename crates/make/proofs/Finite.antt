-- What the makers' tests rest on: a sum or a product of a value that is not finite is not finite, nor is its whole part; and a value between two finite ones
-- is finite. Assumes nothing.
use mathlib.Core.Path.{◌≡◌, refl}
use mathlib.Core.Bool.{Bool, true, false, cond, false≢true}
use lib.Dec.{T, eqb}
use lib.Ieee.{Float, nan, inf, fin, Format, add, mul, lt, eq, le, unlike}
use lib.Ieee.Scale.{finite}
use Rattle.float.specs.Rounding.{with_sign, is_negative, floor_f, abs_f, copysign_f}
use Rattle.make.specs.Make.{whole_part}

-- a choice of two values that are not finite
neither : (b s : Bool) {A : Type 0} → finite (cond b nan (inf s)) ≡ true → A
neither true s e = absurd (false≢true e)
neither false s e = absurd (false≢true e)

-- the sum of two infinities
infinities : (s t : Bool) {A : Type 0} (f : Format) → finite (add f (inf s) (inf t)) ≡ true → A
unfolding add
infinities true true f e = absurd (false≢true e)
infinities true false f e = absurd (false≢true e)
infinities false true f e = absurd (false≢true e)
infinities false false f e = absurd (false≢true e)

-- ---- of a finite sum both summands are finite, and of a finite product the factor
module _ (f : Format) where
  pub summand-left : (x y : Float) → finite (add f x y) ≡ true → finite x ≡ true
  unfolding add
  summand-left nan y e = e
  summand-left (inf s) nan e = e
  summand-left (inf s) (inf t) e = infinities s t f e
  summand-left (inf s) (fin t n d) e = e
  summand-left (fin s m d) y e = refl

  pub summand-right : (x y : Float) → finite (add f x y) ≡ true → finite y ≡ true
  unfolding add
  summand-right nan y e = absurd (false≢true e)
  summand-right (inf s) nan e = e
  summand-right (inf s) (inf t) e = infinities s t f e
  summand-right (inf s) (fin t n d) e = refl
  summand-right (fin s m d) nan e = e
  summand-right (fin s m d) (inf t) e = e
  summand-right (fin s m d) (fin t n k) e = refl

  pub factor : (x y : Float) → finite (mul f x y) ≡ true → finite x ≡ true
  unfolding mul
  factor nan y e = e
  factor (inf s) nan e = e
  factor (inf s) (inf t) e = e
  factor (inf s) (fin t n d) e = neither (eqb n 0) (unlike s t) e
  factor (fin s m d) y e = refl

-- ---- a finite whole part is that of a finite value
pub uncut : (x : Float) → finite (whole_part x) ≡ true → finite x ≡ true
unfolding copysign_f floor_f abs_f with_sign is_negative
uncut nan e = e
uncut (inf s) e = e
uncut (fin s m d) e = refl

-- ---- between two finite values
pub between : (a x b : Float) → T (finite a) → T (finite b) → le a x ≡ true → le x b ≡ true → finite x ≡ true
unfolding le lt eq
between nan x b A B l m = absurd A
between (inf t) x b A B l m = absurd A
between (fin t n d) nan b A B l m = m
between (fin t n d) (inf true) b A B l m = l
between (fin t n d) (inf false) nan A B l m = absurd B
between (fin t n d) (inf false) (inf r) A B l m = absurd B
between (fin t n d) (inf false) (fin r k c) A B l m = m
between (fin t n d) (fin s k c) b A B l m = refl
