-- `time_clip` is TimeClip: of every whole time it is the f64 of what TimeClip gives, and of every f64 it is a time value, so NaN or a whole number in the
-- range and never -0. Assumes nothing.
use mathlib.Core.Path.{◌≡◌, refl, sym, ap, ◌∙◌, subst}
use mathlib.Core.Bool.{Bool, true, false, not, false≢true}
use Prim.Native.Nat.{◌^◌, ◌≤◌, ◌<◌}
use native.Mathlib.Nat.{div-one, zero-lt-suc}
use native.Mathlib.Omega.{arith}
use lib.Dec.{T, leb, leb→le, nleb→lt, lit<, lit≤}
use lib.IntN.{ℤ, nat_abs}
use lib.Ieee.{Float, nan, binary64, fits, lt, eq, ne, of_int}
use lib.Ieee.Bits.{is_true}
use lib.Ieee.Scale.{finite}
use Rattle.ecma262.specs.Date.{time_range, InRange, time_clip}
use Rattle.integers.proofs.Int.{ints, by-test}
use Rattle.integers.proofs.Machine.{true-T}
use Rattle.ecma262.proofs.Range.{clip-inside, clip-outside}
use Rattle.float.specs.Whole.{IsWhole, trunc_z}
use Rattle.float.specs.Rounding.{trunc_f, abs_f, is_whole_within}
use Rattle.float.proofs.Within.{within-is, plus-zero-whole}
use Rattle.float.proofs.Whole.{round-is-whole, plain-nonzero, int-unique}
use Rattle.float.proofs.Rounding.{whole_number, trunc-value, trunc-whole, trunc-fits, abs-whole, whole-finite}
use Rattle.float.proofs.Order.{lt-holds, lt-fails, eq_no, trunc-bounded}
use Rattle.calendar.specs.Calendar.{num}
use Rattle.calendar.proofs.Whole.{num-whole}
use Rattle.make.specs.Make.{time_clip_f, time_value, IsTimeValue, no-time, time}
use Rattle.make.proofs.Tests.{clip-not-finite, clip-beyond, clip-within}

-- ---- "It tests first and truncates after": of a finite f64 that passes the test
module _ (x : Float) (h : T (fits binary64 x)) (F : T (finite x)) (l : lt (num 8_640_000_000_000_000) (abs_f x) ≡ false) where
  pub cut-in-range : InRange (trunc_z x)
  cut-in-range = trunc-bounded x (lit< tt) (num-whole 8640000000000000 (lit≤ tt)) F l

  pub clip-cut : time_clip_f x ≡ of_int binary64 (trunc_z x)
  clip-cut = clip-within x (is_true (finite x) F) l ∙ plus-zero-whole (trunc-fits x) (trunc-whole x h F) (omega (arith, cut-in-range))

-- THE LAW for every f64: "a time value is NaN or a whole number in the range", never -0
pub clip-time-value : (x : Float) → T (fits binary64 x) → IsTimeValue (time_clip_f x)
clip-time-value x h = go (finite x) refl (lt (num 8640000000000000) (abs_f x)) refl
  where
    go : (f : Bool) → finite x ≡ f → (b : Bool) → lt (num 8640000000000000) (abs_f x) ≡ b → IsTimeValue (time_clip_f x)
    go false e b k = subst IsTimeValue (sym (clip-not-finite x e)) no-time
    go true e true k = subst IsTimeValue (sym (clip-beyond x e k)) no-time
    go true e false k = let F = true-T (finite x) e in subst IsTimeValue (sym (clip-cut x h F k)) (time (trunc_z x) (cut-in-range x h F k))

-- ---- a whole time is its own whole part
trunc-small : {x : Float} {z : ℤ} → IsWhole x z → nat_abs z ≤ 2 ^ 53 → IsWhole (trunc_f x) z
trunc-small {x} {z} w b =
    subst (λ (v : Float). IsWhole v z) (sym (trunc-value x w.sign w.size 1 (zero-lt-suc 0) w.value ∙ ap (whole_number w.sign) (div-one w.size)))
    (round-is-whole binary64 w.sign w.size z w.is b)

-- THE LAW for every whole time, in the range and beyond it
module _ {t : Float} {z : ℤ} (w : IsWhole t z) where
  pub clip-inside-whole : InRange z → time_clip_f t ≡ of_int binary64 z
  clip-inside-whole r =
      clip-within t (is_true (finite t) (whole-finite w)) (lt-fails (num-whole 8640000000000000 (lit≤ tt)) (abs-whole w) (omega (ints, r)))
      ∙ plus-zero-whole (trunc-fits t) (trunc-small w (omega (arith, r))) (omega (arith, r))

  pub clip-outside-whole : time_range < nat_abs z → time_clip_f t ≡ nan
  clip-outside-whole r =
      clip-beyond t (is_true (finite t) (whole-finite w)) (lt-holds (num-whole 8640000000000000 (lit≤ tt)) (abs-whole w) (omega (ints, r)))

  pub clip-exact : time_clip_f t ≡ time_value (time_clip z)
  clip-exact = by-test (leb (nat_abs z) time_range)
      (λ y. let r : InRange z = leb→le (nat_abs z) time_range y in clip-inside-whole r ∙ ap time_value (sym (clip-inside z r)))
      (λ n. let r : time_range < nat_abs z = nleb→lt (nat_abs z) time_range n in clip-outside-whole r ∙ ap time_value (sym (clip-outside z r)))

-- a whole time of the range that is not 0 is its own value
pub clip-own : (t : Float) → T (fits binary64 t) → ne t (num 0) ≡ true → is_whole_within (num 8_640_000_000_000_000) t ≡ true → t ≡ time_clip_f t
unfolding ne
clip-own t f e h =
    let w = within-is 8640000000000000 (lit≤ tt) t f h in
    let n = eq_no w.whole (num-whole 0 (lit≤ tt)) (denied (eq t (num 0)) e) in
    int-unique f w.whole (plain-nonzero w.whole n) (omega (arith, w.size)) ∙ sym (clip-inside-whole w.whole w.size)
  where
    denied : (a : Bool) → not a ≡ true → a ≡ false
    denied true e = absurd (false≢true e)
    denied false e = refl
