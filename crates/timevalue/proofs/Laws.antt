-- What `time_value_of` says of 64 bits: `Time t` is a whole number t of the range, not -0, with the value of the bits; `Nan` is a pattern of
-- NaN; `None` is neither. Each whole number of the range, by its bits, is that time. Assumes nothing.
use mathlib.Core.Path.{◌≡◌, refl, sym, ap, ◌∙◌, subst}
use mathlib.Core.Bool.{Bool, true, false, true≢false}
use Prim.Native.Nat.{ℕ}
use native.Mathlib.Nat.{le_trans}
use lib.Dec.{T, lit≤}
use lib.IntN.{ℤ}
use Rattle.std.specs.Prelude.{Some, None}
use lib.Ieee.{Float, nan, binary64, of_bits, to_bits, of_int, is_nan, fits}
use lib.Ieee.Bits.{of_bits-to_bits, of_bits-fits, is_false}
use lib.Ieee.Fits.{of_int-fits}
use Rattle.ecma262.specs.Date.{time_range, InRange}
use Rattle.float.specs.Whole.{IsWhole, trunc_z}
use Rattle.float.specs.Rounding.{plus_zero}
use Rattle.float.proofs.Whole.{of_int-whole}
use Rattle.float.proofs.Within.{within-holds, within-is, plus-zero-whole}
use Rattle.float.proofs.Rounding.{whole-finite, trunc_z-whole}
use Rattle.float.proofs.Special.{nan-only, finite_number}
use Rattle.timevalue.specs.declared.TimeValue.TheVariants.{Time, Nan}
use Rattle.timevalue.specs.TimeValue.{IsTime, is_time, judged, time_value_of}

-- ---- the test is the record, both ways
pub time-holds : (x : Float) → T (fits binary64 x) → IsTime x → is_time x ≡ true
unfolding is_time
time-holds x h w = within-holds time_range (lit≤ tt) x h (record { whole = w.whole; size = w.range })

pub time-is : (x : Float) → T (fits binary64 x) → is_time x ≡ true → IsTime x
unfolding is_time
time-is x h t = let w = within-is time_range (lit≤ tt) x h t in record { whole = w.whole; range = w.size }

-- ---- what is handed on

-- t, from a pattern that has the value x: the f64 of a whole number of the range, as `as` makes it
pub record Taken (x t : Float) : Type 0 where
  pub time : IsTime t
  pub number : t ≡ of_int binary64 (trunc_z t)
  pub value : IsWhole x (trunc_z t)

plus-zero-taken : (x : Float) → T (fits binary64 x) → IsTime x → Taken x (plus_zero x)
plus-zero-taken x f w =
    let e = plus-zero-whole f w.whole (le_trans w.range (lit≤ tt)) in
    let u : IsWhole (plus_zero x) (trunc_z x) = subst (λ t. IsWhole t (trunc_z x)) (sym e) (of_int-whole binary64 (trunc_z x) (le_trans w.range (lit≤ tt))) in
    let same : trunc_z x ≡ trunc_z (plus_zero x) = sym (trunc_z-whole u) in
    record {
      time = record { whole = subst (IsWhole (plus_zero x)) same u; range = subst InRange same w.range };
      number = e ∙ ap (of_int binary64) same;
      value = subst (IsWhole x) same w.whole;
    }

-- The law: the three answers, and when each is given
pub data Judged (bits : ℕ) : Type 0 where
  is-time : (t : Float) → time_value_of bits ≡ Some (Time t) → Taken (of_bits binary64 bits) t → Judged bits
  is-nan : time_value_of bits ≡ Some Nan → of_bits binary64 bits ≡ nan → Judged bits
  is-refused : time_value_of bits ≡ None → (of_bits binary64 bits ≡ nan → ⊥) → (IsTime (of_bits binary64 bits) → ⊥) → Judged bits

real : (x : Float) → is_nan x ≡ false → x ≡ nan → ⊥
unfolding is_nan
real x n e = true≢false (ap is_nan (sym e) ∙ n)

pub judge : (bits : ℕ) → Judged bits
unfolding time_value_of
judge bits = go (is_nan x) (is_time x) refl refl
  where
    x : Float
    x = of_bits binary64 bits

    f : T (fits binary64 x)
    f = of_bits-fits binary64 bits

    go : (n t : Bool) → is_nan x ≡ n → is_time x ≡ t → Judged bits
    go true t n e = is-nan (rw n) (nan-only x n)
    go false true n e = is-time (plus_zero x) (rw (n, e)) (plus-zero-taken x f (time-is x f e))
    go false false n e = is-refused (rw (n, e)) (real x n) (λ w. true≢false (sym (time-holds x f w) ∙ e))

-- so a time that is taken is one
pub time-taken : (bits : ℕ) (t : Float) → time_value_of bits ≡ Some (Time t) → Taken (of_bits binary64 bits) t
time-taken bits t e = go (judge bits)
  where
    go : Judged bits → Taken (of_bits binary64 bits) t
    go (is-time u p k) = subst (Taken (of_bits binary64 bits)) (cc) k
    go (is-nan p k) = cc
    go (is-refused p j k) = cc

-- ---- the bits of each time, and of NaN
pub time-back : (z : ℤ) → InRange z → time_value_of (to_bits binary64 (of_int binary64 z)) ≡ Some (Time (of_int binary64 z))
unfolding time_value_of
time-back z r = ap judged (of_bits-to_bits binary64 x (of_int-fits binary64 z)) ∙ rw (no_nan, time-holds x f w) (ap (λ (y : Float). Some (Time y)) same)
  where
    x : Float
    x = of_int binary64 z

    f : T (fits binary64 x)
    f = of_int-fits binary64 z

    u : IsWhole x z
    u = of_int-whole binary64 z (le_trans r (lit≤ tt))

    w : IsTime x
    w = let e : z ≡ trunc_z x = sym (trunc_z-whole u) in record { whole = subst (IsWhole x) e u; range = subst InRange e r }

    k : Taken x (plus_zero x)
    k = plus-zero-taken x f w

    same : plus_zero x ≡ x
    same = k.number ∙ ap (of_int binary64) (sym (trunc_z-whole k.value) ∙ trunc_z-whole u)

    no_nan : is_nan x ≡ false
    no_nan = is_false (is_nan x) (finite_number x (whole-finite u))
