-- What `by_bits` makes of a value: of each change of a pattern that it is called with, that no number becomes a NaN, and what the result is. Assumes nothing.
use Rattle.std.proofs.Common.{◌≡◌, ℕ, ◌+◌, ◌*◌, ◌/◌, ◌%◌, ◌^◌, true, not, T, sym, refl, ap, ◌∙◌, subst}
use lib.Ieee.{Float, nan, inf, fin, binary64, fits, is_nan, nan_bits, of_bits, to_bits}
use Rattle.integers.proofs.Machine.{true-T}
use Rattle.float.specs.Rounding.{abs_f, copysign_f}
use Rattle.float.proofs.Special.{nan-only}
use Rattle.float.proofs.Patterns.{no_nan, bits_back, abs-bits, abs-number, copysign-bits, copysign-number}

-- the result y of a change whose patterns P are those of v
made : {P : ℕ → Type 0} (x y v : Float) → (x ≡ nan → x ≡ v) → ((r : ℕ) → P r → of_bits binary64 r ≡ v)
    → (is_nan x ≡ true → y ≡ x) → (T (not (is_nan x)) → (r : ℕ) × P r × (y ≡ of_bits binary64 r)) → y ≡ v
unfolding is_nan
made nan y v n p a b = a refl ∙ n refl
made (inf s) y v n p a b = let q = b tt in q.2 ∙ p q.0 q.1
made (fin s m e) y v n p a b = let q = b tt in q.2 ∙ p q.0 q.1

-- a change of patterns that is h of their values
module _ (h : Float → Float) (of-nan : h nan ≡ nan) (numbers : (v : Float) → T (not (is_nan v)) → T (not (is_nan (h v)))) (x : Float) (held : fits binary64 x ≡ true) where
  value : (r : ℕ) → of_bits binary64 r ≡ h (of_bits binary64 (to_bits binary64 x)) → of_bits binary64 r ≡ h x
  value r e = e ∙ ap h (bits_back x (true-T _ held))

  pub changed-number : (r : ℕ) → T (not (is_nan x)) → of_bits binary64 r ≡ h (of_bits binary64 (to_bits binary64 x)) → T (not (nan_bits binary64 r))
  changed-number r n e = no_nan r (h x) (value r e) (numbers x n)

  pub changed : (y : Float) → (is_nan x ≡ true → y ≡ x) → (T (not (is_nan x)) → (r : ℕ) × (of_bits binary64 r ≡ h (of_bits binary64 (to_bits binary64 x))) × (y ≡ of_bits binary64 r)) → y ≡ h x
  changed y = made x y (h x) (λ e. e ∙ sym of-nan ∙ ap h (sym e)) value

-- the sign's bit cleared
module _ (x : Float) (held : fits binary64 x ≡ true) where
  abs_of : (r : ℕ) → r ≡ to_bits binary64 x % 2 ^ 63 → of_bits binary64 r ≡ abs_f x
  abs_of r e = ap (of_bits binary64) e ∙ abs-bits x (true-T _ held)

  pub abs_number : (r : ℕ) → T (not (is_nan x)) → r ≡ to_bits binary64 x % 2 ^ 63 → T (not (nan_bits binary64 r))
  abs_number r n e = no_nan r (abs_f x) (abs_of r e) (abs-number x (true-T _ held) n)

  pub abs_made : (y : Float) → (is_nan x ≡ true → y ≡ x) → (T (not (is_nan x)) → (r : ℕ) × (r ≡ to_bits binary64 x % 2 ^ 63) × (y ≡ of_bits binary64 r)) → y ≡ abs_f x
  unfolding abs_f
  abs_made y = made x y (abs_f x) (λ e. e ∙ ap abs_f (sym e)) abs_of

-- ---- the magnitude of x with the sign of y
pub signed_nan : (x y : Float) → is_nan x ≡ true → x ≡ copysign_f x y
unfolding copysign_f
signed_nan x y n = subst (λ v. v ≡ copysign_f v y) (sym (nan-only x n)) refl

module _ (x y : Float) (held : fits binary64 x ≡ true) (held' : fits binary64 y ≡ true) where
  pub signed_of : (r : ℕ) → r ≡ to_bits binary64 y / 2 ^ 63 * 2 ^ 63 + to_bits binary64 x % 2 ^ 63 → of_bits binary64 r ≡ copysign_f x y
  signed_of r e = ap (of_bits binary64) e ∙ copysign-bits x y (true-T _ held) (true-T _ held')

  pub signed_number : T (not (is_nan x)) → T (not (nan_bits binary64 (to_bits binary64 y / 2 ^ 63 * 2 ^ 63 + to_bits binary64 x % 2 ^ 63)))
  signed_number n = no_nan _ (copysign_f x y) (signed_of _ refl) (copysign-number x y (true-T _ held) (true-T _ held') n)
