-- What is said of a year or an offset as it is read back from its bits holds of the number. Assumes nothing.
use mathlib.Core.Path.{◌≡◌, subst}
use mathlib.Core.List.{List}
use Prim.Native.Nat.{ℕ, ◌≤◌}
use native.Mathlib.Omega.{arith}
use lib.ListN.{length}
use lib.IntN.{ℤ, pos, negsuc, nat_abs}
use mir.Syntax.{w32}
use mir.Val.{SFits, to_z, of_z}
use mir.Facts.{to_z-of_z}
use Rattle.ecma262.specs.Texts.{signed_year, year_sign, time_zone_string}
use Rattle.integers.proofs.Int.{abs-in}
use Rattle.integers.proofs.Machine.{fits32}
use Rattle.text.specs.Inner.{Appended}
use Rattle.text.specs.declared.output.Output.{Output}

pub at-fitting : (P : ℤ → Type 0) {x : ℤ} → SFits w32 x → P (to_z w32 (of_z w32 x)) → P x
at-fitting P f p = subst P (to_z-of_z f) p

pub year-fits : (x : ℤ) → nat_abs x ≤ 999999 → SFits w32 x
year-fits x h = fits32 x (omega (arith, abs-in x h))

pub year-long : (x : ℤ) {n : ℕ} → nat_abs x ≤ 999999 → length (signed_year (to_z w32 (of_z w32 x))) ≡ n → length (signed_year x) ≡ n
year-long x {n} h e = at-fitting (λ y. length (signed_year y) ≡ n) (year-fits x h) e

pub put-fitting : (w : ℤ → List ℕ) {x : ℤ} {a b : Output} → SFits w32 x → Appended a (w (to_z w32 (of_z w32 x))) (length (w (to_z w32 (of_z w32 x)))) b → Appended a (w x) (length (w x)) b
put-fitting w {a = a} {b} f p = at-fitting (λ z. Appended a (w z) (length (w z)) b) f p

pub zone-put : {x : ℤ} {a b : Output} → SFits w32 x → Appended a (time_zone_string (to_z w32 (of_z w32 x))) 5 b → Appended a (time_zone_string x) 5 b
zone-put {a = a} {b} f p = at-fitting (λ z. Appended a (time_zone_string z) 5 b) f p

-- the sign of a year is one byte, or none
pub sign-short : (y : ℤ) → length (year_sign y) ≤ 1
unfolding year_sign
sign-short (pos y) = omega arith
sign-short (negsuc y) = omega arith
