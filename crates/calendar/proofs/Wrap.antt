-- An i32 that wraps is what is left modulo 2^32, as std's methods and the definitions have it; and a `bool` as a number. Assumes nothing.
use Rattle.std.specs.Int.{int_wrap}
use mathlib.Core.Path.{◌≡◌, refl, ap, ◌∙◌}
use mathlib.Core.Bool.{Bool, true, false, cond}
use Prim.Native.Nat.{ℕ, suc, ◌-◌, ◌<◌, ◌≤◌}
use native.Mathlib.Omega.{arith}
use lib.Dec.{ltb, ltb→lt, nltb→le, lit≤}
use lib.IntN.{ℤ, pos, negsuc, ◌+ℤ◌}
use lib.Signed.{mag}
use mir.Syntax.{w32}
use mir.Val.{SFits, to_z, bool_byte}
use mir.Facts.{to_z_pos}
use Rattle.integers.specs.Whole.{floor_mod}
use Rattle.integers.proofs.Int.{ints, mod-small, by-test, Facts, at, ◌+ᵗ◌, ◌-ᵗ◌, ◌/ᵗ◌, read}
use Rattle.integers.proofs.Machine.{kept}
use Rattle.calendar.specs.Calendar.{wrap32}

-- the number that the 32 bits r are
high : (r : ℕ) → 2147483648 ≤ r → r < 4294967296 → to_z w32 r ≡ negsuc (4294967295 - r)
high r l h =
    let e : r ≡ 4294967296 - suc (4294967295 - r) = omega arith in
    let f : SFits w32 (negsuc (4294967295 - r)) = record { sfits = omega arith } in
    ap (to_z w32) e ∙ kept f

signed-by : (r : ℕ) → r < 4294967296 → (z : ℤ) → r ≡ floor_mod z 4294967296 → to_z w32 r ≡ wrap32 z
unfolding wrap32
signed-by r h z e =
    by-test (ltb r 2147483648)
    (λ c. let l : r < 2147483648 = ltb→lt r 2147483648 c in to_z_pos w32 l ∙ omega (ints, l, e, facts))
    (λ c. let l : 2147483648 ≤ r = nltb→le r 2147483648 c in high r l h ∙ omega (ints, l, h, e, facts))
  where
    facts : Facts (at z /ᵗ 4294967296) × Facts ((at z +ᵗ at (pos 2147483648)) /ᵗ 4294967296) × Facts (at (pos (floor_mod (z +ℤ pos 2147483648) 4294967296)) -ᵗ at (pos 2147483648))
    facts = (read (at z /ᵗ 4294967296), read ((at z +ᵗ at (pos 2147483648)) /ᵗ 4294967296), read (at (pos (floor_mod (z +ℤ pos 2147483648) 4294967296)) -ᵗ at (pos 2147483648)))

pub wrap-is : (z : ℤ) → int_wrap w32 z ≡ wrap32 z
unfolding int_wrap
wrap-is (pos n) = signed-by _ (mod-small (pos n) 4294967295) (pos n) refl
wrap-is (negsuc n) = signed-by _ (omega (arith, mod-small (negsuc n) 4294967295)) (negsuc n) (omega arith)

-- the range of an i32, as a call's `.ok` has it
pub of-32 : {x : ℤ} → mag x < 2147483648 → SFits w32 x
of-32 h = record { sfits = h }

-- ---- 1 for true, else 0
pub bit : (b : Bool) → cond b 1 0 ≤ 1
bit true = lit≤ tt
bit false = lit≤ tt

pub byte_is : (b : Bool) → bool_byte b ≡ cond b 1 0
byte_is true = refl
byte_is false = refl
