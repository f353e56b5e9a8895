-- A float that is a whole number, and the whole numbers next to a float. Definitions only.
-- `fin s m e` is the number m * 2 ^ e, negative where s is true, and 2 ^ e is the fraction up e / down e (logic/Lib/Ieee.antt).
-- So its magnitude is the fraction m * up e / down e.
use Rattle.std.specs.Prelude.{◌≡◌, ℕ, ◌*◌, ◌/◌, ◌≤◌, Bool, true, false, not, ◌&&◌, ℤ, pos, neg_ℤ, ◌==◌, unsigned_abs, Float}
use Rattle.std.specs.Float.{nan, inf, fin}
use Rattle.std.specs.Float.Ieee.{up, down}
use Rattle.std.specs.Float.Ieee.Exact.{HasValue}
use Rattle.integers.specs.Whole.{floor_div}

-- n, or -n where s is true
abbrev pub signed : Bool → ℕ → ℤ
signed true n = neg_ℤ (pos n)
signed false n = pos n

-- x is finite and its value is the whole number z. Both zeros are 0.
pub record IsWhole (x : Float) (z : ℤ) : Type 0 where
  pub sign : Bool
  pub size : ℕ
  pub value : HasValue x sign size 1
  pub is : signed sign size ≡ z

-- The largest whole number that is not above the value of x: toward minus infinity. Of a NaN and an infinity it says nothing: 0.
unfoldable pub floor_z : Float → ℤ
floor_z nan = pos 0
floor_z (inf s) = pos 0
floor_z (fin s m e) = floor_div (signed s (m * up e)) (down e)

-- The value of x without its fraction: toward zero. Of a NaN and an infinity it says nothing: 0.
unfoldable pub trunc_z : Float → ℤ
trunc_z nan = pos 0
trunc_z (inf s) = pos 0
trunc_z (fin s m e) = signed s (m * up e / down e)

-- x is a whole number, and no larger than n either way
pub record WholeWithin (n : ℕ) (x : Float) : Type 0 where
  pub whole : IsWhole x (trunc_z x)
  pub size : unsigned_abs (trunc_z x) ≤ n

-- x is not -0, the one zero that Rattle's `as` an integer refuses
abbrev pub plain : Float → Bool
plain nan = true
plain (inf s) = true
plain (fin s m e) = not (s && m == 0)
