-- A number in decimal is what std writes of it, of 64 bits, and so is a signed one; and what room it takes. Assumes nothing.
use mathlib.Core.Path.{◌≡◌, sym, ap, ◌∙◌}
use mathlib.Core.Bool.{Bool, true, false, cond}
use mathlib.Core.List.{List, [], ◌∷◌, ◌++◌}
use Prim.Native.Nat.{ℕ, zero, suc, ◌/◌, ◌%◌, ◌^◌, ◌≤◌, ◌<◌}
use native.Mathlib.Omega.{arith}
use borrow.Author.Tests.{lt-ltb, le-ltb}
use lib.Dec.{ltb}
use lib.IntN.{ℤ, pos, negsuc}
use lib.Signed.{mag}
use lib.ListN.{length, length-append}
use Rattle.std.specs.Fmt.{decimal as std_decimal, signed_decimal as std_signed}
use Rattle.std.proofs.lemmas.Fmt.{AppendsLastDigit, decimal_from_appends, length-decimal-le}
use mir.Syntax.{w64}
use mir.Val.{SFits, to_z, of_z}
use Rattle.integers.proofs.Machine.{kept}
use Rattle.ecma262.specs.Digits.{digit}
use Rattle.ecma262.specs.Texts.{ascii}
use Rattle.datelines.specs.Lines.{decimal_within, decimal, signed_decimal}

by-digits : AppendsLastDigit decimal_within
unfolding decimal_within
by-digits =
    record {
      one = λ k n h. rw (lt-ltb n 10 h);
      more = λ k n h. rw (le-ltb n 10 h);
    }

decimal-std : (n : ℕ) → n < 2 ^ 64 → std_decimal n ≡ decimal n
decimal-std n h = sym (decimal_from_appends decimal_within by-digits 20 n h (length-decimal-le 20 n (omega arith) (omega arith) h))

signed-std : (z : ℤ) → mag z < 2 ^ 63 → std_signed z ≡ signed_decimal z
unfolding signed_decimal
signed-std (pos n) h = decimal-std n (omega arith)
signed-std (negsuc n) h = ap (λ (s : List ℕ). ascii "-" ++ s) (decimal-std (suc n) (omega arith))

-- a number that is printed, and one of the machine's
pub decimal-is : {x n : ℕ} → x ≡ n → n < 2 ^ 64 → std_decimal x ≡ decimal n
decimal-is e h = ap std_decimal e ∙ decimal-std _ h

pub signed-is : {x z : ℤ} → SFits w64 x → x ≡ z → std_signed (to_z w64 (of_z w64 x)) ≡ signed_decimal z
signed-is {x} f e = ap std_signed (kept f) ∙ signed-std x f.sfits ∙ ap signed_decimal e

-- one of one digit
pub one_digit : (n : ℕ) → n < 10 → decimal n ≡ digit n ∷ []
unfolding decimal_within
one_digit n h = rw (lt-ltb n 10 h)

pub within : (k n : ℕ) → length (decimal_within k n) ≤ k
unfolding decimal_within
within zero n = omega arith
within (suc k) n = go (ltb n 10) (within k (n / 10))
  where
    go : (b : Bool) → length (decimal_within k (n / 10)) ≤ k → length (cond b (digit n ∷ []) (decimal_within k (n / 10) ++ (digit (n % 10) ∷ []))) ≤ suc k
    go true h = omega arith
    go false h = simp length-append (omega arith)

-- with its sign
pub signed-length : (z : ℤ) → length (signed_decimal z) ≤ 21
unfolding signed_decimal
signed-length (pos n) = omega (arith, within 20 n)
signed-length (negsuc n) = omega (arith, within 20 (suc n))
