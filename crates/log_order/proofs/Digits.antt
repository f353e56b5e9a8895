-- Numbers in digits keep their order: of two numbers in as many digits the smaller has the smaller bytes; and a row of numbers, each in its own
-- count of digits with fixed bytes behind it, has the order of its numbers from the left. Assumes nothing.
use mathlib.Core.Path.{◌≡◌, ap, subst}
use mathlib.Core.Logic.{inl, inr}
use mathlib.Core.List.{List, [], ◌∷◌, ◌++◌}
use Prim.Native.Nat.{ℕ, zero, suc, ◌*◌, ◌/◌, ◌%◌, ◌^◌, ◌≤◌, ◌<◌}
use native.Mathlib.Nat.{div-add-mod', mod-lt, le-div_iff_mul-le}
use native.Mathlib.Omega.{arith}
use lib.Dec.{ltb, ltb→lt, nltb→le}
use Rattle.std.specs.List.{AllZip}
use Rattle.integers.proofs.Int.{by-test}
use Rattle.ecma262.specs.Digits.{digit, digits}
use Rattle.ecma262.proofs.Digits.{ten-pos, digits-split}
use Rattle.log_order.specs.Smaller.{Smaller}
use Rattle.log_order.proofs.Smaller.{at-once, later, after, none-before-empty, heads}

-- the first two digits decide, and where they are the same the numbers that are left
first-or-rest : {n a b : ℕ} → 0 < n → a < b → b / n ≤ a / n → (a / n ≡ b / n) × (a % n < b % n)
first-or-rest {n} {a} {b} p h k =
    let same : a / n ≡ b / n = let l : a / n ≤ b / n = (le-div_iff_mul-le {k = n} {x = a / n} {y = b} p).1 (omega (arith, div-add-mod' a n)) in omega arith in
    (same, omega (arith, div-add-mod' a n, div-add-mod' b n, ap (λ q. q * n) same))

pub digits-ordered : (w : ℕ) {a b : ℕ} (s t : List ℕ) → a < b → b < 10 ^ w → Smaller (digits w a ++ s) (digits w b ++ t)
digits-ordered zero s t h k = absurd (omega arith)
digits-ordered (suc w) {a} {b} s t h k =
    rw (digits-split w a (omega arith), digits-split w b k)
    (by-test (ltb (a / 10 ^ w) (b / 10 ^ w)) (λ c. at-once (digits w (a % 10 ^ w) ++ s) (digits w (b % 10 ^ w) ++ t) (let l : a / 10 ^ w < b / 10 ^ w = ltb→lt _ _ c in omega arith))
    (λ c. let r : (a / 10 ^ w ≡ b / 10 ^ w) × (a % 10 ^ w < b % 10 ^ w) = first-or-rest (ten-pos w) h (nltb→le _ _ c) in
    later (ap digit r.0) (digits-ordered w s t r.1 (mod-lt b (ten-pos w)))))

-- ---- a row of numbers: how many digits each has, and the bytes behind it
pub record Place : Type 0 where
  pub width : ℕ
  pub behind : List ℕ

abbrev pub prints : List Place → List ℕ → List ℕ
prints [] ns = []
prints (p ∷ ps) [] = []
prints (p ∷ ps) (n ∷ ns) = digits p.width n ++ (p.behind ++ prints ps ns)

-- the numbers are as many as the places and fit into them
abbrev pub Fit : List Place → List ℕ → Type 0
Fit ps ns = AllZip (λ (p : Place) (n : ℕ). n < 10 ^ p.width) ps ns

pub row-ordered : (ps : List Place) (ns ms : List ℕ) → Fit ps ns → Fit ps ms → Smaller ns ms → Smaller (prints ps ns) (prints ps ms)
row-ordered [] ns [] f g r = absurd (none-before-empty r)
row-ordered [] ns (m ∷ ms) f g r = absurd g
row-ordered (p ∷ ps) [] ms f g r = absurd f
row-ordered (p ∷ ps) (n ∷ ns) [] f g r = absurd g
row-ordered (p ∷ ps) (n ∷ ns) (m ∷ ms) f g r =
    elim (heads r) [
      | inl h ↦ digits-ordered p.width (p.behind ++ prints ps ns) (p.behind ++ prints ps ms) h g.0
      | inr e ↦
          subst (λ d. Smaller (prints (p ∷ ps) (n ∷ ns)) (digits p.width d ++ (p.behind ++ prints ps ms))) e.0
          (after (digits p.width n) (after p.behind (row-ordered ps ns ms f.1 g.1 e.1)))
    ]
