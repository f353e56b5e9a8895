-- A rule for every number below a written one, by a test that antt computes. Assumes nothing.
use mathlib.Core.Path.{◌≡◌, subst}
use mathlib.Core.Bool.{Bool, true, false}
use Prim.Native.Nat.{ℕ, zero, suc, ◌≤◌, ◌<◌}
use native.Mathlib.Nat.{not-suc-le-zero}
use native.Mathlib.Omega.{arith}
use lib.Dec.{T, ltb, ltb→lt, nltb→le}
use Rattle.integers.proofs.Int.{by-test}

abbrev pub both : Bool → Bool → Bool
both true b = b
both false b = false

pub both_left : (a b : Bool) → T (both a b) → T a
both_left true b t = tt
both_left false b t = t

pub both_right : (a b : Bool) → T (both a b) → T b
both_right true b t = t
both_right false b t = absurd t

-- the test f passes at 0, .., n - 1
abbrev pub all : (ℕ → Bool) → ℕ → Bool
all f zero = true
all f (suc n) = both (f n) (all f n)

pub all-at : (f : ℕ → Bool) (n : ℕ) → T (all f n) → (k : ℕ) → k < n → T (f k)
all-at f zero t k h = absurd (not-suc-le-zero h)
all-at f (suc n) t k h =
    by-test (ltb k n)
    (λ c. all-at f n (both_right (f n) (all f n) t) k (ltb→lt k n c))
    (λ c. let l : n ≤ k = nltb→le k n c in let e : n ≡ k = omega arith in subst (λ x. T (f x)) e (both_left (f n) (all f n) t))
