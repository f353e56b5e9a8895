-- Change request 9's order of bytes: "smaller …, byte by byte from the left". Definitions only. Assumes nothing.
use Rattle.std.specs.Prelude.{◌≡◌, Bool, true, false, cond, List, [], ◌∷◌, ◌++◌, ℕ, ◌<◌, eqb, ltb, ⊤}

-- From the first place on at which two lists differ: the first has the smaller byte there, or has ended where the second goes on.
abbrev pub SmallerHere : List ℕ → List ℕ → Type 0
SmallerHere s [] = ⊥
SmallerHere [] (y ∷ t) = ⊤
SmallerHere (x ∷ s) (y ∷ t) = x < y

-- s is smaller than t: after the bytes that both begin with, it is smaller at the first place where they differ
pub record Smaller (s t : List ℕ) : Type 0 where
  pub same : List ℕ
  pub s_rest : List ℕ
  pub t_rest : List ℕ
  pub s-is : s ≡ same ++ s_rest
  pub t-is : t ≡ same ++ t_rest
  pub here : SmallerHere s_rest t_rest

-- It is computed from the left.
abbrev pub smaller : List ℕ → List ℕ → Bool
smaller s [] = false
smaller [] (y ∷ t) = true
smaller (x ∷ s) (y ∷ t) = cond (ltb x y) true (cond (eqb x y) (smaller s t) false)
