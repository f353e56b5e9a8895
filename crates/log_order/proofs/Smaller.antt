-- The order of bytes: how it is built and taken apart from the left, its laws, and that the test computes it. Assumes nothing.
use mathlib.Core.Path.{◌≡◌, refl, sym, ap, ap₂, ◌∙◌, subst}
use mathlib.Core.Bool.{Bool, true, false, not, cond}
use mathlib.Core.Logic.{◌⊎◌, inl, inr, ◌↔◌}
use mathlib.Core.List.{List, [], ◌∷◌, ◌++◌}
use Prim.Native.Nat.{ℕ, ◌≤◌, ◌<◌}
use native.Mathlib.Omega.{arith}
use lib.Dec.{T, T_not, eqb, eqb→eq, eqb_refl, ltb, ltb→lt, nltb→le}
use Rattle.integers.proofs.Int.{by-test, by_cond}
use Rattle.log_order.specs.Smaller.{SmallerHere, Smaller, smaller}

-- ---- from the left
pub ended : (y : ℕ) (t : List ℕ) → Smaller [] (y ∷ t)
ended y t = record { same = []; s_rest = []; t_rest = y ∷ t; s-is = refl; t-is = refl; here = tt }

pub at-once : {x y : ℕ} (s t : List ℕ) → x < y → Smaller (x ∷ s) (y ∷ t)
at-once {x} {y} s t h = record { same = []; s_rest = x ∷ s; t_rest = y ∷ t; s-is = refl; t-is = refl; here = h }

pub later : {x y : ℕ} {s t : List ℕ} → x ≡ y → Smaller s t → Smaller (x ∷ s) (y ∷ t)
later {x} {y} e r = record { same = x ∷ r.same; s_rest = r.s_rest; t_rest = r.t_rest; s-is = ap (λ l. x ∷ l) r.s-is; t-is = ap₂ (λ (z : ℕ) (l : List ℕ). z ∷ l) (sym e) r.t-is; here = r.here }

-- after the same bytes
pub after : (same : List ℕ) {s t : List ℕ} → Smaller s t → Smaller (same ++ s) (same ++ t)
after [] r = r
after (x ∷ same) r = later refl (after same r)

-- and taken apart
pub none-before-empty : {s : List ℕ} → Smaller s [] → ⊥
none-before-empty {s} r = go r.same r.s_rest r.t_rest r.t-is r.here
  where
    go : (same s' t' : List ℕ) → [] ≡ same ++ t' → SmallerHere s' t' → ⊥
    go [] s' t' e h = subst (SmallerHere s') (sym e) h
    go (x ∷ same) s' t' e h = absurd (let f : [] ≡ x ∷ same ++ t' = e in cc)

pub heads : {x y : ℕ} {s t : List ℕ} → Smaller (x ∷ s) (y ∷ t) → (x < y) ⊎ ((x ≡ y) × Smaller s t)
heads {x} {y} {s} {t} r = go r.same r.s_rest r.t_rest r.s-is r.t-is r.here
  where
    go : (same s' t' : List ℕ) → x ∷ s ≡ same ++ s' → y ∷ t ≡ same ++ t' → SmallerHere s' t' → (x < y) ⊎ ((x ≡ y) × Smaller s t)
    go [] s' t' e f h = inl (subst (SmallerHere (x ∷ s)) (sym f) (subst (λ l. SmallerHere l t') (sym e) h))
    go (z ∷ same) s' t' e f h =
        let a : x ≡ z = cc in
        let b : y ≡ z = cc in
        inr (a ∙ sym b, record { same = same; s_rest = s'; t_rest = t'; s-is = cc; t-is = cc; here = h })

-- ---- its laws
pub irreflexive : (s : List ℕ) → Smaller s s → ⊥
irreflexive [] r = none-before-empty r
irreflexive (x ∷ s) r = elim (heads r) [ inl h ↦ omega arith | inr q ↦ irreflexive s q.1 ]

pub transitive : (s t u : List ℕ) → Smaller s t → Smaller t u → Smaller s u
transitive s t [] p q = absurd (none-before-empty q)
transitive s [] (z ∷ u) p q = absurd (none-before-empty p)
transitive [] (y ∷ t) (z ∷ u) p q = ended z u
transitive (x ∷ s) (y ∷ t) (z ∷ u) p q =
    elim (heads p) [
      | inl h ↦ elim (heads q) [ inl k ↦ at-once s u (omega arith) | inr e ↦ at-once s u (omega (arith, e.0)) ]
      | inr d ↦ elim (heads q) [ inl k ↦ at-once s u (omega (arith, d.0)) | inr e ↦ later (d.0 ∙ e.0) (transitive s t u d.1 e.1) ]
    ]

-- of two different lists one is smaller
total : (s t : List ℕ) → (s ≡ t) ⊎ (Smaller s t ⊎ Smaller t s)
total [] [] = inl refl
total [] (y ∷ t) = inr (inl (ended y t))
total (x ∷ s) [] = inr (inr (ended x s))
total (x ∷ s) (y ∷ t) =
    by-test (ltb x y) (λ c. inr (inl (at-once s t (ltb→lt x y c))))
    (λ c. by-test (ltb y x) (λ d. inr (inr (at-once t s (ltb→lt y x d))))
    (λ d. same (total s t) (let h : y ≤ x = nltb→le x y c in let k : x ≤ y = nltb→le y x d in omega arith)))
  where
    same : (s ≡ t) ⊎ (Smaller s t ⊎ Smaller t s) → x ≡ y → (x ∷ s ≡ y ∷ t) ⊎ (Smaller (x ∷ s) (y ∷ t) ⊎ Smaller (y ∷ t) (x ∷ s))
    same (inl f) e = inl (ap₂ (λ (z : ℕ) (l : List ℕ). z ∷ l) e f)
    same (inr (inl r)) e = inr (inl (later e r))
    same (inr (inr r)) e = inr (inr (later (sym e) r))

pub one-is-smaller : (s t : List ℕ) → (s ≡ t → ⊥) → Smaller s t ⊎ Smaller t s
one-is-smaller s t n = elim (total s t) [ inl e ↦ absurd (n e) | inr r ↦ r ]

-- ---- the test
pub computed : (s t : List ℕ) → (smaller s t ≡ true) ↔ Smaller s t
computed s [] = (λ e. absurd (let f : false ≡ true = e in cc), λ r. absurd (none-before-empty r))
computed [] (y ∷ t) = (λ e. ended y t, λ r. refl)
computed (x ∷ s) (y ∷ t) =
    by_cond Is (ltb x y) true (cond (eqb x y) (smaller s t) false) (λ c. (λ e. at-once s t (ltb→lt x y c), λ r. refl))
    (λ c. by_cond Is (eqb x y) (smaller s t) false (λ d. (λ e. later (eqb→eq x y d) ((computed s t).0 e), λ r. elim (heads r) [ inl h ↦ not-less c h | inr q ↦ (computed s t).1 q.1 ]))
    (λ d. (λ e. none e, λ r. elim (heads r) [ inl h ↦ not-less c h | inr q ↦ absurd (T_not (eqb x y) d (subst (λ z. T (eqb x z)) q.0 (eqb_refl x))) ])))
  where
    Is : Bool → Type 0
    Is b = (b ≡ true) ↔ Smaller (x ∷ s) (y ∷ t)

    none : {G : Type 0} → false ≡ true → G
    none e = absurd (cc)

    not-less : {G : Type 0} → T (not (ltb x y)) → x < y → G
    not-less c h = absurd (let k : y ≤ x = nltb→le x y c in omega arith)
