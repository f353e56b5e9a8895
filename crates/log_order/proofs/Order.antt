-- The order of instants is that of their texts, both ways, and so it is of what the two functions write. Assumes nothing.
use mathlib.Core.Path.{◌≡◌, sym, ap, subst}
use mathlib.Core.Logic.{◌↔◌}
use mathlib.Core.List.{List}
use Prim.Native.Nat.{ℕ, ◌≤◌}
use native.Mathlib.Omega.{arith}
use lib.IntN.{ℤ, nat_abs}
use lib.Signed.{lt_z, ◌≤ℤ◌, ◌<ℤ◌, lt_z_yes, lt_z_no}
use Rattle.integers.proofs.Int.{ints, by-test}
use Rattle.ecma262.specs.Date.{InRange}
use Rattle.ecma262.specs.Texts.{iso_text}
use Rattle.ecma262.proofs.Written.{iso-injective}
use Rattle.log_order.specs.Smaller.{Smaller}
use Rattle.log_order.specs.Log.{InYears0To9999, Line}
use Rattle.log_order.proofs.Smaller.{irreflexive, transitive}
use Rattle.log_order.proofs.Fields.{earlier-smaller}
use Rattle.log_order.proofs.Years.{years-in-range}
use Rattle.log_order.proofs.Lines.{line-text}

-- ---- of the texts
module _ (t u : ℤ) (a : InYears0To9999 t) (b : InYears0To9999 u) where
  smaller-earlier : Smaller (iso_text t) (iso_text u) → t <ℤ u
  smaller-earlier r =
      by-test (lt_z t u) (λ c. lt_z_yes c)
      (λ c. absurd (by-test (lt_z u t) (λ d. irreflexive (iso_text t) (transitive (iso_text t) (iso_text u) (iso_text t) r (earlier-smaller u t b a (lt_z_yes d))))
      (λ d. irreflexive (iso_text u) (subst (λ z. Smaller (iso_text z) (iso_text u)) (let g : u ≤ℤ t = lt_z_no c in let h : t ≤ℤ u = lt_z_no d in omega ints) r))))

  pub text-order : (t <ℤ u) ↔ Smaller (iso_text t) (iso_text u)
  text-order = (earlier-smaller t u a b, smaller-earlier)

  pub text-equal : (t ≡ u) ↔ (iso_text t ≡ iso_text u)
  text-equal = (ap iso_text, iso-injective t u (shown t a) (shown u b))
    where
      shown : (z : ℤ) → InYears0To9999 z → nat_abs z ≤ 8_640_000_086_399_000
      shown z y = let r : InRange z = years-in-range z y in omega arith

-- ---- of the lines
module _ {t u : ℤ} {s w : List ℕ} (p : Line t s) (q : Line u w) where
  pub line-order : (t <ℤ u) ↔ Smaller s w
  line-order = subst (λ x. (t <ℤ u) ↔ Smaller x w) (sym (line-text p)) (subst (λ x. (t <ℤ u) ↔ Smaller (iso_text t) x) (sym (line-text q)) (text-order t u p.0 q.0))

  pub line-equal : (t ≡ u) ↔ (s ≡ w)
  line-equal = subst (λ x. (t ≡ u) ↔ (x ≡ w)) (sym (line-text p)) (subst (λ x. (t ≡ u) ↔ (iso_text t ≡ x)) (sym (line-text q)) (text-equal t u p.0 q.0))
