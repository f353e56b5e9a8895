-- What the library's search answers of a list whose seconds rise: the record before the partition point decides, or the first. Over any type of
-- element that a second is read of. Assumes nothing.
use mathlib.Core.Path.{◌≡◌, refl, sym, subst}
use mathlib.Core.Bool.{true, false}
use mathlib.Core.List.{List}
use mathlib.Core.Logic.{◌⊎◌, inl, inr, ⊎_elim}
use Prim.Native.Nat.{ℕ, zero, suc, ◌-◌, ◌<◌, ◌≤◌}
use native.Mathlib.Nat.{eq-or-lt_of_le}
use native.Mathlib.Omega.{arith}
use lib.IntN.{ℤ}
use lib.ListN.{length, get_or}
use lib.Signed.{le_z, ◌≤ℤ◌, ◌<ℤ◌}
use Rattle.std.proofs.lemmas.List.{get_or_default}
use Rattle.std.specs.List.Sorted.{IsPartitionedBy, IsPartitionPoint}
use Rattle.integers.proofs.Int.{ints}
use Rattle.integers.proofs.Machine.{le-true, le-false}
use Rattle.zone.specs.Zone.{IsDeciding}
use Rattle.zone.specs.Inner.{Rising}
use Rattle.zone.proofs.Rule.{is_true}

-- s 0, s 1 and so on are the seconds of the elements
module _ {X : Type 0} (second : X → ℤ) (list : List X) (none : X) (s : ℕ → ℤ) (same : (i : ℕ) → i < length list → s i ≡ second (get_or list i none)) (t : ℤ) where
  pub partitioned : Rising s (length list) → IsPartitionedBy (λ x. le_z (second x) t) list
  partitioned up i j d a l e = ⊎_elim (λ (here : i ≡ j). subst (λ (k : ℕ). le_z (second (get_or list k d)) t ≡ true) (sym here) e) earlier (eq-or-lt_of_le a)
    where
      earlier : i < j → le_z (second (get_or list i d)) t ≡ true
      earlier b =
          let rising = up i j b l in
          let last : second (get_or list j none) ≤ℤ t = le-true (subst (λ (x : X). le_z (second x) t ≡ true) (get_or_default list j d none l) e) in
          subst (λ (x : X). le_z (second x) t ≡ true) (get_or_default list i none d (omega arith))
          (is_true _ (let first : second (get_or list i none) ≤ℤ t = omega (ints, rising, last, same i (omega arith), same j l) in first.le))

  pub deciding_before : 0 < length list → (k : ℕ) → k ≤ length list → IsPartitionPoint (λ x. le_z (second x) t ≡ true) (λ x. le_z (second x) t ≡ false) list k → IsDeciding s (length list) t (k - 1)
  deciding_before some k h point =
      record {
        within = omega (arith, h, some);
        started = started k h point;
        last = λ j a l. let past : t <ℤ second (get_or list j none) = le-false (point.1 j none (omega (arith, a)) l) in omega (ints, past, same j l);
      }
    where
      started : (k : ℕ) → k ≤ length list → IsPartitionPoint (λ x. le_z (second x) t ≡ true) (λ x. le_z (second x) t ≡ false) list k → (k - 1 ≡ 0) ⊎ (s (k - 1) ≤ℤ t)
      started zero h point = inl refl
      started (suc k) h point = inr (let from : second (get_or list (suc k - 1) none) ≤ℤ t = le-true (point.0 (suc k - 1) none (omega arith) (omega arith)) in omega (ints, from, same (suc k - 1) (omega arith)))
