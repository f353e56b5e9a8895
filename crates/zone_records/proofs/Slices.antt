-- A slice of records read as the zone list's: what is read of the one is what the definitions say of the other. And what the library's calls
-- answer of a slice, in the definitions' words: whether it keeps the rule, and which record decides. Assumes nothing.
use mathlib.Core.Path.{◌≡◌, sym, ap, subst, ◌∙◌}
use mathlib.Core.Bool.{Bool, true, false, true≢false}
use mathlib.Core.List.{List}
use Prim.Native.Nat.{ℕ, zero, suc, ◌+◌, ◌-◌, ◌<◌, ◌≤◌}
use native.Mathlib.Numerals.{add-one}
use native.Mathlib.Omega.{arith}
use lib.Dec.{leb}
use lib.IntN.{ℤ, pos, nat_abs}
use lib.ListN.{length, get_or, length-map, get_or-map}
use lib.Signed.{le_z, lt_z, ◌<ℤ◌, lt_z_yes}
use mir.Facts.{T_not, and_yes, yes_and, leb_yes, yes_leb}
use Rattle.std.specs.List.{AllAdjacentBelow, IsAllAdjacentAnswer}
use Rattle.std.specs.List.Sorted.{IsPartitionedBy, IsPartitionPoint}
use Rattle.integers.proofs.Int.{ints}
use Rattle.integers.proofs.Machine.{true-T, false-T}
use Rattle.zone.specs.Zone.{Record, second_of, offset_of, IsDeciding, IsZoneList, is_zone_list, offset_at}
use Rattle.zone.proofs.Offset.{offset-decided}
use Rattle.zone.proofs.Searched.{partitioned as rising_partitioned, deciding_before}
use Rattle.zone.proofs.Rule.{is_true, is_false, rising-adjacent, is_zone_list-sound, is_zone_list-complete}
use Rattle.zone_records.specs.declared.ZoneRecord.{ZoneRecord}
use Rattle.zone_records.specs.Slice.{as_record, as_records}
use Rattle.zone_records.specs.Inner.{follows}

-- what stands past a slice's end; nothing asks for it
abbrev pub none : ZoneRecord
none = record { second = pos 0; offset = pos 0 }

pub records-length : (list : List ZoneRecord) → length (as_records list) ≡ length list
records-length list = length-map list as_record

pub second_is : (list : List ZoneRecord) (i : ℕ) → second_of (as_records list) i ≡ (get_or list i none).second
second_is list i = ap (λ (r : Record). r.second) (get_or-map as_record list i none)

pub offset-is : (list : List ZoneRecord) (i : ℕ) → offset_of (as_records list) i ≡ (get_or list i none).offset
offset-is list i = ap (λ (r : Record). r.offset) (get_or-map as_record list i none)

-- ---- judging
abbrev pub bounded : ZoneRecord → Bool
bounded z = leb (nat_abs z.offset) 86399

-- what follows another is within the bounds and after it, and the other way round
follows-both : (y z : ZoneRecord) → true ≡ follows y z → (nat_abs z.offset ≤ 86399) × (y.second <ℤ z.second)
follows-both y z e = let both = and_yes (bounded z) (lt_z y.second z.second) (true-T _ (sym e)) in (leb_yes both.0, lt_z_yes both.1)

follows-from : (y z : ZoneRecord) → nat_abs z.offset ≤ 86399 → y.second <ℤ z.second → true ≡ follows y z
follows-from y z b up = sym (is_true _ (yes_and (bounded z) (lt_z y.second z.second) (yes_leb b) up.lt))

module _ (list : List ZoneRecord) where
  -- what keeps the rule
  is-list : 1 ≤ length list → length list ≤ 1024 → bounded (get_or list 0 none) ≡ true → AllAdjacentBelow (λ y z. true ≡ follows y z) list (length list) → true ≡ is_zone_list (as_records list)
  is-list some few first up =
      sym (is_true _ (is_zone_list-complete (as_records list)
      (record {
        some = omega (arith, some, records-length list);
        few = omega (arith, few, records-length list);
        rising = λ i j a b. rising-adjacent (second_of (as_records list)) (length list) next i j a (omega (arith, b, records-length list));
        bounded = λ i l. subst (λ (z : ℤ). nat_abs z ≤ 86399) (sym (offset-is list i)) (within i (omega (arith, l, records-length list)));
      })))
    where
      next : (k : ℕ) → k + 1 < length list → second_of (as_records list) k <ℤ second_of (as_records list) (k + 1)
      next k l = let above = (follows-both (get_or list k none) (get_or list (k + 1) none) (up k none l)).1 in omega (ints, above, second_is list k, second_is list (k + 1))

      within : (i : ℕ) → i < length list → nat_abs (get_or list i none).offset ≤ 86399
      within zero l = leb_yes (true-T _ first)
      within (suc k) l = subst (λ (i : ℕ). nat_abs (get_or list i none).offset ≤ 86399) (add-one k) (follows-both (get_or list k none) (get_or list (k + 1) none) (up k none (omega (arith, l)))).0

  -- and what breaks it
  no-list : (IsZoneList (as_records list) → ⊥) → false ≡ is_zone_list (as_records list)
  no-list wrong = sym (is_false _ (λ e. wrong (is_zone_list-sound (as_records list) (true-T _ e))))

  pub other_size : (1 ≤ length list → length list ≤ 1024 → ⊥) → false ≡ is_zone_list (as_records list)
  other_size wrong = no-list (λ r. wrong (omega (arith, r.some, records-length list)) (omega (arith, r.few, records-length list)))

  kept-bound : IsZoneList (as_records list) → (i : ℕ) → i < length list → nat_abs (get_or list i none).offset ≤ 86399
  kept-bound r i l = subst (λ (z : ℤ). nat_abs z ≤ 86399) (offset-is list i) (r.bounded i (omega (arith, l, records-length list)))

  pub out_of_bounds : 1 ≤ length list → bounded (get_or list 0 none) ≡ false → false ≡ is_zone_list (as_records list)
  out_of_bounds some e = no-list (λ r. T_not (bounded (get_or list 0 none)) (yes_leb (kept-bound r 0 (omega (arith, some)))) (false-T (bounded (get_or list 0 none)) e))

  pub judged : 1 ≤ length list → length list ≤ 1024 → bounded (get_or list 0 none) ≡ true → (b : Bool) → IsAllAdjacentAnswer (λ y z b. b ≡ follows y z) list b → b ≡ is_zone_list (as_records list)
  judged some few first true up = is-list some few first up
  judged some few first false (k, l, down) =
      no-list (λ r. let above = r.rising k (k + 1) (omega arith) (omega (arith, l, records-length list)) in
      let up : (get_or list k none).second <ℤ (get_or list (k + 1) none).second = omega (ints, above, second_is list k, second_is list (k + 1)) in
      true≢false (follows-from (get_or list k none) (get_or list (k + 1) none) (kept-bound r (k + 1) l) up ∙ sym (down none)))

-- ---- the lookup: zone's laws of the library's search, of records
module _ (list : List ZoneRecord) (rule : IsZoneList (as_records list)) (t : ℤ) where
  pub partitioned : IsPartitionedBy (λ (z : ZoneRecord). le_z z.second t) list
  partitioned =
      rising_partitioned (λ (z : ZoneRecord). z.second) list none (second_of (as_records list)) (λ i l. second_is list i) t
      (λ i j a l. rule.rising i j a (omega (arith, l, records-length list)))

  -- the record before the first that is after t decides, or the first
  pub decided : (k : ℕ) → k ≤ length list → IsPartitionPoint (λ z. le_z z.second t ≡ true) (λ z. le_z z.second t ≡ false) list k
      → (get_or list (k - 1) none).offset ≡ offset_at (as_records list) t
  decided k h point =
      sym (offset-is list (k - 1)) ∙ sym (offset-decided (as_records list) t (k - 1)
      (subst (λ (n : ℕ). IsDeciding (second_of (as_records list)) n t (k - 1)) (sym (records-length list))
      (deciding_before (λ (z : ZoneRecord). z.second) list none (second_of (as_records list)) (λ i l. second_is list i) t (omega (arith, rule.some, records-length list)) k h point)))
