-- "searched by a thin lookup proved equal to the byte form's": whatever the functions answer, of bytes and of a slice that holds their records,
-- is the same, since the contracts name one definition. So it is with `accept` of bytes and of a slice. Assumes nothing.
use mathlib.Core.Path.{◌≡◌, sym, ap, ◌∙◌}
use mathlib.Core.Bool.{Bool, ◌&&◌}
use mathlib.Core.List.{List}
use Prim.Native.Nat.{ℕ, ◌*◌}
use native.Mathlib.Omega.{arith}
use lib.Dec.{eqb}
use lib.IntN.{ℤ}
use lib.ListN.{length}
use mir.Facts.{yes_eqb}
use Rattle.zone.specs.Zone.{Record, records, is_zone_list, accepts, offset_at}
use Rattle.zone.proofs.Rule.{is_true}
use Rattle.zone_records.specs.declared.ZoneRecord.{ZoneRecord}
use Rattle.zone_records.specs.Slice.{as_records}
use Rattle.zone_records.proofs.Slices.{records-length}

module _ (bytes : List ℕ) (zone : List ZoneRecord) (holds : records bytes ≡ as_records zone) where
  -- r is what `ZoneList::lookup` of zone ensures of the bytes, and s what `lookup` ensures of the slice
  pub same-lookup : (t r s : ℤ) → r ≡ offset_at (records bytes) t → s ≡ offset_at (as_records zone) t → s ≡ r
  same-lookup t r s of-bytes of-slice = of-slice ∙ ap (λ (list : List Record). offset_at list t) (sym holds) ∙ sym of-bytes

  -- r is what `ZoneList::accept` of zone answers, whether there is a list, of bytes that are whole records, and s what `accept` ensures of the slice
  pub same-accept : length bytes ≡ 12 * length zone → (r s : Bool) → r ≡ accepts bytes → s ≡ is_zone_list (as_records zone) → s ≡ r
  unfolding accepts
  same-accept whole r s of-bytes of-slice =
      let size : length bytes ≡ 12 * length (records bytes) = omega (arith, whole, ap length holds, records-length zone) in
      of-slice ∙ ap is_zone_list (sym holds) ∙ ap (λ (b : Bool). b && is_zone_list (records bytes)) (sym (is_true (eqb (length bytes) (12 * length (records bytes))) (yes_eqb size))) ∙ sym of-bytes
