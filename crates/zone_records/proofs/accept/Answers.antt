-- `zone_records::accept` meets its contract: the size, the first offset, and each record and the next. Assumes nothing.
use mathlib.Core.Path.{sym, ap, ◌∙◌}
use mathlib.Core.Bool.{true≢false}
use Prim.Native.Nat.{◌≤◌}
use lib.Dec.{leb}
use lib.IntN.{nat_abs}
use lib.ListN.{length, get_or}
use mir.Syntax.{w32}
use mir.Val.{SFits}
use Rattle.std.proofs.Common.{rules}
use Rattle.integers.proofs.Machine.{kept}
use Rattle.zone_records.proofs.Slices.{none, judged, other_size, out_of_bounds}
use Rattle.zone_records.proofs.accept.Goals as goal
use Rattle.zone_records.proofs.accept.Goals.{then-contains, else-contains}

pub returns-then-is_bounded : goal.returns-then-is_bounded
returns-then-is_bounded c =
    elim c.if-contains.branch [
      | then-contains w ↦
          let some : 1 ≤ length c.args.zone.now = search rules in
          let few : length c.args.zone.now ≤ 1024 = search rules in
          let fits : SFits w32 (get_or c.args.zone.now 0 none).offset = search rules in
          judged _ some few (sym (w.is_bounded.ensures ∙ ap (λ z. leb (nat_abs z) 86399) (kept fits)) ∙ sym w.value-is ∙ c.if-is_bounded.true) _ c.all_follow.ensures
      | else-contains w ↦ absurd (true≢false (sym c.if-is_bounded.true ∙ w.value-is ∙ w.if-contains.false))
    ]

pub returns-else-is_bounded : goal.returns-else-is_bounded
returns-else-is_bounded c =
    elim c.if-contains.branch [
      | then-contains w ↦
          let some : 1 ≤ length c.args.zone.now = search rules in
          let fits : SFits w32 (get_or c.args.zone.now 0 none).offset = search rules in
          c.if-is_bounded.false ∙ out_of_bounds _ some (sym (w.is_bounded.ensures ∙ ap (λ z. leb (nat_abs z) 86399) (kept fits)) ∙ sym w.value-is ∙ c.if-is_bounded.false)
      | else-contains w ↦ c.if-is_bounded.false ∙ other_size _ (λ some few. search rules)
    ]
