-- `ZoneList::halve` meets its contract: halving keeps `Narrowed`. Assumes nothing.
use mathlib.Core.Path.{refl, subst, ◌∙◌}
use native.Mathlib.Omega.{arith}
use lib.IntN.{ℤ}
use lib.Signed.{◌≤ℤ◌, ◌<ℤ◌}
use mir.Syntax.{w64}
use mir.Val.{to_z, of_z}
use Rattle.integers.proofs.Machine.{kept, le-true, le-false}
use Rattle.zone.proofs.Narrowed.{halved-up, halved-down}
use Rattle.zone.proofs.ZoneList.halve.Goals as goal
use Rattle.zone.proofs.ZoneList.halve.Goals.{then-second_at-second, else-second_at-second}

pub returns : goal.returns
returns c =
    let list = c.args.self in
    let run = c.args.run in
    let read = c.second_at in
    let z = to_z w64 (of_z w64 read.result) in
    let is = kept {w = w64} (record { sfits = read.type_inv }) ∙ read.ensures in (
      elim c.if-second_at-second.branch [
        | then-second_at-second w ↦ halved-up list.bytes.now list.accepted c.args.second run.low run.size _ z c.requires (omega arith) is (subst (λ (t : ℤ). z ≤ℤ t) (kept c.ranges.second) (le-true w.if-second_at-second.true)) w.low-is
        | else-second_at-second w ↦ halved-down list.bytes.now list.accepted c.args.second run.low run.size _ z c.requires (omega arith) is (subst (λ (t : ℤ). t <ℤ z) (kept c.ranges.second) (le-false w.if-second_at-second.false)) w.low-is
      ],
      refl,
    )
