-- `text::last_digits` meets its contract: each step puts the next digit before the others. Assumes nothing.
use mathlib.Core.Path.{◌≡◌, ap, sym, subst, ◌∙◌}
use Prim.Native.Nat.{ℕ, ◌+◌, ◌%◌}
use native.Mathlib.Omega.{arith}
use Rattle.text.proofs.Places.{FromPlace, next_place, highest}
use Rattle.text.proofs.output.last_digits.Goals as goal
use Rattle.text.proofs.output.last_digits.Goals.{then-i-eq0, else-i-eq0}

pub loop-i-preserved : goal.loop-i-preserved
loop-i-preserved g c = next_place _ _ _ _ _ _ (ap (λ (d : ℕ). 48 + d) digit) c.loop-i-test.true c.loop-i.auto.i c.loop-i.invariant
  where
    -- at the first place nothing stands before it
    digit : c.if-i-eq0.digit ≡ c.loop-i.rest % 10
    digit =
        elim c.if-i-eq0.branch [
          | then-i-eq0 w ↦
              let one : c.loop-i.i ≡ 1 = omega (arith, w.if-i-eq0.true, c.loop-i-test.true) in
              w.digit-is ∙ sym (highest g.row.N c.args.t c.loop-i.rest c.loop-i.bytes (omega (arith, one, c.loop-i.auto.i)) c.requires (subst (λ (i : ℕ). FromPlace g.row.N c.args.t i c.loop-i.rest c.loop-i.bytes) one c.loop-i.invariant))
          | else-i-eq0 w ↦ w.digit-is
        ]
