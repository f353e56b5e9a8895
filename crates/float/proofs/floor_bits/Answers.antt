-- `float::floor_bits` meets its contract: each path returns what `Floor` says of the bit that is added to the whole part. Assumes nothing.
use Rattle.std.proofs.Common.{◌≡◌, ℕ, ◌^◌, ◌<◌, sym, ap, ◌∙◌, subst, inl, inr}
use lib.Ieee.{binary64, of_bits}
use Rattle.float.specs.Inner.{fraction_bits}
use Rattle.float.proofs.Clearing.{fraction, fraction_fits, Floor, floor-bits, Below, floor-kept, floor-one, floor-sum}
use Rattle.float.proofs.floor_bits.Goals as goal
use Rattle.float.proofs.floor_bits.Goals.{then-c-b, else-c-b, After-fraction_bits-k, Joined-c-b, Start}

-- the bits that `fraction_bits` counts
below : (c : After-fraction_bits-k) → c.fraction_bits-k.result ≡ fraction c.args.b
below c = c.fraction_bits-k.ensures ∙ ap fraction_bits c.exponent.ensures

pub clear_low-c-requires : goal.clear_low-c-requires
clear_low-c-requires c = subst (λ (k : ℕ). k < 64) (sym (below c)) (fraction_fits c.args.b)

-- what holds where the bit is known
module _ (c : Joined-c-b) where
  abbrev start : Start
  start = c.before.before.before.before

  held : start.args.b < 2 ^ 64
  held = start.ranges.b.fits

  facts : Floor start.args.b (of_bits binary64 start.args.b) c.fraction_bits-k.result
  facts = subst (Floor start.args.b (of_bits binary64 start.args.b)) (sym (below c.before.before)) (floor-bits start.args.b held)

  bit : Below start.args.b c.fraction_bits-k.result c.if-c-b.below
  bit = let e = c.clear_low-c.ensures in elim c.if-c-b.branch [ then-c-b w ↦ inl (sym e ∙ w.if-c-b.true, w.below-is) | else-c-b w ↦ inr (λ s. w.if-c-b.false (e ∙ s), w.below-is) ]

pub returns-then-below-eq0 : goal.returns-then-below-eq0
returns-then-below-eq0 c =
    ap (of_bits binary64) c.clear_low-c.ensures ∙ floor-kept (held c.before.before) (facts c.before.before) (bit c.before.before) c.if-below-eq0.true

pub returns-else-below-eq0 : goal.returns-else-below-eq0
returns-else-below-eq0 c = floor-one (held c.before.before) (facts c.before.before) (bit c.before.before) c.if-below-eq0.false c.if-k-eq63.true

pub overflow_shl-result : goal.overflow_shl-result
overflow_shl-result c = (facts c.before.before).small

pub overflow_add-result : goal.overflow_add-result
overflow_add-result c =
    record { fits = rw c.clear_low-c.ensures (floor-sum (held c.before.before) (facts c.before.before) (bit c.before.before) c.if-k-eq63.false).0 }

pub returns : goal.returns
returns c =
    rw c.clear_low-c.ensures (floor-sum (held c.before.before) (facts c.before.before) (bit c.before.before) c.if-k-eq63.false).1
