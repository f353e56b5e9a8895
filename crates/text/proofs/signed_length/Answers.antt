-- `text::signed_length` meets its contract: one more than the padded year has, before a negative year. Assumes nothing.
use mathlib.Core.Path.{◌≡◌, sym, ap, ◌∙◌}
use native.Mathlib.Omega.{arith}
use lib.IntN.{nat_abs}
use lib.ListN.{length}
use Rattle.ecma262.proofs.Texts.{length-below, length_from}
use Rattle.ecma262.specs.Texts.{padded_year}
use Rattle.integers.proofs.Machine.{below-zero, from_zero, abs-of}
use Rattle.text.proofs.signed_length.Goals as goal
use Rattle.text.proofs.signed_length.Goals.{After-padded_length-n}

padded-of : (b : After-padded_length-n) → length (padded_year (nat_abs b.args.year)) ≡ b.padded_length-n.result
padded-of b = ap (λ n. length (padded_year n)) (sym (abs-of b.ranges.year b.unsigned_abs.ensures.value)) ∙ b.padded_length-n.ensures.0

pub returns-then-year-lt0 : goal.returns-then-year-lt0
returns-then-year-lt0 c =
    let e = c.padded_length-n.ensures in
    (length-below c.args.year (below-zero c.ranges.year c.if-year-lt0.true) (padded-of c.before), omega (arith, e), omega (arith, e))

pub returns-else-year-lt0 : goal.returns-else-year-lt0
returns-else-year-lt0 c =
    let e = c.padded_length-n.ensures in
    (length_from c.args.year (from_zero c.ranges.year c.if-year-lt0.false) (padded-of c.before), omega (arith, e), omega (arith, e))
