-- `make::whole_part` meets its contract: the three steps together are `trunc`, which leaves a whole number as it is. Assumes nothing.
use mathlib.Core.Path.{sym, ◌∙◌}
use lib.Dec.{lit≤}
use lib.Ieee.{of_bits, of_int}
use Rattle.integers.proofs.Machine.{true-T}
use Rattle.float.proofs.Rounding.{trunc-own, trunc-by-floor}
use Rattle.float.proofs.Within.{within-is}
use Rattle.make.proofs.whole_part.Goals as goal

pub returns-then-is_whole_within : goal.returns-then-is_whole_within
unfolding of_bits of_int
returns-then-is_whole_within c =
    let f = true-T _ c.well_formed.0.1 in
    let w = within-is 9007199254740992 (lit≤ tt) c.args.x f (sym c.is_whole_within.ensures ∙ c.if-is_whole_within.true) in
    sym (trunc-by-floor c.args.x ∙ trunc-own f w.whole)
