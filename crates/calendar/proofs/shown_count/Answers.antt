-- `calendar::shown_count` meets its contract. Assumes nothing.
use mathlib.Core.Path.{◌≡◌, sym, ap, ◌∙◌}
use native.Mathlib.Omega.{arith}
use lib.Dec.{lit≤}
use lib.IntN.{ℤ, pos, nat_abs, ◌+ℤ◌}
use lib.Ieee.{binary64, fits, of_bits, of_int}
use mir.Syntax.{w64}
use mir.Val.{to_z, of_z}
use Rattle.integers.proofs.Machine.{true-T, kept}
use Rattle.float.specs.Whole.{trunc_z, WholeWithin}
use Rattle.float.proofs.Within.{within-is}
use Rattle.calendar.proofs.shown_count.Goals as goal
use Rattle.calendar.proofs.shown_count.Goals.{After-exact_i64, Then-is_whole_within}

shown : (c : Then-is_whole_within) → WholeWithin 8_640_000_086_399_000 c.args.t
unfolding of_bits of_int
shown c =
    within-is 8640000086399000 (lit≤ tt) c.args.t (true-T (fits binary64 c.args.t) c.well_formed.0.1) (sym c.is_whole_within.ensures ∙ c.if-is_whole_within.true)

exact : (c : After-exact_i64) → to_z w64 (of_z w64 c.exact_i64.result) ≡ trunc_z c.args.t
exact c = kept {w = w64} (record { sfits = c.exact_i64.type_inv }) ∙ c.exact_i64.ensures

pub exact_i64-requires : goal.exact_i64-requires
exact_i64-requires c = let w = shown c in record { whole = w.whole; size = omega (arith, w.size) }

pub counted-requires : goal.counted-requires
counted-requires c = omega (arith, ap nat_abs (exact c), (shown c.before).size)

-- ---- whether there is a count
pub returns-then-is_whole_within-clause-decided : goal.returns-then-is_whole_within-clause-decided
unfolding of_bits of_int
returns-then-is_whole_within-clause-decided c = sym (sym c.is_whole_within.ensures ∙ c.if-is_whole_within.true)

pub returns-clause-decided : goal.returns-clause-decided
unfolding of_bits of_int
returns-clause-decided c = sym (sym c.is_whole_within.ensures ∙ c.if-is_whole_within.false)

pub returns-then-is_whole_within-clause-count : goal.returns-then-is_whole_within-clause-count
returns-then-is_whole_within-clause-count c =
    (shown c.before.before, c.counted.ensures ∙ ap (λ (z : ℤ). z +ℤ pos 37930477996800000) (exact c.before))
