-- `float::as_i64` meets its contract: a whole number is itself, within the range the fraction is dropped, and beyond it the nearer end is returned.
-- Assumes nothing.
use Rattle.std.proofs.Common.{◌^◌, sym, ◌∙◌, lit≤, w64}
use lib.Ieee.{of_bits, of_int}
use Rattle.integers.proofs.Machine.{kept, true-T}
use Rattle.float.specs.Whole.{trunc_z, WholeWithin}
use Rattle.float.proofs.Casts.{to_signed-whole, in-63}
use Rattle.float.proofs.Within.{within-is}
use Rattle.float.proofs.as_i64.Goals as goal
use Rattle.float.proofs.as_i64.Goals.{Then-is_whole_within}

whole : (c : Then-is_whole_within) → WholeWithin (2 ^ 53) c.args.x
unfolding of_bits of_int
whole c =
    within-is 9007199254740992 (lit≤ tt) c.args.x (true-T _ c.well_formed.0.1) (sym c.is_whole_within.ensures ∙ c.if-is_whole_within.true)

pub exact_i64-requires : goal.exact_i64-requires
exact_i64-requires c = whole c

pub returns-then-is_whole_within : goal.returns-then-is_whole_within
returns-then-is_whole_within c =
    let x = c.args.x in
    let w = whole c.before in
    kept {w = w64} (record { sfits = c.exact_i64.type_inv }) ∙ c.exact_i64.ensures ∙ sym (to_signed-whole 63 w.whole (in-63 (trunc_z x) w.size))
