-- `local::asked_second` meets its contract: of a whole time that is small enough the original's operations are exact, so the quick way has
-- their result. Assumes nothing.
use mathlib.Core.Path.{◌≡◌, sym, ap, ◌∙◌, subst}
use Prim.Native.Nat.{◌≤◌}
use native.Mathlib.Omega.{arith}
use lib.Dec.{lit≤}
use lib.IntN.{ℤ, nat_abs}
use lib.Ieee.{Float, binary64, sub, div, of_bits, of_int, to_signed}
use mir.Syntax.{w64}
use mir.Val.{to_z, of_z}
use Rattle.integers.proofs.Machine.{kept, true-T}
use Rattle.float.specs.Whole.{WholeWithin, trunc_z}
use Rattle.float.proofs.Within.{within-is}
use Rattle.calendar.specs.Calendar.{num}
use Rattle.local.specs.Local.{asked_second, asked_second_f}
use Rattle.local.proofs.Whole.{asked-second-whole}
use Rattle.local.proofs.asked_second.Goals as goal
use Rattle.local.proofs.asked_second.Goals.{After-exact_i64, Then-is_whole_within}

-- ---- the test says that the time is whole and small
whole : (c : Then-is_whole_within) → WholeWithin 8_999_999_999_999_999 c.args.t
unfolding of_bits of_int
whole c = within-is 8999999999999999 (lit≤ tt) c.args.t (true-T _ c.well_formed.0.1) (sym c.is_whole_within.ensures ∙ c.if-is_whole_within.true)

-- what it is handed on as
handed : (c : After-exact_i64) → to_z w64 (of_z w64 c.exact_i64.result) ≡ trunc_z c.args.t
handed c = kept {w = w64} (record { sfits = c.exact_i64.type_inv }) ∙ c.exact_i64.ensures

pub exact_i64-requires : goal.exact_i64-requires
exact_i64-requires c = record { whole = (whole c).whole; size = omega (arith, (whole c).size) }

pub second_of-requires : goal.second_of-requires
second_of-requires c = subst (λ (z : ℤ). nat_abs z ≤ 37000000000000000) (sym (handed c)) (omega (arith, (whole c.before).size))

pub returns-then-is_whole_within : goal.returns-then-is_whole_within
returns-then-is_whole_within c =
    let w = whole c.before.before in
    kept {w = w64} (record { sfits = c.second_of.type_inv }) ∙ c.second_of.ensures ∙ ap asked_second (handed c.before)
    ∙ sym (asked-second-whole _ w.size w.whole)

pub returns : goal.returns
unfolding asked_second_f of_bits of_int
returns c =
    kept {w = w64} (record { sfits = c.as_i64.type_inv }) ∙ c.as_i64.ensures
    ∙ ap (λ (r : Float). to_signed 63 (div binary64 (sub binary64 c.args.t r) (num 1000))) c.rem_euclid-millis.ensures
