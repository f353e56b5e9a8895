-- `local::utc_t` meets its contract. Assumes nothing.
use mathlib.Core.Path.{sym, ap, ◌∙◌}
use lib.Ieee.{binary64, sub, of_bits}
use Rattle.zone.specs.Zone.{records}
use Rattle.local.proofs.Tests.{utc_not_finite, utc_of_finite}
use Rattle.local.proofs.utc_t.Goals as goal

pub returns-then-not-is_finite : goal.returns-then-not-is_finite
unfolding of_bits
returns-then-not-is_finite c = sym (utc_not_finite (records c.args.zone.bytes.now) c.args.t (sym c.is_finite.ensures.value ∙ c.if-not-is_finite.true))

pub returns : goal.returns
returns c =
    ap (sub binary64 c.args.t) c.shift.ensures
    ∙ sym (utc_of_finite (records c.args.zone.bytes.now) c.args.t (sym c.is_finite.ensures.value ∙ c.if-not-is_finite.false))
