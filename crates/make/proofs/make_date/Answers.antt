-- `make::make_date` meets its contract: of a day or a time that is not finite the sum is not finite. Assumes nothing.
use mathlib.Core.Path.{sym}
use lib.Ieee.{of_bits, of_int}
use Rattle.make.proofs.Tests.{off, on, sum-not-finite, make-date-finite}
use Rattle.make.proofs.make_date.Goals as goal

pub returns-then-not-is_finite : goal.returns-then-not-is_finite
unfolding of_bits of_int
returns-then-not-is_finite c =
    let a = c.args in
    sym (sum-not-finite a.day a.time (off _ c.is_finite.ensures.value c.if-not-is_finite.true))

pub returns : goal.returns
unfolding of_bits of_int
returns c =
    let a = c.args in
    sym (make-date-finite a.day a.time (on _ c.is_finite.ensures.value c.if-not-is_finite.false))
