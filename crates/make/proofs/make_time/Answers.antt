-- `make::make_time` meets its contract: a finite sum has only finite terms, and for any other sum the arguments are tested. Assumes nothing.
use mathlib.Core.Path.{◌≡◌, sym, ap, ◌∙◌}
use lib.Ieee.{of_bits, of_int}
use lib.Ieee.Scale.{finite}
use Rattle.make.specs.Make.{whole_part, join_time}
use Rattle.make.proofs.Tests.{off, on, hour-not-finite, minute-not-finite, second-not-finite, milli-not-finite, make-time-finite, make-time-sum}
use Rattle.make.proofs.make_time.Goals as goal
use Rattle.make.proofs.make_time.Goals.{then-not-is_finite-via-then-not-is_finite, then-not-is_finite-via-else-not-is_finite+then-not-is_finite-2, then-not-is_finite-via-else-not-is_finite+else-not-is_finite-2+then-not-is_finite-3, then-not-is_finite-via-else-not-is_finite+else-not-is_finite-2+else-not-is_finite-3+then-not-is_finite-4}
use Rattle.make.proofs.make_time.Goals.{After-whole_part-milli}

-- the sum, of the whole parts
summed : (c : After-whole_part-milli) → let a = c.args in
    join_time c.whole_part-h.result c.whole_part-m.result c.whole_part-s.result c.whole_part-milli.result
    ≡ join_time (whole_part a.hour) (whole_part a.min) (whole_part a.sec) (whole_part a.ms)
summed c =
    λ i. join_time (c.whole_part-h.ensures i) (c.whole_part-m.ensures i) (c.whole_part-s.ensures i) (c.whole_part-milli.ensures i)

pub returns-then-is_finite : goal.returns-then-is_finite
unfolding of_bits of_int
returns-then-is_finite c =
    let a = c.args in
    summed c.before.before ∙ sym (make-time-sum a.hour a.min a.sec a.ms (ap finite (sym (summed c.before.before)) ∙ on _ c.is_finite.ensures.value c.if-is_finite.true))

pub returns-then-not-is_finite : goal.returns-then-not-is_finite
unfolding of_bits of_int
returns-then-not-is_finite c =
    let a = c.args in
    sym (elim c.then-not-is_finite.branch [
      | then-not-is_finite-via-then-not-is_finite w ↦ hour-not-finite a.hour a.min a.sec a.ms (off _ c.is_finite-2.ensures.value w.if-not-is_finite.true)
      | then-not-is_finite-via-else-not-is_finite+then-not-is_finite-2 w ↦
          minute-not-finite a.hour a.min a.sec a.ms (off _ w.is_finite-else-not-is_finite.ensures.value w.if-not-is_finite-2.true)
      | then-not-is_finite-via-else-not-is_finite+else-not-is_finite-2+then-not-is_finite-3 w ↦
          second-not-finite a.hour a.min a.sec a.ms (off _ w.is_finite-else-not-is_finite-2.ensures.value w.if-not-is_finite-3.true)
      | then-not-is_finite-via-else-not-is_finite+else-not-is_finite-2+else-not-is_finite-3+then-not-is_finite-4 w ↦
          milli-not-finite a.hour a.min a.sec a.ms (off _ w.is_finite-else-not-is_finite-3.ensures.value w.if-not-is_finite-4.true)
    ])

pub returns : goal.returns
unfolding of_bits of_int
returns c =
    let a = c.args in
    summed c.before.before.before.before.before.before.before.before.before.before
    ∙ sym (make-time-finite a.hour a.min a.sec a.ms (on _ c.is_finite-2.ensures.value c.if-not-is_finite.false) (on _ c.is_finite-else-not-is_finite.ensures.value c.if-not-is_finite-2.false)
    (on _ c.is_finite-else-not-is_finite-2.ensures.value c.if-not-is_finite-3.false) (on _ c.is_finite-else-not-is_finite-3.ensures.value c.if-not-is_finite-4.false))
