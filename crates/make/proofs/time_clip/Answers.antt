-- `make::time_clip` meets its contract. Assumes nothing.
use mathlib.Core.Path.{sym, ap, ◌∙◌}
use lib.Ieee.{binary64, fits, lt, of_bits, of_int}
use Rattle.integers.proofs.Machine.{true-T}
use Rattle.calendar.specs.Calendar.{num}
use Rattle.make.proofs.Clip.{clip-own}
use Rattle.make.proofs.Tests.{off, on, clip-not-finite, clip-beyond}
use Rattle.make.proofs.time_clip.Goals as goal

pub returns-then-is_whole_within : goal.returns-then-is_whole_within
unfolding of_bits of_int
returns-then-is_whole_within c =
    let t = c.args.time in
    clip-own t (true-T (fits binary64 t) c.well_formed.0.1) c.if-time.true (sym c.is_whole_within.ensures ∙ c.if-is_whole_within.true)

pub returns-then-not-is_finite : goal.returns-then-not-is_finite
unfolding of_bits of_int
returns-then-not-is_finite c =
    sym (clip-not-finite c.args.time (off _ c.is_finite.ensures.value c.if-not-is_finite.true))

pub returns-then-abs : goal.returns-then-abs
unfolding of_bits of_int
returns-then-abs c =
    let t = c.args.time in
    sym (clip-beyond t (on _ c.is_finite.ensures.value c.if-not-is_finite.false) (ap (lt (num 8640000000000000)) (sym c.abs.ensures) ∙ c.if-abs.true))
