-- `local::shift` meets its contract. Assumes nothing.
use mathlib.Core.Path.{ap, ◌∙◌}
use lib.Ieee.{Float, binary64, mul, of_bits, of_int}
use mir.Syntax.{w32}
use Rattle.integers.proofs.Machine.{kept}
use Rattle.calendar.specs.Calendar.{num}
use Rattle.local.proofs.shift.Goals as goal

pub returns : goal.returns
unfolding of_bits of_int
returns c =
    let o = c.local_timezone_offset_seconds in
    ap (λ (s : Float). mul binary64 s (num 1000)) (c.from.ensures ∙ ap (of_int binary64) (kept {w = w32} (record { sfits = o.type_inv }) ∙ o.ensures))
