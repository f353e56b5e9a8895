-- `calendar::year_estimate` meets its contract. Assumes nothing.
use Rattle.std.proofs.lemmas.Int.{wrapping_add_is}
use mathlib.Core.Path.{ap, ◌∙◌}
use lib.Dec.{lit<}
use lib.IntN.{pos, ◌+ℤ◌}
use lib.Ieee.{of_bits, of_int, to_signed}
use mir.Syntax.{w32}
use Rattle.calendar.specs.Calendar.{wrap32, year_estimate_f}
use Rattle.calendar.proofs.Wrap.{of-32, wrap-is}
use Rattle.calendar.proofs.year_estimate.Goals as goal

pub returns : goal.returns
unfolding year_estimate_f of_bits of_int
returns c =
    let since = c.as_i32-since_1970 in
    wrapping_add_is w32 since.result (pos 1970) (of-32 since.type_inv) (of-32 (lit< tt)) ∙ wrap-is (since.result +ℤ pos 1970)
    ∙ ap (λ y. wrap32 (y +ℤ pos 1970)) (since.ensures ∙ ap (to_signed 31) c.floor.ensures)
