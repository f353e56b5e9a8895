-- `calendar::day_within` meets its contract: the difference is kept within the range as by a cast. Assumes nothing.
use Rattle.std.specs.Int.{int_max, int_min}
use mathlib.Core.Path.{◌≡◌, ap, ap₂, ◌∙◌}
use lib.IntN.{ℤ, pos}
use mir.Syntax.{w64}
use mir.Val.{to_z, of_z}
use lib.Ieee.{Float, binary64, sub, of_int, to_signed}
use Rattle.integers.proofs.Machine.{kept}
use Rattle.float.proofs.Narrow.{u16_clamped}
use Rattle.calendar.specs.Calendar.{day_f, day_from_year_f}
use Rattle.calendar.proofs.day_within.Goals as goal

pub returns-in-Some : goal.returns-in-Some
returns-in-Some c =
    let x : Float = sub binary64 (day_f c.args.t) (day_from_year_f (of_int binary64 c.args.year)) in
    let exact : c.in-Some.days ≡ to_signed 63 x =
    c.in-Some.ensures.exact ∙ ap (λ (y : ℤ). to_signed 63 (sub binary64 (day_f c.args.t) (day_from_year_f (of_int binary64 y)))) (kept c.ranges.year) in
    u16_clamped x c.clamp.result
    (c.clamp.ensures.value ∙ ap₂ (λ (d h : ℤ). int_max (pos 0) (int_min (to_z w64 (of_z w64 d)) (to_z w64 (of_z w64 h)))) exact c.from.ensures)
