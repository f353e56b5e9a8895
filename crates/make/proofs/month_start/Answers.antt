-- `make::month_start` meets its contract. Assumes nothing.
use mathlib.Core.Path.{◌≡◌, ap, ◌∙◌}
use Prim.Native.Nat.{ℕ}
use lib.Dec.{ltb}
use lib.Ieee.{Float, binary64, add, sub, mul, of_bits, of_int}
use Rattle.ecma262.specs.Date.{days_before}
use Rattle.calendar.specs.Calendar.{num, day_from_year_f}
use Rattle.calendar.proofs.Wrap.{byte_is}
use Rattle.make.specs.Make.{rest, month_start_f}
use Rattle.make.proofs.month_start.Goals as goal

-- the month's start by its parts
started : (ym : Float) (mn : ℕ) (r d b : Float) → r ≡ num (rest mn) → d ≡ day_from_year_f (add binary64 ym r) → b ≡ num (days_before 0 mn)
    → mul binary64 (add binary64 (sub binary64 d (mul binary64 (num 365) r)) b) (num 86400000) ≡ month_start_f ym mn
unfolding month_start_f
started ym mn r d b e f g =
    let day = f ∙ ap (λ (x : Float). day_from_year_f (add binary64 ym x)) e in
    λ i. mul binary64 (add binary64 (sub binary64 (day i) (mul binary64 (num 365) (e i))) (g i)) (num 86400000)

pub returns : goal.returns
unfolding of_bits of_int
returns c =
    let a = c.args in
    started a.ym a.mn _ _ _ (c.from-rest.ensures ∙ ap num (byte_is (ltb 1 a.mn))) c.day_from_year.ensures
    (c.from-days.ensures ∙ ap num (c.days_before.ensures ∙ ap (days_before 0) c.from.ensures))
