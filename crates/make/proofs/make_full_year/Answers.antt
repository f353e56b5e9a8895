-- `make::make_full_year` meets its contract. Assumes nothing.
use mathlib.Core.Path.{◌≡◌, sym, ap, ◌∙◌}
use mathlib.Core.Bool.{Bool, cond}
use lib.Ieee.{binary64, add, of_bits, of_int}
use Rattle.calendar.specs.Calendar.{num}
use Rattle.make.specs.Make.{full_year, make_full_year_f}
use Rattle.make.proofs.Parts.{in-range}
use Rattle.make.proofs.Tests.{full-year-nan, full-year-number, full-year-by}
use Rattle.make.proofs.make_full_year.Goals as goal
use Rattle.make.proofs.make_full_year.Goals.{After-contains}

pub returns-then-is_nan : goal.returns-then-is_nan
unfolding of_bits of_int
returns-then-is_nan c = sym (full-year-nan c.args.year (sym c.is_nan.ensures.value ∙ c.if-is_nan.true))

-- by the answer of `contains`
year : (c : After-contains) → let i = c.to_integer_or_infinity-truncated.result in cond c.contains.result (add binary64 (num 1900) i) i ≡ make_full_year_f c.args.year
unfolding of_bits of_int
year c =
    let i = c.to_integer_or_infinity-truncated in
    full-year-by i.result (in-range i.result c.new.ensures.start c.new.ensures.end c.new.ensures.exhausted c.contains.ensures.value)
    ∙ ap full_year i.ensures ∙ sym (full-year-number c.args.year (sym c.is_nan.ensures.value ∙ c.if-is_nan.false))

pub returns-then-contains : goal.returns-then-contains
unfolding of_bits of_int
returns-then-contains c =
    let i = c.to_integer_or_infinity-truncated.result in
    ap (λ (b : Bool). cond b (add binary64 (num 1900) i) i) (sym c.if-contains.true) ∙ year c.before

pub returns : goal.returns
unfolding of_bits of_int
returns c =
    let i = c.to_integer_or_infinity-truncated.result in
    ap (λ (b : Bool). cond b (add binary64 (num 1900) i) i) (sym c.if-contains.false) ∙ year c.before
