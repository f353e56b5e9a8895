-- `text::iso_string` meets its contract: year, date and time stand one behind the other. Assumes nothing.
use native.Mathlib.Omega.{arith}
use lib.ListN.{length}
use mathlib.Core.Path.{◌≡◌}
use borrow.Author.Rules.{rules}
use Rattle.ecma262.specs.Texts.{iso_year}
use Rattle.text.proofs.Runs.{appended_then, prints_whole}
use Rattle.text.proofs.Sign.{at-fitting, year-fits, put-fitting}
use Rattle.text.proofs.iso_string.Goals as goal

pub returns : goal.returns
returns c =
    let fits = year-fits c.args.f.year c.args.f.printable.year-ok in
    let n = at-fitting (λ y. length (iso_year y) ≡ c.iso_year_length-length.result) fits c.iso_year_length-length.ensures.0 in
    prints_whole (appended_then (appended_then (put-fitting iso_year fits c.put_iso_year.ensures) c.put_iso_date.ensures) c.put_iso_time.ensures)
    c.new-text.ensures.same_bytes c.new-text.ensures.at_start (search rules) (omega (arith, n)) (omega arith)
