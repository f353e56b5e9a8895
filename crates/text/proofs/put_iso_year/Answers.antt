-- `text::put_iso_year` meets its contract: the three cases of the ISO year. Assumes nothing.
use borrow.Author.Rules.{rules}
use Rattle.ecma262.proofs.Texts.{iso-below, iso-four, iso-above}
use Rattle.text.proofs.Tested.{under-10000, from-10000}
use Rattle.text.proofs.Runs.{appended_own, appended_then}
use Rattle.integers.proofs.Machine.{below-zero, from_zero, abs-of}
use Rattle.text.proofs.put_iso_year.Goals as goal

pub returns-in-minus2147483648-to-minus1 : goal.returns-in-minus2147483648-to-minus1
returns-in-minus2147483648-to-minus1 c =
    appended_own (appended_then c.put.ensures c.pad_six.ensures)
    (rw (abs-of c.ranges.year c.unsigned_abs-y.ensures.value) (iso-below c.args.year (below-zero c.ranges.year (search rules))))

pub returns-in-0-to-9999 : goal.returns-in-0-to-9999
returns-in-0-to-9999 c =
    let s = from_zero c.ranges.year (search rules) in
    appended_own c.pad_four.ensures (rw (abs-of c.ranges.year c.unsigned_abs-y.ensures.value) (iso-four c.args.year s (under-10000 c.ranges.year s (search rules))))

pub returns-in_default : goal.returns-in_default
returns-in_default c =
    let s = from_zero c.ranges.year (search rules) in
    appended_own (appended_then c.put-in_default.ensures c.pad_six-in_default.ensures)
    (rw (abs-of c.ranges.year c.unsigned_abs-y.ensures.value) (iso-above c.args.year s (from-10000 c.ranges.year s (search rules))))
