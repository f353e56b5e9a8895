-- `text::put_signed_year` meets its contract: the sign, and behind it the padded year. Assumes nothing.
use mathlib.Core.List.{◌++◌}
use mathlib.Core.Path.{ap}
use native.Mathlib.Omega.{arith}
use Rattle.ecma262.specs.Texts.{padded_year, year_sign}
use Rattle.text.proofs.Runs.{appended_own, appended_then}
use Rattle.integers.proofs.Machine.{abs-of}
use Rattle.text.proofs.Sign.{put-fitting, sign-short}
use Rattle.text.proofs.put_signed_year.Goals as goal

pub put_padded_year-requires : goal.put_padded_year-requires
put_padded_year-requires c =
    let sign = put-fitting year_sign c.ranges.year c.put_year_sign.ensures in
    (omega (arith, abs-of c.ranges.year c.unsigned_abs.ensures.value, c.requires.0), omega (arith, sign.next, sign.size, sign-short c.args.year, c.requires.1))

pub returns : goal.returns
returns c =
    appended_own (appended_then (put-fitting year_sign c.ranges.year c.put_year_sign.ensures) c.put_padded_year.ensures)
    (ap (λ n. year_sign c.args.year ++ padded_year n) (abs-of c.ranges.year c.unsigned_abs.ensures.value))
