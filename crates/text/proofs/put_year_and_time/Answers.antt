-- `text::put_year_and_time` meets its contract: year, space and time one behind the other. Assumes nothing.
use mathlib.Core.List.{append_assoc}
use Rattle.ecma262.specs.Texts.{signed_year}
use Rattle.text.proofs.Runs.{appended_as, appended_then}
use Rattle.text.proofs.Sign.{put-fitting, year-fits}
use Rattle.text.proofs.put_year_and_time.Goals as goal
use Rattle.text.proofs.put_year_and_time.Goals.{After-put_signed_year}

pub returns : goal.returns
returns c =
    let year = put-fitting signed_year (year-fits c.args.f.year c.args.f.printable.year-ok) c.put_signed_year.ensures in
    appended_as (appended_then year (appended_then c.put.ensures c.time_string.ensures)) (simp append_assoc)
