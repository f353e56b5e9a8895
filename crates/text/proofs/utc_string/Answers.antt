-- `text::utc_string` meets its contract: its parts stand one behind the other. Assumes nothing.
use mathlib.Core.List.{append_assoc}
use mathlib.Core.Path.{refl, ap, ◌∙◌}
use Prim.Native.Nat.{◌+◌}
use native.Mathlib.Omega.{arith}
use borrow.Author.Rules.{rules}
use Rattle.ecma262.proofs.Texts.{length-utc}
use Rattle.text.specs.Inner.{whole_of}
use Rattle.text.proofs.Runs.{appended_as, appended_then, prints_none, prints_whole}
use Rattle.text.proofs.Sign.{year-long}
use Rattle.text.proofs.utc_string.Goals as goal

pub returns-then-output-length : goal.returns-then-output-length
returns-then-output-length c =
    prints_none (length-utc (whole_of c.args.f) c.args.f.printable.weekday-ok c.args.f.printable.month-ok ∙ ap (λ n. n + 25) (year-long c.args.f.year c.args.f.printable.year-ok c.signed_length-length.ensures.0)) c.if-output-length.true refl

pub returns : goal.returns
returns c =
    let n = year-long c.args.f.year c.args.f.printable.year-ok c.signed_length-length.ensures.0 in
    prints_whole (appended_as (appended_then c.put_utc_head.ensures c.put_year_and_time.ensures) (simp append_assoc))
    c.new-text.ensures.same_bytes c.new-text.ensures.at_start (search rules) (omega (arith, n)) (omega arith)
