-- `text::put_year_sign` meets its contract: one byte before a negative year, none before another. Assumes nothing.
use Rattle.ecma262.proofs.Texts.{sign_below, sign-none}
use Rattle.integers.proofs.Machine.{below-zero, from_zero}
use Rattle.text.proofs.Runs.{appended_none, appended_own}
use Rattle.text.proofs.put_year_sign.Goals as goal

pub returns-then-year-lt0 : goal.returns-then-year-lt0
returns-then-year-lt0 c = appended_own c.put.ensures (sign_below c.args.year (below-zero c.ranges.year c.if-year-lt0.true))

pub returns-else-year-lt0 : goal.returns-else-year-lt0
returns-else-year-lt0 c = appended_own appended_none (sign-none c.args.year (from_zero c.ranges.year c.if-year-lt0.false))
