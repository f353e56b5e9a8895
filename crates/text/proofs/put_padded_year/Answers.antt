-- `text::put_padded_year` meets its contract: the three cases of the padded year. Assumes nothing.
use native.Mathlib.Omega.{arith}
use Rattle.ecma262.proofs.Texts.{padded-four, padded-five, padded-six}
use Rattle.text.proofs.Runs.{appended_own}
use Rattle.text.proofs.put_padded_year.Goals as goal

pub returns-in-0-to-9999 : goal.returns-in-0-to-9999
returns-in-0-to-9999 c = appended_own c.pad_four.ensures (padded-four (omega arith))

pub returns-in-10000-to-99999 : goal.returns-in-10000-to-99999
returns-in-10000-to-99999 c = appended_own c.pad_five.ensures (padded-five (omega arith) (omega arith))

pub returns-in_default : goal.returns-in_default
returns-in_default c = appended_own c.pad_six.ensures (padded-six (omega arith))
