-- `next_ascii_digit` answers the digit, or none where no digit stands. Assumes nothing.
use borrow.Author.Rules.{rules}
use Rattle.parser.proofs.Runs.{digit_other}
use Rattle.parser.proofs.next_ascii_digit.Goals as goal

pub returns-in_default : goal.returns-in_default
returns-in_default c = digit_other (search rules) c.if-is_ascii_digit.ensures.cases
