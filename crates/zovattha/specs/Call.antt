-- What a C function that was lent an output answers and leaves. Definitions only. Assumes nothing.
use Rattle.std.specs.Prelude.{◌≡◌, List, ℕ}
use Rattle.answer.specs.Answer.{answer_of}
use Rattle.answer.specs.declared.Answer.{Answer}
use Rattle.writer.specs.Outcome.{Outcome}

-- the call answers the number, the time value and the length of the outcome's reply, and leaves the outcome's output
pub record Answers (o : Outcome) (r : Answer) (last : List ℕ) : Type 0 where
  pub answer-is : r ≡ answer_of o.reply
  pub output-is : last ≡ o.output
