-- Rewriting: document 01, "Rewriting reads a text and writes its instant's ISO text; it has the reader's refusals, then 11." The outcome of
-- a call, and the bytes that it writes. Definitions only. Assumes nothing.
use Rattle.std.specs.Prelude.{List, ℕ, take, Result, Ok, Err}
use Rattle.answer.specs.Answer.{answer_of}
use Rattle.answer.specs.declared.Refusal.{Refusal}
use Rattle.reader.specs.Outcome.{read_outcome}
use Rattle.writer.specs.Outcome.{Outcome, refused}
use Rattle.writer.specs.Writer.{iso_outcome}

-- the ISO writer on the instant that was read; a refusal stands as it is, and the output with it
abbrev pub then_write : Result ℕ Refusal → List ℕ → Outcome
then_write (Ok instant) out = iso_outcome instant out
then_write (Err f) out = refused f out

unfoldable pub rewrite_outcome : List ℕ → List ℕ → List ℕ → Outcome
rewrite_outcome zone text out = then_write (read_outcome zone text) out

-- "The bytes a call writes are the output's first ones, as many as the length it returns with number 0": a refused call returns length 0.
abbrev pub run_of : Outcome → List ℕ
run_of o = take (answer_of o.reply).length o.output
