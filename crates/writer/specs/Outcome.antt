-- The whole outcome of a call that writes a text: its reply, and every byte of the lent output at exit. Definitions only. Assumes nothing.
use Rattle.std.specs.Prelude.{◌≡◌, cond, List, ◌++◌, ℕ, ltb, length, drop, Result, Err}
use Rattle.answer.specs.Answer.{text_reply}
use Rattle.answer.specs.declared.Refusal.{Refusal}
use Rattle.answer.specs.declared.Refusal.TheVariants.{Output}
use Rattle.answer.specs.declared.Text.{Text}

pub record Outcome : Type 0 where
  pub reply : Result Text Refusal
  pub output : List ℕ

-- a refused call "alters no lent byte"
abbrev pub refused : Refusal → List ℕ → Outcome
refused f out = record { reply = Err f; output = out }

-- The outcome of writing a text for a time value, whose 64 bits are given, into the output `out`. Row 11: "output buffer ... shorter than
-- the text". Else the call returns the time value and the length, and leaves "every byte past it unchanged".
unfoldable pub written : ℕ → List ℕ → List ℕ → Outcome
written value text out =
    cond (ltb (length out) (length text)) (refused Output out) (record { reply = text_reply value (length text); output = text ++ drop (length text) out })

-- a call that was lent an output replies `r` and leaves the output `last`, as the outcome says
pub record Leaves (o : Outcome) (r : Result Text Refusal) (last : List ℕ) : Type 0 where
  pub reply-is : r ≡ o.reply
  pub output-is : last ≡ o.output
