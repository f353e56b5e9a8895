-- The reader's answer for any zone list and any text: the refusal table's rows 1, 5 to 8, 7 and 9 in order, else the instant. Definitions
-- only. Assumes nothing.
use Rattle.std.specs.Prelude.{cond, List, ℕ, leb, ℤ, nat_abs, Result, Ok, Err}
use Rattle.ecma262.specs.Date.{time_range}
use Rattle.ecma262.specs.Format.{Form}
use Rattle.zone.specs.Zone.{Record, accepts, records}
use Rattle.parser.specs.Reading.{Out, ok, fault, read}
use Rattle.parser.specs.declared.Fault.{Fault}
use Rattle.parser.specs.declared.Fault.TheVariants.{Short, Bad, Range, Trailing}
use Rattle.answer.specs.Answer.{time_bits}
use Rattle.answer.specs.declared.Refusal.{Refusal}
use Rattle.answer.specs.declared.Refusal.TheVariants.{ZoneList, TextEnds, TextByte, TextField, TextRest, Instant}
use Rattle.reader.specs.Denotes.{instant_of}

-- the table's row of a fault of the text
abbrev pub refusal_of : Fault → Refusal
refusal_of Short = TextEnds
refusal_of Bad = TextByte
refusal_of Range = TextField
refusal_of Trailing = TextRest

-- row 9: the instant outside the range
unfoldable pub answer_at : ℤ → Result ℕ Refusal
answer_at t = cond (leb (nat_abs t) time_range) (Ok (time_bits t)) (Err Instant)

abbrev pub reply_for : List Record → Out Form → Result ℕ Refusal
reply_for list (ok f s) = answer_at (instant_of list f)
reply_for list (fault f) = Err (refusal_of f)

unfoldable pub read_outcome : List ℕ → List ℕ → Result ℕ Refusal
read_outcome zone text = cond (accepts zone) (reply_for (records zone) (read text)) (Err ZoneList)
