-- The number, the time value and the length of every answer, from document 01's table "Where a call is turned back". Definitions only.
-- Assumes nothing.
use Rattle.std.specs.Prelude.{ℕ, ℤ, Result, Ok, Err}
use Rattle.std.specs.Float.{binary64}
use Rattle.std.specs.Float.Ieee.{of_int, to_bits}
use Rattle.answer.specs.declared.Refusal.{Refusal}
use Rattle.answer.specs.declared.Refusal.TheVariants.{ZoneList, TimeValue, RecordLength, RecordMap, TextEnds, TextByte, TextField, TextRest, Instant, NoTime, Output}
use Rattle.answer.specs.declared.Text.{Text}
use Rattle.answer.specs.declared.Answer.{Answer}

-- the table's number of each fault
abbrev pub refusal_number : Refusal → ℕ
refusal_number ZoneList = 1
refusal_number TimeValue = 2
refusal_number RecordLength = 3
refusal_number RecordMap = 4
refusal_number TextEnds = 5
refusal_number TextByte = 6
refusal_number TextField = 7
refusal_number TextRest = 8
refusal_number Instant = 9
refusal_number NoTime = 10
refusal_number Output = 11

-- "Every NaN handed out has bits 7FF8000000000000 (hexadecimal)."
abbrev pub nan_value : ℕ
nan_value = 0x7FF8_0000_0000_0000

-- a whole number of milliseconds as the bits of a time value
abbrev pub time_bits : ℤ → ℕ
time_bits t = to_bits binary64 (of_int binary64 t)

-- a text of so many bytes was written for a time value, whose bits are given
abbrev pub text_reply : ℕ → ℕ → Result Text Refusal
text_reply v n = Ok (record { value = v; length = n })

-- A refused call has the fault's number, NaN and length 0.
abbrev pub refused_answer : Refusal → Answer
refused_answer f = record { number = refusal_number f; value = nan_value; length = 0 }

-- "Success is 0." "An answer is a number, a time value and a length." The writers and rewriting:
abbrev pub answer_of : Result Text Refusal → Answer
answer_of (Ok t) = record { number = 0; value = t.value; length = t.length }
answer_of (Err f) = refused_answer f

-- "The reader, builder and setters have length 0." What these answer is a time value's bits.
abbrev pub answer_of_time : Result ℕ Refusal → Answer
answer_of_time (Ok v) = record { number = 0; value = v; length = 0 }
answer_of_time (Err f) = refused_answer f
