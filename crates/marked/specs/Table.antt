-- Document 01's table "Marked to be proved", row by row and half-row by half-row, and the test of a row: the WHOLE outcome of the call, its
-- number, the bits of its value, its length and, where an output is lent, every byte of it at exit. "Zone list (0, 0) unless said."
-- Definitions only; that every row passes is the theorem of proofs/Marked.antt. Assumes nothing.
use Rattle.std.specs.Prelude.{Bool, true, false, ◌&&◌, List, [], ◌∷◌, ◌++◌, ℕ, eqb, ℤ, pos, neg_ℤ, length, drop, replicate}
use Prim.Native.String.{String}
use Rattle.ecma262.specs.Texts.{ascii}
use Rattle.answer.specs.Answer.{answer_of, answer_of_time, nan_value, time_bits}
use Rattle.answer.specs.declared.Answer.{Answer}
use Rattle.reader.specs.Outcome.{read_outcome}
use Rattle.writer.specs.Outcome.{Outcome}
use Rattle.writer.specs.Writer.{iso_outcome, utc_outcome, local_outcome}
use Rattle.rewrite.specs.Rewrite.{rewrite_outcome}
use Rattle.new_date.specs.declared.Part.{Part}
use Rattle.new_date.specs.declared.Part.TheVariants.{Month, FullYear}
use Rattle.fields.specs.Outcome.{set_outcome}

-- ---- what is lent

-- the list (0, 0), and the list (0, 7200) (3600, 3600): 7200 is 0x1C20, and 3600 is 0x0E10
abbrev pub utc_list : List ℕ
utc_list = replicate 12 0

abbrev pub two_offsets : List ℕ
two_offsets = replicate 8 0 ++ (0x20 ∷ 0x1C ∷ 0 ∷ 0 ∷ []) ++ (0x10 ∷ 0x0E ∷ 0 ∷ 0 ∷ 0 ∷ 0 ∷ 0 ∷ 0 ∷ []) ++ (0x10 ∷ 0x0E ∷ 0 ∷ 0 ∷ [])

-- an output longer than any text, with bytes that no text has
abbrev pub lent : List ℕ
lent = replicate 40 0xA5

-- a field record whose one field is bit 0's: the f64 of 1, and of 2024
abbrev pub record_of_1 : List ℕ
record_of_1 = 1 ∷ 0 ∷ 0 ∷ 0 ∷ 0 ∷ 0 ∷ 0 ∷ 0xF0 ∷ 0x3F ∷ []

abbrev pub record_of_2024 : List ℕ
record_of_2024 = 1 ∷ 0 ∷ 0 ∷ 0 ∷ 0 ∷ 0 ∷ 0xA0 ∷ 0x9F ∷ 0x40 ∷ []

-- ---- a row: what is given, and the answer
pub data Row : Type 0 where
  -- a text, read and rewritten: the number of its refusal; or its instant, and the text that rewriting writes
  refused : String → ℕ → Row
  reads : String → ℤ → String → Row
  -- the ISO, the UTC and the local text of a time
  iso_of utc_of : ℤ → String → Row
  local_of : List ℕ → ℤ → String → Row
  -- a setter, UTC and local, on the bits of a time value and a field record
  set : Part → ℕ → List ℕ → ℤ → Row

abbrev pub rows : List Row
rows =
    refused "" 5
    ∷ reads "1970" (pos 0) "1970-01-01T00:00:00.000Z"
    ∷ reads "2024-02-29T12:00:00Z" (pos 1709208000000) "2024-02-29T12:00:00.000Z"
    ∷ reads "2023-02-31" (pos 1677801600000) "2023-03-03T00:00:00.000Z"
    ∷ reads "2023-12-31T24:00:00Z" (pos 1704067200000) "2024-01-01T00:00:00.000Z"
    ∷ refused "2023-12-31T24:00:01Z" 7
    ∷ refused "-000000" 7
    ∷ reads "+000000" (neg_ℤ (pos 62167219200000)) "0000-01-01T00:00:00.000Z"
    ∷ reads "+275760-09-13T01:00:00+01:00" (pos 8640000000000000) "+275760-09-13T00:00:00.000Z"
    ∷ reads "-271821-04-20" (neg_ℤ (pos 8640000000000000)) "-271821-04-20T00:00:00.000Z"
    ∷ refused "-271821-04-19" 9
    ∷ iso_of (neg_ℤ (pos 62167219200001)) "-000001-12-31T23:59:59.999Z"
    ∷ utc_of (neg_ℤ (pos 62167219200001)) "Fri, 31 Dec -0001 23:59:59 GMT"
    ∷ set Month (time_bits (pos 1706659200000)) record_of_1 (pos 1709337600000)
    ∷ set FullYear nan_value record_of_2024 (pos 1704067200000)
    ∷ local_of two_offsets (pos 0) "Thu Jan 01 1970 02:00:00 GMT+0100"
    ∷ []

-- ---- the test of a row
abbrev same_answer : Answer → Answer → Bool
same_answer a b = eqb a.number b.number && eqb a.value b.value && eqb a.length b.length

abbrev same_bytes : List ℕ → List ℕ → Bool
same_bytes [] [] = true
same_bytes [] (b ∷ t) = false
same_bytes (a ∷ s) [] = false
same_bytes (a ∷ s) (b ∷ t) = eqb a b && same_bytes s t

-- number n, NaN and length 0
abbrev refusal : ℕ → Answer
refusal n = record { number = n; value = nan_value; length = 0 }

-- number 0, the time t and a length
abbrev success : ℤ → ℕ → Answer
success t n = record { number = 0; value = time_bits t; length = n }

abbrev same_outcome : Outcome → Answer → List ℕ → Bool
same_outcome o a out = same_answer (answer_of o.reply) a && same_bytes o.output out

-- the time and the length of the text are answered; the text stands in front, and every byte past it is as it was
abbrev writes : Outcome → ℤ → String → Bool
writes o t text = same_outcome o (success t (length (ascii text))) (ascii text ++ drop (length (ascii text)) lent)

unfoldable pub right : Row → Bool
right (refused text n) = same_answer (answer_of_time (read_outcome utc_list (ascii text))) (refusal n) && same_outcome (rewrite_outcome utc_list (ascii text) lent) (refusal n) lent
right (reads text t written) = same_answer (answer_of_time (read_outcome utc_list (ascii text))) (success t 0) && writes (rewrite_outcome utc_list (ascii text) lent) t written
right (iso_of t text) = writes (iso_outcome (time_bits t) lent) t text
right (utc_of t text) = writes (utc_outcome (time_bits t) lent) t text
right (local_of zone t text) = writes (local_outcome zone (time_bits t) lent) t text
right (set first time fields t) =
    same_answer (answer_of_time (set_outcome first false [] time fields)) (success t 0) && same_answer (answer_of_time (set_outcome first true utc_list time fields)) (success t 0)

unfoldable pub all_right : List Row → Bool
all_right [] = true
all_right (row ∷ rest) = right row && all_right rest
