-- What `datecheck` prints for an input, document 01: "under the list (0, 0), one text a line in, out the number and, for 0, the time value and
-- ISO text". An empty line is the empty text, a last line without a newline counts, and a line is of any length. Definitions only. Assumes
-- nothing.
use Rattle.std.specs.Prelude.{◌≡◌, cond, List, [], ◌∷◌, ◌++◌, ℕ, zero, suc, ◌/◌, ◌%◌, ltb, eqb, ℤ, pos, negsuc, length, replicate, Result, Ok, Err}
use Rattle.std.proofs.lemmas.List.Edits.{sets}
use Rattle.text.specs.Inner.{Appended}
use Rattle.text.specs.declared.output.Output.{Output}
use Rattle.std.specs.Float.{binary64}
use Rattle.std.specs.Float.Ieee.{of_bits}
use Rattle.ecma262.specs.Date.{InRange}
use Rattle.ecma262.specs.Digits.{digit}
use Rattle.ecma262.specs.Texts.{ascii, iso_text}
use Rattle.float.specs.Whole.{trunc_z}
use Rattle.answer.specs.Answer.{refusal_number, time_bits}
use Rattle.answer.specs.declared.Refusal.{Refusal}
use Rattle.reader.specs.Outcome.{read_outcome}

-- ---- numbers

-- n in decimal, without a leading zero, for numbers of at most so many digits
unfoldable pub decimal_within : ℕ → ℕ → List ℕ
decimal_within zero n = []
decimal_within (suc k) n = cond (ltb n 10) (digit n ∷ []) (decimal_within k (n / 10) ++ (digit (n % 10) ∷ []))

-- no number of 64 bits has more than 20 digits
abbrev pub decimal : ℕ → List ℕ
decimal n = decimal_within 20 n

unfoldable pub signed_decimal : ℤ → List ℕ
signed_decimal (pos n) = decimal n
signed_decimal (negsuc n) = ascii "-" ++ decimal (suc n)

-- ---- the answer to a text
abbrev pub newline : List ℕ
newline = 10 ∷ []

-- the ISO text of a time value's bits
unfoldable pub iso_of_bits : ℕ → List ℕ
iso_of_bits bits = iso_text (trunc_z (of_bits binary64 bits))

-- number 0, the time value and the ISO text
unfoldable pub accepted_line : ℕ → List ℕ
accepted_line bits = ascii "0 " ++ signed_decimal (trunc_z (of_bits binary64 bits)) ++ ascii " " ++ iso_of_bits bits ++ newline

-- the number of a refusal
unfoldable pub refused_line : ℕ → List ℕ
refused_line number = decimal number ++ newline

-- the line of the reader's answer
abbrev pub answer_line : Result ℕ Refusal → List ℕ
answer_line (Ok bits) = accepted_line bits
answer_line (Err f) = refused_line (refusal_number f)

-- under the list (0, 0): one record, 12 bytes
unfoldable pub line_of : List ℕ → List ℕ
line_of text = answer_line (read_outcome (replicate 12 0) text)

-- ---- the answers to an input, where `line` is the part of the open line that was read before

-- the end of the input: an open line that has a byte counts
unfoldable pub last_of : List ℕ → List ℕ
last_of [] = []
last_of (b ∷ s) = line_of (b ∷ s)

unfoldable pub answers_from : List ℕ → List ℕ → List ℕ
answers_from line [] = last_of line
answers_from line (b ∷ s) = cond (eqb b 10) (line_of line ++ answers_from [] s) (answers_from (line ++ (b ∷ [])) s)

abbrev pub answers : List ℕ → List ℕ
answers input = answers_from [] input

-- ---- the same in chunks, with no more than 33 bytes kept of a line

-- the open line behind the byte b
unfoldable pub behind : List ℕ → ℕ → List ℕ
behind line b = cond (eqb b 10) [] (cond (ltb (length line) 33) (line ++ (b ∷ [])) line)

-- what the byte b prints
unfoldable pub prints : List ℕ → ℕ → List ℕ
prints line b = cond (eqb b 10) (line_of line) []

-- what a chunk prints behind the open line, and the line that it leaves open
unfoldable pub emitted : List ℕ → List ℕ → List ℕ
emitted line [] = []
emitted line (b ∷ s) = prints line b ++ emitted (behind line b) s

unfoldable pub left : List ℕ → List ℕ → List ℕ
left line [] = line
left line (b ∷ s) = left (behind line b) s

-- the lent bytes behind a chunk, where the open line is `line`: at each byte the open line is stored from their start on
unfoldable pub lent : List ℕ → List ℕ → List ℕ → List ℕ
lent bytes line [] = bytes
lent bytes line (b ∷ s) = lent (sets bytes 0 (behind line b)) (behind line b) s

-- what all chunks print, and then the end of the input; and the chunks as one input
unfoldable pub answers_of_chunks : List ℕ → List (List ℕ) → List ℕ
answers_of_chunks line [] = last_of line
answers_of_chunks line (c ∷ cs) = emitted line c ++ answers_of_chunks (left line c) cs

abbrev pub joined : List (List ℕ) → List ℕ
joined [] = []
joined (c ∷ cs) = c ++ joined cs

-- ---- for the contracts

-- the bits are those of a time of the range
pub record IsTimeBits (bits : ℕ) : Type 0 where
  pub time : ℤ
  pub inside : InRange time
  pub bits_are : bits ≡ time_bits time

-- w is put behind what was put before
abbrev pub Appends : Output → List ℕ → Output → Type 0
Appends old w new = Appended old w (length w) new
