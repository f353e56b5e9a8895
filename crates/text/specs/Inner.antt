-- What the printing functions take and leave, for their contracts; no outcome cites it: the fields as the Date chapter's, parts of the texts,
-- and what stands in a lent output once bytes are stored there. Definitions only. Assumes nothing.
use Rattle.std.specs.Prelude.{◌≡◌, cond, List, ◌++◌, ℕ, ◌+◌, ◌≤◌, leb, length, drop, Option, Some, None}
use Rattle.std.proofs.lemmas.List.Edits.{sets}
use Rattle.ecma262.specs.Date.{Fields}
use Rattle.ecma262.specs.Digits.{digits}
use Rattle.ecma262.specs.Texts.{ascii, day_name, month_name, signed_year, time_string_of}
use Rattle.text.specs.declared.fields.DateFields.{DateFields}
use Rattle.text.specs.declared.output.Output.{Output}

-- ---- the fields

abbrev pub whole_of : DateFields → Fields
whole_of f =
    record {
      year = f.year;
      month = f.month;
      date = f.date;
      hour = f.hour;
      minute = f.minute;
      second = f.second;
      ms = f.ms;
    }

-- what stands before the year: `Www, DD Mmm ` of the UTC text, and `Www Mmm DD ` of DateString
abbrev pub utc_head : ℕ → Fields → List ℕ
utc_head weekday f = day_name weekday ++ ascii ", " ++ digits 2 f.date ++ ascii " " ++ month_name f.month ++ ascii " "

abbrev pub local_head : ℕ → Fields → List ℕ
local_head weekday f = day_name weekday ++ ascii " " ++ month_name f.month ++ ascii " " ++ digits 2 f.date ++ ascii " "

-- what stands behind it in both: the year, a space and TimeString
abbrev pub year_and_time : Fields → List ℕ
year_and_time f = signed_year f.year ++ ascii " " ++ time_string_of f

-- ---- the output

-- the n bytes of w are stored in the output from the place i on: `last` is the output then
pub record Puts (out : List ℕ) (i : ℕ) (w : List ℕ) (n : ℕ) (last : List ℕ) : Type 0 where
  pub stored : last ≡ sets out i w
  pub long : length w ≡ n

-- there is room for n bytes more
abbrev pub HasRoom : Output → ℕ → Type 0
HasRoom o n = o.at + n ≤ length o.bytes.now

-- the n bytes of w are put behind what was put before, in the same lent bytes
pub record Appended (old : Output) (w : List ℕ) (n : ℕ) (new : Output) : Type 0 where
  pub puts : Puts old.bytes.now old.at w n new.bytes.now
  pub next : new.at ≡ old.at + n
  pub size : length new.bytes.now ≡ length old.bytes.now
  pub same_reference : new.bytes.ghost_name ≡ old.bytes.ghost_name

-- the output once the text w is written: w, and behind it what stood there; an output shorter than w stays as it was
abbrev pub output_of : List ℕ → List ℕ → List ℕ
output_of w out = cond (leb (length w) (length out)) (w ++ drop (length w) out) out

-- the answer: the text's length, or none where the output is shorter than the text
abbrev pub printed_of : List ℕ → List ℕ → Option ℕ
printed_of w out = cond (leb (length w) (length out)) (Some (length w)) None

-- the whole outcome of printing the text w into an output: the answer, and every byte of the output at exit
pub record Prints (w out last : List ℕ) (r : Option ℕ) : Type 0 where
  pub answer : r ≡ printed_of w out
  pub output : last ≡ output_of w out
