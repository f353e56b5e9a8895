-- What the theorems of change request 9 (proofs/LogOrder.antt) are said with: the years 0000 to 9999, the bytes that the two functions which
-- write ISO texts write for an instant, a log of such lines, and the place that a search finds in it. Definitions only. Assumes nothing.
use Rattle.std.specs.Prelude.{◌≡◌, List, ℕ, ◌<◌, ◌≤◌, length, get_or, ◌⊎◌, ℤ, pos, ◌≤ℤ◌, AllPairs}
use Rattle.std.specs.Float.{binary64}
use Rattle.std.specs.Float.Ieee.{of_bits}
use Rattle.ecma262.specs.Date.{year_from_time}
use Rattle.float.specs.Whole.{IsWhole}
use Rattle.answer.specs.Answer.{answer_of}
use Rattle.reader.specs.Denotes.{Denotes}
use Rattle.writer.specs.Outcome.{Outcome}
use Rattle.writer.specs.Writer.{iso_outcome}
use Rattle.rewrite.specs.Rewrite.{rewrite_outcome, run_of}

-- "in years 0000 to 9999"
abbrev pub InYears0To9999 : ℤ → Type 0
InYears0To9999 t = (pos 0 ≤ℤ year_from_time t) × (year_from_time t ≤ℤ pos 9999)

-- ---- what is written for an instant

-- a call with number 0 whose run is these bytes
pub record Done (o : Outcome) (bytes : List ℕ) : Type 0 where
  pub number : (answer_of o.reply).number ≡ 0
  pub run : run_of o ≡ bytes

-- a call of zovattha_to_iso_string for the instant t: a time value's bits, and an output
pub record ByIsoWriter (t : ℤ) (bytes : List ℕ) : Type 0 where
  pub time : ℕ
  pub out : List ℕ
  pub value : IsWhole (of_bits binary64 time) t
  pub done : Done (iso_outcome time out) bytes

-- a call of zovattha_rewrite for the instant t: a zone list, a text that denotes t under it, and an output
pub record ByRewriting (t : ℤ) (bytes : List ℕ) : Type 0 where
  pub zone : List ℕ
  pub text : List ℕ
  pub out : List ℕ
  pub denotes : Denotes zone text t
  pub done : Done (rewrite_outcome zone text out) bytes

-- a line of the log: one of the two functions wrote it for the instant t, which is in these years
abbrev pub Line : ℤ → List ℕ → Type 0
Line t bytes = InYears0To9999 t × (ByIsoWriter t bytes ⊎ ByRewriting t bytes)

-- ---- a log and a search in it

-- lines, and the instant of each
pub record Log (times : List ℤ) (lines : List (List ℕ)) : Type 0 where
  pub as-many : length times ≡ length lines
  pub each : (k : ℕ) (t : ℤ) (line : List ℕ) → k < length lines → Line (get_or times k t) (get_or lines k line)

-- non-falling: no entry comes before an earlier one
abbrev pub NonFalling : {A : Type 0} → (A → A → Type 0) → List A → Type 0
NonFalling Before entries = AllPairs (λ x y. Before y x → ⊥) entries

-- the place that a search by halving finds, counted from 0: what is sought ("before") holds of every entry ahead of it and of none from it on
pub record Parts {A : Type 0} (Before : A → Type 0) (entries : List A) (place : ℕ) : Type 0 where
  pub within : place ≤ length entries
  pub ahead : (k : ℕ) (x : A) → k < place → Before (get_or entries k x)
  pub behind : (k : ℕ) (x : A) → place ≤ k → k < length entries → Before (get_or entries k x) → ⊥
