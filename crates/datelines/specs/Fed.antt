-- What a part of the input leaves behind, for the contracts. Definitions only. Assumes nothing.
use Rattle.std.specs.Prelude.{◌≡◌, List, ℕ, ◌+◌, ◌≤◌, take}
use Rattle.text.specs.declared.output.Output.{Output}
use Rattle.datelines.specs.Lines.{Appends}
use Rattle.datelines.specs.declared.open_line.OpenLine.{OpenLine}

-- the open line's own bytes
abbrev pub begun : OpenLine → List ℕ
begun line = take line.kept line.bytes

-- `w` was printed into the output; `opened` is the line that is open then (its type says that no more than 33 bytes are kept); and
-- `bytes` are all that were lent. What was printed has `most` bytes at most, so that a caller knows what room it takes.
pub record Feeds (w opened bytes : List ℕ) (most : ℕ) (out : Output) (line : OpenLine) (last : Output) : Type 0 where
  pub puts : Appends out w last
  pub opens : begun line ≡ opened
  pub leaves : line.bytes ≡ bytes
  pub room : last.at ≤ out.at + most
