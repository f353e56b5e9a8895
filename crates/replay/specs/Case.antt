-- A case as a line writes it. Definitions only. Assumes nothing.
use Rattle.std.specs.Prelude.{List, ℕ, take, replicate, ◌++◌}

-- the first n bytes, with zero bytes for those that are missing
abbrev pub first_bytes : ℕ → List ℕ → List ℕ
first_bytes n bytes = take n (bytes ++ replicate n 0)
