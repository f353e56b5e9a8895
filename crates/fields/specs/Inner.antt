-- What the crate's functions take and give, for their contracts; no outcome cites it. Definitions only. Assumes nothing.
use Rattle.std.specs.Prelude.{List, [], ℕ, Option, Some, None, Result, Ok, Err}
use Rattle.std.specs.Borrow.{Bor}
use Rattle.answer.specs.declared.Refusal.{Refusal}

-- what a call is handed for a zone list; a UTC call is handed none
abbrev pub zone_bytes : Option (Bor (List ℕ)) → List ℕ
zone_bytes (Some bytes) = bytes.now
zone_bytes None = []

-- past a row that may turn the call back: its refusal, or else the rest
abbrev pub past : {A : Type 0} → Result A Refusal → Result ℕ Refusal → Result ℕ Refusal
past (Ok x) rest = rest
past (Err f) rest = Err f
