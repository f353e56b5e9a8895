-- A run that was written at the start of a part of an output. Assumes nothing.
use mathlib.Core.Path.{◌≡◌, sym, ◌∙◌}
use mathlib.Core.List.{List, ◌++◌, append_assoc}
use Prim.Native.Nat.{ℕ, ◌+◌, ◌≤◌}
use lib.ListN.{length, take, drop}
use lib.Seq.{sets, sets-eq, drop-drop}

pub part-stored : (w out : List ℕ) (i : ℕ) {last : List ℕ} → i + length w ≤ length out → last ≡ take i out ++ (w ++ drop (length w) (drop i out)) → last ≡ sets out i w
part-stored w out i {last} h e = e ∙ sym (sets-eq w out i h ∙ rw (append_assoc, ← drop-drop (length w) i out))
