-- Runs of stored bytes: one behind the other is one run, and a run from the start of an output with room is the text printed. Assumes nothing.
use mathlib.Core.Path.{◌≡◌, refl, sym, ap, ◌∙◌}
use mathlib.Core.List.{List, [], ◌∷◌, ◌++◌, append_assoc}
use Prim.Native.Nat.{ℕ, suc, ◌+◌, ◌≤◌, ◌<◌}
use native.Mathlib.Omega.{arith}
use native.Mathlib.Nat.{zero-add, add-zero, add-suc, suc-add}
use lib.ListN.{length, set, length-append}
use lib.Seq.{sets, sets-eq, drop-drop, length-sets}
use borrow.Author.Tests.{le-leb, lt-leb}
use borrow.Rule.Slice.PartMut.{put_mid}
use Rattle.std.proofs.Common.{Some, None}
use Rattle.text.specs.Inner.{Appended, Prints}
use Rattle.text.specs.declared.output.Output.{Output}

-- stores in a row behind stores in a row
pub sets-join : (u v l : List ℕ) (i : ℕ) → sets (sets l i u) (i + length u) v ≡ sets l i (u ++ v)
sets-join [] v l i = rw add-zero
sets-join (a ∷ u) v l i = rw (add-suc, ← suc-add i (length u)) (sets-join u v (set l i a) (suc i))

-- a copy into the part that is as long as the copy
module _ (xs w : List ℕ) (i k : ℕ) (h : i + length w ≤ length xs) (e : k ≡ length w) where
  pub part-copied : put_mid i k xs w ≡ sets xs i w
  part-copied = sym (sets-eq w xs i h ∙ rw (append_assoc, ← drop-drop (length w) i xs, e))

  pub part-long : length (put_mid i k xs w) ≡ length xs
  part-long = ap length part-copied ∙ length-sets xs i w

module _ {a b : Output} {n : ℕ} {u w : List ℕ} (h : Appended a u n b) (e : u ≡ w) where
  -- a run by another name, and with that name's length
  pub appended_as : Appended a w n b
  appended_as =
      record { puts = record { stored = rw (← e) h.puts.stored; long = rw (← e) h.puts.long }; next = h.next; size = h.size; same_reference = h.same_reference }

  pub appended_own : Appended a w (length w) b
  appended_own =
      let l : n ≡ length w = sym h.puts.long ∙ ap length e in
      record { puts = record { stored = rw (← e) h.puts.stored; long = refl }; next = rw (← l) h.next; size = h.size; same_reference = h.same_reference }

-- nothing put
pub appended_none : {a : Output} → Appended a [] 0 a
appended_none {a} = record { puts = record { stored = refl; long = refl }; next = sym (add-zero a.at); size = refl; same_reference = refl }

-- one run behind the other
pub appended_then : {a b c : Output} {m n : ℕ} {u v : List ℕ} → Appended a u m b → Appended b v n c → Appended a (u ++ v) (m + n) c
appended_then {a} {b} {c} {m} {n} {u} {v} h g =
    record {
      puts = record {
        stored = g.puts.stored ∙ rw (h.puts.stored, h.next, ← h.puts.long) (sets-join u v a.bytes.now a.at);
        long = length-append u v ∙ rw (h.puts.long, g.puts.long);
      };
      next = omega (arith, h.next, g.next);
      size = g.size ∙ h.size;
      same_reference = g.same_reference ∙ h.same_reference;
    }

module _ {w out last : List ℕ} {n : ℕ} where
  pub prints_none : length w ≡ n → length out < n → last ≡ out → Prints w out last None
  prints_none e h k =
      let g : length out < length w = omega arith in
      record { answer = simp (lt-leb _ _ g); output = simp (lt-leb _ _ g) k }

  -- the text was put from the start of the output on; `last` is what its bytes are at the end
  pub prints_whole : {a b : Output} {m : ℕ} → Appended a w m b → a.bytes.now ≡ out → a.at ≡ 0 → last ≡ b.bytes.now → m ≡ n → n ≤ length out → Prints w out last (Some n)
  prints_whole {a} {b} {m} p from start to k h =
      let e : length w ≡ n = p.puts.long ∙ k in
      let g : length w ≤ length out = omega arith in
      let s : 0 + length w ≤ length out = omega arith in
      record {
        answer = simp (le-leb _ _ g) (ap Some (sym e));
        output = simp (le-leb _ _ g) (to ∙ p.puts.stored ∙ ap (λ (i : ℕ). sets a.bytes.now i w) start ∙ ap (λ (o : List ℕ). sets o 0 w) from ∙ sets-eq w out 0 s ∙ rw zero-add);
      }
