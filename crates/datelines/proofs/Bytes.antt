-- What one byte of the input prints and leaves open, and the lent bytes then, by cases; and the chunk so far, with a byte more. Assumes nothing.
use mathlib.Core.Path.{◌≡◌, sym, ap, ap₂, ◌∙◌}
use mathlib.Core.List.{List, [], ◌∷◌, ◌++◌}
use Prim.Native.Nat.{ℕ, ◌+◌, ◌*◌, ◌≤◌, ◌<◌}
use native.Mathlib.Omega.{arith}
use native.Mathlib.Nat.{zero-add}
use native.Mathlib.Numerals.{add-one}
use borrow.Author.Tests.{eq-eqb, ne_eqb, lt-ltb, le-ltb}
use lib.ListN.{length, take, set, get_or, take-append-drop}
use lib.Seq.{length-take-le, take-suc-set, take-suc, sets, sets-eq}
use Rattle.text.specs.declared.output.Output.{Output}
use Rattle.text.proofs.Runs.{sets-join, appended_none, appended_own, appended_then}
use Rattle.datelines.specs.declared.open_line.OpenLine.{OpenLine}
use Rattle.datelines.specs.Fed.{begun, Feeds}
use Rattle.datelines.specs.Lines.{line_of, behind, prints, emitted, left, lent, Appends}
use Rattle.datelines.proofs.Streams.{left-snoc, lent-snoc, emitted-snoc, line-length}

-- ---- a byte b, taken in where the open line is `line`
abbrev pub TakenIn : OpenLine → ℕ → Output → OpenLine → Output → Type 0
TakenIn line b out next last = Feeds (prints (begun line) b) (behind (begun line) b) (sets line.bytes 0 (behind (begun line) b)) 64 out next last

-- a newline ends the line
pub line_ends : (line : OpenLine) (b : ℕ) (out : Output) (next : OpenLine) (last : Output) → b ≡ 10 → Appends out (line_of (begun line)) last → next.bytes ≡ line.bytes → next.kept ≡ 0 → TakenIn line b out next last
unfolding prints behind
line_ends line b out next last e p same none =
    record {
      puts = appended_own p (rw (eq-eqb b 10 e));
      opens = rw (none, eq-eqb b 10 e);
      leaves = rw (eq-eqb b 10 e) same;
      room = omega (arith, p.next, line-length (begun line));
    }

-- another byte is kept, or not
module _ (line : OpenLine) (b : ℕ) (out : Output) (next : OpenLine) (other : b ≡ 10 → ⊥) (inside : line.kept ≤ length line.bytes) where
  count : length (begun line) ≡ line.kept
  count = length-take-le line.kept line.bytes inside

  -- the open line, stored where it stands
  in_place : sets line.bytes 0 (begun line) ≡ line.bytes
  in_place = sets-eq (begun line) line.bytes 0 (omega (arith, count)) ∙ rw (zero-add, count) (take-append-drop line.kept line.bytes)

  taken_in : begun next ≡ behind (begun line) b → next.bytes ≡ sets line.bytes 0 (behind (begun line) b) → TakenIn line b out next out
  unfolding prints
  taken_in opens leaves = record { puts = appended_own appended_none (rw (ne_eqb b 10 other)); opens = opens; leaves = leaves; room = omega arith }

  pub byte_kept : line.kept < 33 → line.kept < length line.bytes → next.bytes ≡ set line.bytes line.kept b → next.kept ≡ line.kept + 1 → TakenIn line b out next out
  unfolding behind
  byte_kept h room bytes kept =
      taken_in (rw (bytes, kept, ne_eqb b 10 other, count, lt-ltb line.kept 33 h, add-one) (take-suc-set line.bytes line.kept b room))
      (rw (ne_eqb b 10 other, count, lt-ltb line.kept 33 h) (bytes ∙ sym (sym (sets-join (begun line) (b ∷ []) line.bytes 0) ∙ rw (in_place, zero-add, count))))

  pub byte_dropped : 33 ≤ line.kept → next.bytes ≡ line.bytes → next.kept ≡ line.kept → TakenIn line b out next out
  unfolding behind
  byte_dropped h bytes kept =
      taken_in (rw (bytes, kept, ne_eqb b 10 other, count, le-ltb line.kept 33 h)) (rw (bytes, ne_eqb b 10 other, count, le-ltb line.kept 33 h) (sym in_place))

-- ---- the chunk: from its first i bytes to the next
abbrev pub FedTo : List ℕ → OpenLine → Output → ℕ → OpenLine → Output → Type 0
FedTo chunk line out i l o = Feeds (emitted (begun line) (take i chunk)) (left (begun line) (take i chunk)) (lent line.bytes (begun line) (take i chunk)) (64 * i) out l o

module _ (chunk : List ℕ) (line : OpenLine) (out : Output) where
  pub none_fed : {next : OpenLine} → next.bytes ≡ line.bytes → next.kept ≡ line.kept → FedTo chunk line out 0 next out
  unfolding emitted left lent
  none_fed bytes kept = record { puts = appended_none; opens = rw (bytes, kept); leaves = bytes; room = omega arith }

  module _ (i : ℕ) {l : OpenLine} {o : Output} (p : FedTo chunk line out i l o) where
    pub one_more : {k : OpenLine} {last : Output} → i < length chunk
        → TakenIn l (get_or chunk i 0) o k last
        → FedTo chunk line out (i + 1) k last
    one_more more q =
        let b : ℕ = get_or chunk i 0 in
        let part : take (i + 1) chunk ≡ take i chunk ++ (b ∷ []) = rw add-one (take-suc chunk i 0 more) in
        record {
          puts = appended_own (appended_then p.puts q.puts)
              (ap (λ (s : List ℕ). emitted (begun line) (take i chunk) ++ prints s b) p.opens
              ∙ sym (ap (emitted (begun line)) part ∙ emitted-snoc (begun line) (take i chunk) b));
          opens = q.opens ∙ ap (λ (s : List ℕ). behind s b) p.opens ∙ sym (ap (left (begun line)) part ∙ left-snoc (begun line) (take i chunk) b);
          leaves = q.leaves ∙ ap₂ (λ (n s : List ℕ). sets n 0 (behind s b)) p.leaves p.opens
              ∙ sym (ap (lent line.bytes (begun line)) part ∙ lent-snoc line.bytes (begun line) (take i chunk) b);
          room = omega (arith, p.room, q.room);
        }
