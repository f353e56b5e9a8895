-- What is printed for an input. The first 33 bytes of a line decide its answer; so the chunks of an input, with no more kept of a line, print
-- what the whole input prints, wherever it is cut. Assumes nothing.
use mathlib.Core.Path.{◌≡◌, refl, sym, ap, ◌∙◌}
use mathlib.Core.Bool.{Bool, true, false, cond}
use mathlib.Core.List.{List, [], ◌∷◌, ◌++◌, append_assoc, append-nil}
use mathlib.Core.Logic.{◌⊎◌, inl, inr}
use Prim.Native.Nat.{ℕ, ◌≤◌, ◌<◌}
use native.Mathlib.Omega.{arith}
use borrow.Author.Tests.{lt-ltb}
use lib.Dec.{ltb, eqb, ltb→lt, nltb→le, lit≤}
use lib.ListN.{length, take, replicate, length-append}
use lib.Seq.{take_all, take-append-le, length-take-le, sets}
use lib.Ieee.{binary64, of_bits}
use Rattle.integers.proofs.Int.{by-test}
use Rattle.ecma262.proofs.Texts.{lengths-iso}
use Rattle.float.specs.Whole.{trunc_z}
use Rattle.zone.specs.Zone.{accepts, records}
use Rattle.ecma262.specs.Format.{Form}
use Rattle.parser.specs.Reading.{Out}
use Rattle.parser.proofs.Prefix.{read-prefix}
use Rattle.answer.specs.Answer.{refusal_number}
use Rattle.answer.specs.declared.Refusal.{Refusal}
use Rattle.answer.specs.declared.Refusal.TheVariants.{ZoneList}
use Rattle.std.specs.Prelude.{Result, Ok, Err}
use Rattle.reader.specs.Outcome.{reply_for, read_outcome}
use Rattle.datelines.specs.Lines.{accepted_line, refused_line, answer_line, line_of, last_of, answers_from, answers, behind, prints, emitted, left, lent, answers_of_chunks, joined, iso_of_bits}
use Rattle.datelines.proofs.Decimal.{within, signed-length}

-- the prefix: no accepted text is longer than 32 bytes, so the first 33 decide
pub line-prefix : (n : ℕ) (text : List ℕ) → 33 ≤ n → line_of (take n text) ≡ line_of text
unfolding line_of read_outcome
line-prefix n text h =
    ap (λ (r : Out Form). answer_line (cond (accepts (replicate 12 0)) (reply_for (records (replicate 12 0)) r) (Err ZoneList))) (read-prefix n text h)

-- the answer by the reader's answer
pub line-of : (text : List ℕ) (r : Result ℕ Refusal) → read_outcome (replicate 12 0) text ≡ r → answer_line r ≡ line_of text
unfolding line_of
line-of text r e = ap answer_line (sym e)

-- the end of the input: with no line open nothing is stored; else the line's answer is
pub last_none : (l : List ℕ) → length l ≡ 0 → last_of l ≡ []
unfolding last_of
last_none [] e = refl
last_none (b ∷ l) e = absurd (omega arith)

pub last_some : (l : List ℕ) → (length l ≡ 0 → ⊥) → line_of l ≡ last_of l
unfolding last_of
last_some [] e = absurd (e refl)
last_some (b ∷ l) e = refl

-- ---- a byte more
pub left-snoc : (line s : List ℕ) (b : ℕ) → left line (s ++ (b ∷ [])) ≡ behind (left line s) b
unfolding left
left-snoc line [] b = refl
left-snoc line (a ∷ s) b = left-snoc (behind line a) s b

pub lent-snoc : (bytes line s : List ℕ) (b : ℕ) → lent bytes line (s ++ (b ∷ [])) ≡ sets (lent bytes line s) 0 (behind (left line s) b)
unfolding left lent
lent-snoc bytes line [] b = refl
lent-snoc bytes line (a ∷ s) b = lent-snoc (sets bytes 0 (behind line a)) (behind line a) s b

pub emitted-snoc : (line s : List ℕ) (b : ℕ) → emitted line (s ++ (b ∷ [])) ≡ emitted line s ++ prints (left line s) b
unfolding left emitted
emitted-snoc line [] b = append-nil (prints line b)
emitted-snoc line (a ∷ s) b = ap (λ (t : List ℕ). prints line a ++ t) (emitted-snoc (behind line a) s b) ∙ sym (append_assoc (prints line a) (emitted (behind line a) s) (prints (left (behind line a) s) b))

-- ---- lengths: an answer has no more than 64 bytes
pub iso_length : (bits : ℕ) → length (iso_of_bits bits) ≤ 27
unfolding iso_of_bits
iso_length bits = go (lengths-iso (trunc_z (of_bits binary64 bits)))
  where
    go : {n : ℕ} → (n ≡ 24) ⊎ (n ≡ 27) → n ≤ 27
    go (inl e) = omega arith
    go (inr e) = omega arith

answer-length : (r : Result ℕ Refusal) → length (answer_line r) ≤ 64
unfolding accepted_line refused_line
answer-length (Ok bits) = simp length-append (omega (arith, iso_length bits, signed-length (trunc_z (of_bits binary64 bits))))
answer-length (Err f) = simp length-append (omega (arith, within 20 (refusal_number f)))

pub line-length : (text : List ℕ) → length (line_of text) ≤ 64
unfolding line_of
line-length text = answer-length (read_outcome (replicate 12 0) text)

pub last_length : (line : List ℕ) → length (last_of line) ≤ 64
unfolding last_of
last_length [] = omega arith
last_length (b ∷ s) = line-length (b ∷ s)

pub prints-length : (line : List ℕ) (b : ℕ) → length (prints line b) ≤ 64
unfolding prints
prints-length line b = go (eqb b 10)
  where
    go : (c : Bool) → length (cond c (line_of line) []) ≤ 64
    go true = line-length line
    go false = omega arith

-- ---- chunks

-- of a line, its first 33 bytes are kept
kept-behind : (line : List ℕ) (b : ℕ) → behind (take 33 line) b ≡ take 33 (cond (eqb b 10) [] (line ++ (b ∷ [])))
unfolding behind
kept-behind line b = go (eqb b 10)
  where
    more : cond (ltb (length (take 33 line)) 33) (take 33 line ++ (b ∷ [])) (take 33 line) ≡ take 33 (line ++ (b ∷ []))
    more =
        by-test (ltb (length line) 33)
        (λ c. let h : length line < 33 = ltb→lt (length line) 33 c in
        ap (λ (l : List ℕ). cond (ltb (length l) 33) (l ++ (b ∷ [])) l) (take_all 33 line (omega arith))
        ∙ rw (lt-ltb (length line) 33 h) (sym (take_all 33 (line ++ (b ∷ [])) (simp length-append (omega arith)))))
        (λ c. let h : 33 ≤ length line = nltb→le (length line) 33 c in
        ap (λ (n : ℕ). cond (ltb n 33) (take 33 line ++ (b ∷ [])) (take 33 line)) (length-take-le 33 line h) ∙ sym (take-append-le 33 line (b ∷ []) h))

    go : (c : Bool) → cond c [] (cond (ltb (length (take 33 line)) 33) (take 33 line ++ (b ∷ [])) (take 33 line)) ≡ take 33 (cond c [] (line ++ (b ∷ [])))
    go true = refl
    go false = more

last-kept : (line : List ℕ) → last_of (take 33 line) ≡ last_of line
unfolding last_of
last-kept [] = refl
last-kept (b ∷ s) = line-prefix 33 (b ∷ s) (lit≤ tt)

one_byte : (line s : List ℕ) (b : ℕ) → prints (take 33 line) b ++ answers_from (cond (eqb b 10) [] (line ++ (b ∷ []))) s ≡ answers_from line (b ∷ s)
unfolding prints answers_from
one_byte line s b = go (eqb b 10)
  where
    go : (c : Bool)
        → cond c (line_of (take 33 line)) [] ++ answers_from (cond c [] (line ++ (b ∷ []))) s ≡ cond c (line_of line ++ answers_from [] s) (answers_from (line ++ (b ∷ [])) s)
    go true = ap (λ (l : List ℕ). l ++ answers_from [] s) (line-prefix 33 line (lit≤ tt))
    go false = refl

module _ (rest : List ℕ) (goes : List ℕ → List ℕ) (same : (line : List ℕ) → goes (take 33 line) ≡ answers_from line rest) where
  by-chunk : (c line : List ℕ) → emitted (take 33 line) c ++ goes (left (take 33 line) c) ≡ answers_from line (c ++ rest)
  unfolding emitted left
  by-chunk [] line = same line
  by-chunk (b ∷ c) line =
      append_assoc (prints (take 33 line) b) (emitted (behind (take 33 line) b) c) (goes (left (behind (take 33 line) b) c))
      ∙ ap (λ (l : List ℕ). prints (take 33 line) b ++ (emitted l c ++ goes (left l c))) (kept-behind line b)
      ∙ ap (λ (t : List ℕ). prints (take 33 line) b ++ t) (by-chunk c (cond (eqb b 10) [] (line ++ (b ∷ []))))
      ∙ one_byte line (c ++ rest) b

-- The stream: wherever an input is cut into chunks, they print the answers to its lines
pub by-chunks : (cs : List (List ℕ)) (line : List ℕ) → answers_of_chunks (take 33 line) cs ≡ answers_from line (joined cs)
unfolding answers_of_chunks answers_from
by-chunks [] line = last-kept line
by-chunks (c ∷ cs) line = by-chunk (joined cs) (λ (l : List ℕ). answers_of_chunks l cs) (by-chunks cs) c line

pub stream : (cs : List (List ℕ)) → answers_of_chunks [] cs ≡ answers (joined cs)
stream cs = by-chunks cs []
