-- The steps behind the reader's half of demand 2 (proofs/Demand2.antt): the reader's answer is one of four, each with what holds of the list
-- and the text, and the four have different numbers; so each number is given exactly then. Assumes nothing.
use mathlib.Core.Path.{◌≡◌, refl, sym, ap, ◌∙◌, subst}
use mathlib.Core.Bool.{Bool, true, false, true≢false}
use mathlib.Core.List.{List}
use mathlib.Core.Logic.{◌↔◌}
use Prim.Native.Nat.{ℕ, ◌<◌}
use native.Mathlib.Omega.{arith}
use lib.Dec.{leb, leb→le, nleb→lt}
use lib.IntN.{ℤ, nat_abs}
use Rattle.integers.proofs.Int.{by-test}
use Rattle.ecma262.specs.Date.{time_range, InRange}
use Rattle.ecma262.specs.Format.{Form, Writes}
use Rattle.zone.specs.Zone.{Accepted, accepts, records}
use Rattle.zone.proofs.Rule.{accepts-sound, accepts-complete}
use Rattle.parser.specs.declared.Fault.{Fault}
use Rattle.parser.specs.declared.Fault.TheVariants.{Short, Bad, Range, Trailing}
use Rattle.answer.specs.Answer.{answer_of_time, refusal_number, time_bits}
use Rattle.answer.specs.declared.Refusal.{Refusal}
use Rattle.std.specs.Prelude.{Result, Ok}
use Rattle.reader.specs.Denotes.{instant_of, Denotes, AcceptedText}
use Rattle.reader.specs.Outcome.{refusal_of, read_outcome}
use Rattle.reader.proofs.Answers.{list-refused}
use Rattle.reader.proofs.Denotation.{Read, instant, turned-back, reading, reads-instant, reads-outside}
use Rattle.demands.specs.Terms.{read_number, OfText, NoForm, DenotesOutside}

abbrev number_of : Result ℕ Refusal → ℕ
number_of r = (answer_of_time r).number

-- the rows 5 to 8
fault-number : (f : Fault) → OfText (refusal_number (refusal_of f))
fault-number Short = omega arith
fault-number Bad = omega arith
fault-number Range = omega arith
fault-number Trailing = omega arith

module _ (zone text : List ℕ) where
  -- ---- the four answers
  data Answer : Type 0 where
    no-list : (Accepted zone → ⊥) → read_number zone text ≡ 1 → Answer
    no-form : Accepted zone → NoForm text → OfText (read_number zone text) → Answer
    outside : Accepted zone → DenotesOutside zone text → read_number zone text ≡ 9 → Answer
    inside : AcceptedText zone text → read_number zone text ≡ 0 → Answer

  module _ (a : Accepted zone) where
    -- an instant in the range, or outside it
    pub inside-answer : (t : ℤ) → Denotes zone text t → InRange t → read_outcome zone text ≡ Ok (time_bits t)
    inside-answer t d h = (reads-instant zone text a t h).1 d

    outside-number : DenotesOutside zone text → read_number zone text ≡ 9
    outside-number o = ap number_of ((reads-outside zone text a).1 (o.0, o.1, omega (arith, o.2)))

    by-instant : (t : ℤ) → Denotes zone text t → Answer
    by-instant t d =
        by-test (leb (nat_abs t) time_range)
        (λ c. let h : InRange t = leb→le (nat_abs t) time_range c in inside (record { list = a; t = t; denotes = d; inside = h }) (ap number_of (inside-answer t d h)))
        (λ c. let h : time_range < nat_abs t = nleb→lt (nat_abs t) time_range c in let o : DenotesOutside zone text = (t, d, omega (arith, h)) in outside a o (outside-number o))

    -- a text that a form writes is answered by 0 or 9
    written-number : (f : Form) → Writes f text → OfText (read_number zone text) → ⊥
    written-number f w k = go (by-instant (instant_of (records zone) f) (record { form = f; writes = w; instant = refl }))
      where
        go : Answer → ⊥
        go (no-list n e) = n a
        go (no-form b n e) = n f w
        go (outside b o e) = omega arith
        go (inside b e) = omega arith

    by-reading : Read zone text a → Answer
    by-reading (instant t d) = by-instant t d
    by-reading (turned-back f e) =
        let k : OfText (read_number zone text) = subst (λ (r : Result ℕ Refusal). OfText (number_of r)) (sym e) (fault-number f) in
        no-form a (λ g w. written-number g w k) k

  answer : Answer
  answer = go (accepts zone) refl
    where
      go : (b : Bool) → accepts zone ≡ b → Answer
      go true e = by-reading (accepts-sound zone e) (reading zone text (accepts-sound zone e))
      go false e = no-list (λ a. true≢false (sym (accepts-complete zone a) ∙ e)) (ap number_of (sym (list-refused zone text e)))

  -- ---- each number exactly then
  pub zero-exactly : (read_number zone text ≡ 0) ↔ AcceptedText zone text
  zero-exactly = (λ n. to n answer, λ a. ap number_of (inside-answer a.list a.t a.denotes a.inside))
    where
      to : read_number zone text ≡ 0 → Answer → AcceptedText zone text
      to n (no-list x e) = absurd (omega arith)
      to n (no-form a x e) = absurd (omega arith)
      to n (outside a x e) = absurd (omega arith)
      to n (inside a e) = a

  pub nine-exactly : (read_number zone text ≡ 9) ↔ (Accepted zone × DenotesOutside zone text)
  nine-exactly = (λ n. to n answer, λ w. outside-number w.0 w.1)
    where
      to : read_number zone text ≡ 9 → Answer → Accepted zone × DenotesOutside zone text
      to n (no-list x e) = absurd (omega arith)
      to n (no-form a x e) = absurd (omega arith)
      to n (outside a x e) = (a, x)
      to n (inside a e) = absurd (omega arith)

  pub text-exactly : OfText (read_number zone text) ↔ (Accepted zone × NoForm text)
  text-exactly = (λ n. to n answer, λ w. from w.0 w.1 answer)
    where
      to : OfText (read_number zone text) → Answer → Accepted zone × NoForm text
      to n (no-list x e) = absurd (omega arith)
      to n (no-form a x e) = (a, x)
      to n (outside a x e) = absurd (omega arith)
      to n (inside a e) = absurd (omega arith)

      from : Accepted zone → NoForm text → Answer → OfText (read_number zone text)
      from a none (no-list x e) = absurd (x a)
      from a none (no-form b x e) = e
      from a none (outside b x e) = absurd (none x.1.form x.1.writes)
      from a none (inside b e) = absurd (none b.denotes.form b.denotes.writes)

  pub one-exactly : (read_number zone text ≡ 1) ↔ (Accepted zone → ⊥)
  one-exactly = (λ n. to n answer, λ x. from x answer)
    where
      to : read_number zone text ≡ 1 → Answer → Accepted zone → ⊥
      to n (no-list x e) = x
      to n (no-form a x e) = absurd (omega arith)
      to n (outside a x e) = absurd (omega arith)
      to n (inside a e) = absurd (omega arith)

      from : (Accepted zone → ⊥) → Answer → read_number zone text ≡ 1
      from n (no-list x e) = e
      from n (no-form a x e) = absurd (n a)
      from n (outside a x e) = absurd (n a)
      from n (inside a e) = absurd (n a.list)
