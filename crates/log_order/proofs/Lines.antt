-- What the two functions that write ISO texts write for an instant, when they answer 0, is its ISO text; of the years 0000 to 9999 it has 24
-- bytes. Assumes nothing.
use mathlib.Core.Path.{◌≡◌, refl, sym, ap, ◌∙◌, subst}
use mathlib.Core.Logic.{inl, inr}
use mathlib.Core.List.{List}
use Prim.Native.Nat.{ℕ, ◌+◌, ◌≤◌}
use native.Mathlib.Omega.{arith}
use lib.Dec.{leb, leb→le, nleb→lt}
use lib.IntN.{ℤ, nat_abs}
use lib.Ieee.{Float, binary64, of_bits, of_int}
use lib.Ieee.Bits.{of_bits-to_bits}
use lib.Ieee.Fits.{of_int-fits}
use lib.ListN.{length, drop, replicate}
use lib.Seq.{take_at}
use Rattle.std.specs.Prelude.{Result, Ok, Err}
use Rattle.integers.proofs.Int.{by-test}
use Rattle.ecma262.specs.Date.{InRange, year_from_time, fields_of}
use Rattle.ecma262.specs.Texts.{iso_text}
use Rattle.ecma262.proofs.Digits.{length_digits}
use Rattle.ecma262.proofs.Texts.{iso-four, length-iso}
use Rattle.float.specs.Whole.{IsWhole}
use Rattle.answer.specs.Answer.{time_bits, answer_of, answer_of_time}
use Rattle.answer.specs.declared.Refusal.{Refusal}
use Rattle.reader.specs.Denotes.{AcceptedText}
use Rattle.reader.specs.Outcome.{read_outcome}
use Rattle.writer.specs.Outcome.{Outcome, written}
use Rattle.writer.specs.Writer.{iso_outcome}
use Rattle.writer.proofs.Outcomes.{written-whole, written_none, iso-writes}
use Rattle.rewrite.specs.Rewrite.{then_write, rewrite_outcome}
use Rattle.demands.proofs.Demand2.{each-millisecond, iso-text, accepts-exactly, answers-the-instant, denotes-one-instant}
use Rattle.log_order.specs.Log.{InYears0To9999, Done, ByIsoWriter, ByRewriting, Line}
use Rattle.log_order.proofs.Fields.{year-in-digits}
use Rattle.log_order.proofs.Years.{years-in-range}

-- ---- writing a text answers 0 exactly with room for it, and its run is the text
whole-run : (value : ℕ) (text out : List ℕ) → length text ≤ length out → Done (written value text out) text
whole-run value text out l =
    subst (λ (o : Outcome). Done o text) (sym (written-whole value text out l))
    (record { number = refl; run = take_at text (drop (length text) out) (length text) refl })

done-run : (value : ℕ) (text out : List ℕ) {bytes : List ℕ} → Done (written value text out) bytes → bytes ≡ text
done-run value text out d =
    by-test (leb (length text) (length out)) (λ c. sym d.run ∙ (whole-run value text out (leb→le _ _ c)).run)
    (λ c. absurd (let e : ◌≡◌ {A = ℕ} 11 0 = ap (λ (o : Outcome). (answer_of o.reply).number) (sym (written_none value text out (nleb→lt _ _ c))) ∙ d.number in omega arith))

-- ---- the ISO writer
iso-line : {t : ℤ} {bytes : List ℕ} → InRange t → ByIsoWriter t bytes → bytes ≡ iso_text t
iso-line {t} {bytes} r c = done-run (time_bits t) (iso_text t) c.out (subst (λ (o : Outcome). Done o bytes) (iso-text c.time t c.value r c.out) c.done)

-- ---- rewriting
accepted : (r : Result ℕ Refusal) (out : List ℕ) → (answer_of (then_write r out).reply).number ≡ 0 → (answer_of_time r).number ≡ 0
accepted (Ok instant) out e = refl
accepted (Err f) out e = e

rewriting-writes : {zone text : List ℕ} (a : AcceptedText zone text) (out : List ℕ) → rewrite_outcome zone text out ≡ written (time_bits a.t) (iso_text a.t) out
unfolding rewrite_outcome
rewriting-writes {zone} {text} a out = ap (λ (r : Result ℕ Refusal). then_write r out) (answers-the-instant zone text a) ∙ iso-writes a.t a.inside out

accepted-text : {t : ℤ} {bytes : List ℕ} (c : ByRewriting t bytes) → AcceptedText c.zone c.text
unfolding rewrite_outcome
accepted-text c = (accepts-exactly c.zone c.text).0 (accepted (read_outcome c.zone c.text) c.out c.done.number)

rewriting-line : {t : ℤ} {bytes : List ℕ} → ByRewriting t bytes → bytes ≡ iso_text t
rewriting-line {t} {bytes} c =
    let a : AcceptedText c.zone c.text = accepted-text c in
    done-run (time_bits a.t) (iso_text a.t) c.out (subst (λ (o : Outcome). Done o bytes) (rewriting-writes a c.out) c.done)
    ∙ ap iso_text (denotes-one-instant c.zone c.text a.t t a.denotes c.denotes)

pub line-text : {t : ℤ} {bytes : List ℕ} → Line t bytes → bytes ≡ iso_text t
line-text {t} (y, inl c) = iso-line (years-in-range t y) c
line-text (y, inr c) = rewriting-line c

-- ---- 24 bytes, and the calls that are lent as many
pub length-24 : (t : ℤ) → InYears0To9999 t → length (iso_text t) ≡ 24
length-24 t y =
    length-iso (fields_of t)
    ∙ ap (λ n. n + 20) (sym (ap length (iso-four (year_from_time t) y.0 (year-in-digits t y))) ∙ length_digits 4 (nat_abs (year_from_time t)))

pub iso-writer-done : (t : ℤ) → InYears0To9999 t → (time : ℕ) → IsWhole (of_bits binary64 time) t → (out : List ℕ) → 24 ≤ length out
    → Done (iso_outcome time out) (iso_text t)
iso-writer-done t y time v out l =
    subst (λ (o : Outcome). Done o (iso_text t)) (sym (iso-text time t v (years-in-range t y) out))
    (whole-run (time_bits t) (iso_text t) out (omega (arith, length-24 t y)))

pub rewriting-done : (zone text : List ℕ) (a : AcceptedText zone text) → InYears0To9999 a.t → (out : List ℕ) → 24 ≤ length out
    → Done (rewrite_outcome zone text out) (iso_text a.t)
rewriting-done zone text a y out l =
    subst (λ (o : Outcome). Done o (iso_text a.t)) (sym (rewriting-writes a out))
    (whole-run (time_bits a.t) (iso_text a.t) out (omega (arith, length-24 a.t y)))

-- each instant of these years has its line
pub each-line : (t : ℤ) → InYears0To9999 t → Line t (iso_text t)
each-line t y =
    (y, inl (record { time = time_bits t; out = replicate 24 0; value = value; done = iso-writer-done t y (time_bits t) value (replicate 24 0) (omega arith) }))
  where
    value : IsWhole (of_bits binary64 (time_bits t)) t
    value =
        subst (λ (x : Float). IsWhole x t) (sym (of_bits-to_bits binary64 (of_int binary64 t) (of_int-fits binary64 t)))
        (each-millisecond t (years-in-range t y)).0
