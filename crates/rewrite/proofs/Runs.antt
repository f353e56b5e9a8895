-- The steps behind demand 3 (crates/demands/proofs/Demand3.antt): the one written text of an instant is `iso_text`, the ISO writer writes it,
-- the reader reads it back, and rewriting is the two together. Assumes nothing.
use mathlib.Core.Path.{◌≡◌, refl, sym, ap, ◌∙◌, subst}
use mathlib.Core.List.{List, ◌++◌}
use mathlib.Core.Logic.{◌↔◌}
use Prim.Native.Nat.{ℕ, ◌≤◌}
use native.Mathlib.Omega.{arith}
use lib.IntN.{ℤ, nat_abs}
use lib.ListN.{length, drop}
use lib.Seq.{take_at}
use Rattle.std.specs.Prelude.{Result, Ok}
use Rattle.ecma262.specs.Date.{InRange, time_of, fields_of}
use Rattle.ecma262.specs.Texts.{iso_text}
use Rattle.ecma262.specs.Written.{Written}
use Rattle.ecma262.proofs.Fields.{time-of-fields}
use Rattle.ecma262.proofs.Written.{iso-written, iso-injective, written-time}
use Rattle.zone.specs.Zone.{Accepted}
use Rattle.answer.specs.Answer.{time_bits, text_reply}
use Rattle.answer.specs.declared.Refusal.{Refusal}
use Rattle.reader.specs.Denotes.{Denotes, AcceptedText}
use Rattle.reader.specs.Outcome.{read_outcome}
use Rattle.reader.proofs.Denotation.{denotes-unique, reads-instant}
use Rattle.writer.specs.Outcome.{Outcome}
use Rattle.writer.specs.Writer.{iso_outcome}
use Rattle.writer.proofs.Outcomes.{written-whole, iso-writes}
use Rattle.rewrite.specs.Rewrite.{then_write, rewrite_outcome, run_of}
use Rattle.rewrite.proofs.Forms.{written-denotes}

shown : (t : ℤ) → InRange t → nat_abs t ≤ 8_640_000_086_399_000
shown t h = omega arith

-- ---- the one text
pub iso-denotes : (zone : List ℕ) (t : ℤ) → InRange t → Denotes zone (iso_text t) t
iso-denotes zone t h = subst (Denotes zone (iso_text t)) (time-of-fields t) (written-denotes (iso-written t (shown t h)) zone)

pub exactly-one-text : (t : ℤ) (h : InRange t)
    → Written (iso_text t) × ((zone : List ℕ) → Denotes zone (iso_text t) t × ((w : List ℕ) → Written w → Denotes zone w t → w ≡ iso_text t))
exactly-one-text t h = (record { fields = fields_of t; written = iso-written t (shown t h) }, λ zone. (iso-denotes zone t h, only zone))
  where
    only : (zone w : List ℕ) → Written w → Denotes zone w t → w ≡ iso_text t
    only zone w r d = written-time r.written ∙ ap iso_text (denotes-unique zone w (time_of r.fields) t (written-denotes r.written zone) d)

-- ---- the ISO writer
iso-outcome : (t : ℤ) → InRange t → (out : List ℕ) → length (iso_text t) ≤ length out
    → iso_outcome (time_bits t) out ≡ record { reply = text_reply (time_bits t) (length (iso_text t)); output = iso_text t ++ drop (length (iso_text t)) out }
iso-outcome t h out l = iso-writes t h out ∙ written-whole (time_bits t) (iso_text t) out l

run-of-text : (w out : List ℕ) (v : ℕ) → run_of (record { reply = text_reply v (length w); output = w ++ out }) ≡ w
run-of-text w out v = take_at w out (length w) refl

pub iso-writer-gives-it : (t : ℤ) (h : InRange t) (out : List ℕ) → length (iso_text t) ≤ length out
    → ((iso_outcome (time_bits t) out).reply ≡ text_reply (time_bits t) (length (iso_text t))) × (run_of (iso_outcome (time_bits t) out) ≡ iso_text t)
iso-writer-gives-it t h out l = (ap (λ (o : Outcome). o.reply) (iso-outcome t h out l), ap run_of (iso-outcome t h out l) ∙ run-of-text (iso_text t) _ (time_bits t))

-- ---- the reader
pub reader-returns-t : (zone : List ℕ) → Accepted zone → (t : ℤ) (h : InRange t) → read_outcome zone (iso_text t) ≡ Ok (time_bits t)
reader-returns-t zone a t h = (reads-instant zone (iso_text t) a t h).1 (iso-denotes zone t h)

-- ---- rewriting
rewrite-outcome : (zone text : List ℕ) (a : AcceptedText zone text) (out : List ℕ) → rewrite_outcome zone text out ≡ iso_outcome (time_bits a.t) out
unfolding rewrite_outcome
rewrite-outcome zone text a out = ap (λ (r : Result ℕ Refusal). then_write r out) ((reads-instant zone text a.list a.t a.inside).1 a.denotes)

pub rewrites-to-the-text : (zone text : List ℕ) (a : AcceptedText zone text) (out : List ℕ) → length (iso_text a.t) ≤ length out
    → ((rewrite_outcome zone text out).reply ≡ text_reply (time_bits a.t) (length (iso_text a.t)))
    × (run_of (rewrite_outcome zone text out) ≡ iso_text a.t)
rewrites-to-the-text zone text a out l =
    let w = iso-writer-gives-it a.t a.inside out l in
    (ap (λ (o : Outcome). o.reply) (rewrite-outcome zone text a out) ∙ w.0, ap run_of (rewrite-outcome zone text a out) ∙ w.1)

pub equal-bytes-exactly-when-one-instant : (zone s u : List ℕ) (a : AcceptedText zone s) (b : AcceptedText zone u) (out out' : List ℕ)
    → length (iso_text a.t) ≤ length out → length (iso_text b.t) ≤ length out'
    → (run_of (rewrite_outcome zone s out) ≡ run_of (rewrite_outcome zone u out')) ↔ ((t : ℤ) × Denotes zone s t × Denotes zone u t)
equal-bytes-exactly-when-one-instant zone s u a b out out' h k = (to, from)
  where
    run-a : run_of (rewrite_outcome zone s out) ≡ iso_text a.t
    run-a = (rewrites-to-the-text zone s a out h).1

    run-b : run_of (rewrite_outcome zone u out') ≡ iso_text b.t
    run-b = (rewrites-to-the-text zone u b out' k).1

    to : run_of (rewrite_outcome zone s out) ≡ run_of (rewrite_outcome zone u out') → (t : ℤ) × Denotes zone s t × Denotes zone u t
    to e =
        let same : a.t ≡ b.t = iso-injective a.t b.t (shown a.t a.inside) (shown b.t b.inside) (sym run-a ∙ e ∙ run-b) in
        (b.t, subst (Denotes zone s) same a.denotes, b.denotes)

    from : (t : ℤ) × Denotes zone s t × Denotes zone u t → run_of (rewrite_outcome zone s out) ≡ run_of (rewrite_outcome zone u out')
    from w = run-a ∙ ap iso_text (denotes-unique zone s a.t w.0 a.denotes w.1 ∙ denotes-unique zone u w.0 b.t w.2 b.denotes) ∙ sym run-b

-- the written text is accepted under any accepted list, and denotes the same instant
accepted-text : (zone : List ℕ) → Accepted zone → (t : ℤ) → InRange t → AcceptedText zone (iso_text t)
accepted-text zone a t h = record { list = a; t = t; denotes = iso-denotes zone t h; inside = h }

pub rewriting-again : (zone text : List ℕ) (a : AcceptedText zone text) (out : List ℕ) → length (iso_text a.t) ≤ length out
    → (zone' : List ℕ) → Accepted zone' → (out' : List ℕ) → length (iso_text a.t) ≤ length out'
    → ((rewrite_outcome zone' (run_of (rewrite_outcome zone text out)) out').reply ≡ (rewrite_outcome zone text out).reply)
    × (run_of (rewrite_outcome zone' (run_of (rewrite_outcome zone text out)) out') ≡ run_of (rewrite_outcome zone text out))
unfolding accepted-text
rewriting-again zone text a out l zone' a' out' l' = (ap (λ (s : List ℕ). (rewrite_outcome zone' s out').reply) run ∙ again.0 ∙ sym first.0, ap (λ (s : List ℕ). run_of (rewrite_outcome zone' s out')) run ∙ again.1 ∙ sym run)
  where
    first : ((rewrite_outcome zone text out).reply ≡ text_reply (time_bits a.t) (length (iso_text a.t))) × (run_of (rewrite_outcome zone text out) ≡ iso_text a.t)
    first = rewrites-to-the-text zone text a out l

    run : run_of (rewrite_outcome zone text out) ≡ iso_text a.t
    run = first.1

    again : ((rewrite_outcome zone' (iso_text a.t) out').reply ≡ text_reply (time_bits a.t) (length (iso_text a.t))) × (run_of (rewrite_outcome zone' (iso_text a.t) out') ≡ iso_text a.t)
    again = rewrites-to-the-text zone' (iso_text a.t) (accepted-text zone' a' a.t a.inside) out' l'
