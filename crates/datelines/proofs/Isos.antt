-- The ISO text, written into the part of an output from a place on. Assumes nothing.
use mathlib.Core.Path.{◌≡◌, refl, ap, ap₂, ◌∙◌}
use mathlib.Core.List.{List, [], ◌++◌, append-nil}
use Prim.Native.Nat.{ℕ, ◌+◌, ◌-◌}
use native.Mathlib.Omega.{arith}
use lib.ListN.{length, take, drop, length-drop}
use lib.Seq.{take_all, drop-drop, drop-length, sets, length-sets}
use borrow.Rule.Slice.PartMut.{mid_of, put_mid}
use Rattle.std.specs.Prelude.{Result, Ok}
use Rattle.text.specs.Inner.{HasRoom}
use Rattle.text.specs.declared.output.Output.{Output}
use Rattle.answer.specs.Answer.{text_reply}
use Rattle.answer.specs.declared.Refusal.{Refusal}
use Rattle.answer.specs.declared.Text.{Text}
use Rattle.writer.specs.Outcome.{Outcome, Leaves}
use Rattle.writer.specs.Writer.{iso_outcome}
use Rattle.datelines.specs.Lines.{iso_of_bits, IsTimeBits, Appends}
use Rattle.datelines.proofs.Runs.{part-stored}
use Rattle.datelines.proofs.Times.{iso-outcome}
use Rattle.datelines.proofs.Streams.{iso_length}

module _ {bits : ℕ} (b : IsTimeBits bits) (old : Output) (room : HasRoom old 27) {r : Result Text Refusal} {ys : List ℕ}
    (l : Leaves (iso_outcome bits (mid_of old.at (length old.bytes.now - old.at) old.bytes.now)) r ys) where
  abbrev out : List ℕ
  out = old.bytes.now

  abbrev i : ℕ
  i = old.at

  part : mid_of i (length out - i) out ≡ drop i out
  part = take_all (length out - i) (drop i out) (simp length-drop (omega arith))

  rest : drop (length out - i) (drop i out) ≡ []
  rest = drop-drop (length out - i) i out ∙ ap (λ (n : ℕ). drop n out) (let e : i + (length out - i) ≡ length out = omega arith in e) ∙ drop-length out

  outcome : iso_outcome bits (mid_of i (length out - i) out)
      ≡ record { reply = text_reply bits (length (iso_of_bits bits)); output = iso_of_bits bits ++ drop (length (iso_of_bits bits)) (mid_of i (length out - i) out) }
  outcome = iso-outcome b (mid_of i (length out - i) out) (rw part (simp length-drop (omega (arith, iso_length bits))))

  pub reply-is-text : r ≡ text_reply bits (length (iso_of_bits bits))
  reply-is-text = l.reply-is ∙ ap (λ (o : Outcome). o.reply) outcome

  pub text-length : {t : Text} → r ≡ Ok t → t.length ≡ length (iso_of_bits bits)
  text-length e = let h = reply-is-text in cc

  stored : {t : Text} → r ≡ Ok t → put_mid i (length out - i) out ys ≡ sets out i (iso_of_bits bits)
  stored e =
      part-stored (iso_of_bits bits) out i (omega (arith, iso_length bits))
      (ap (λ (z : List ℕ). take i out ++ z) (ap₂ (λ (x y : List ℕ). x ++ y) written rest ∙ append-nil _))
    where
      written : ys ≡ iso_of_bits bits ++ drop (length (iso_of_bits bits)) (drop i out)
      written = l.output-is ∙ ap (λ (o : Outcome). o.output) outcome ∙ ap (λ (z : List ℕ). iso_of_bits bits ++ drop (length (iso_of_bits bits)) z) part

  pub iso-puts : {t : Text} {new : Output} → r ≡ Ok t → new.bytes.now ≡ put_mid i (length out - i) out ys → new.at ≡ i + t.length → new.bytes.ghost_name ≡ old.bytes.ghost_name
      → Appends old (iso_of_bits bits) new
  iso-puts e bytes place name =
      record {
        puts = record { stored = bytes ∙ stored e; long = refl };
        next = place ∙ ap (λ (k : ℕ). i + k) (text-length e);
        size = ap length (bytes ∙ stored e) ∙ length-sets out i (iso_of_bits bits);
        same_reference = name;
      }
