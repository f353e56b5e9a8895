-- A text printed, or not for want of room, is the outcome of writing it. Assumes nothing.
use mathlib.Core.Path.{◌≡◌, subst}
use mathlib.Core.List.{List}
use Prim.Native.Nat.{ℕ}
use lib.IntN.{ℤ}
use Rattle.std.specs.Prelude.{Result}
use native.Mathlib.Omega.{arith}
use Rattle.std.proofs.lemmas.Grind.{common_steps}
use Rattle.ecma262.specs.Texts.{local_of, local_text}
use Rattle.std.proofs.Common.{Option}
use Rattle.text.specs.Inner.{Prints, whole_of}
use Rattle.text.specs.declared.fields.DateFields.{DateFields}
use Rattle.answer.specs.declared.Refusal.{Refusal}
use Rattle.answer.specs.declared.Text.{Text}
use Rattle.writer.specs.Inner.{FieldsAt, replied}
use Rattle.writer.specs.Outcome.{written, Leaves}

pub prints-leaves : {w out last : List ℕ} {p : Option ℕ} {r : Result Text Refusal} (value : ℕ) → Prints w out last p → r ≡ replied value p → Leaves (written value w out) r last
unfolding written
prints-leaves {w} {out} {last} {p} {r} value h e = grind (arith, common_steps)

-- the text by another name
pub prints-as : {u w out last : List ℕ} {p : Option ℕ} → u ≡ w → Prints u out last p → Prints w out last p
prints-as {out = out} {last} {p} e h = subst (λ (w : List ℕ). Prints w out last p) e h

-- the text of a local time's fields is the time's
pub local-of-time : {f : DateFields} {t : ℤ} → FieldsAt t f → (offset : ℤ) → local_of f.weekday (whole_of f) offset ≡ local_text t offset
local-of-time h offset = λ i. local_of (h.weekday i) (h.fields i) offset
