-- The reader's answer by cases: no accepted list, a fault of the text, an instant in the range or outside it; that a form that is read is within its
-- bounds. Assumes nothing.
use mathlib.Core.Path.{◌≡◌, sym, ap, ap₂}
use mathlib.Core.Bool.{Bool, true, false, cond}
use mathlib.Core.List.{List, []}
use Prim.Native.Nat.{ℕ, ◌≤◌, ◌<◌}
use lib.IntN.{ℤ, nat_abs}
use Rattle.std.specs.Prelude.{Ok, Err}
use borrow.Author.Tests.{le-leb, lt-leb}
use Rattle.ecma262.specs.Date.{time_range}
use Rattle.ecma262.specs.Format.{Form, Bounds}
use Rattle.zone.specs.Zone.{accepts, records}
use Rattle.parser.specs.Reading.{Out, ok, fault, read}
use Rattle.parser.proofs.Accepts.{read-printed}
use Rattle.parser.specs.declared.Fault.{Fault}
use Rattle.answer.specs.Answer.{time_bits}
use Rattle.answer.specs.declared.Refusal.TheVariants.{ZoneList, Instant}
use Rattle.reader.specs.Denotes.{instant_of}
use Rattle.reader.specs.Outcome.{refusal_of, answer_at, reply_for, read_outcome}

module _ (zone text : List ℕ) where
  pub list-refused : accepts zone ≡ false → Err ZoneList ≡ read_outcome zone text
  unfolding read_outcome
  list-refused e = ap (λ (b : Bool). cond b (reply_for (records zone) (read text)) (Err ZoneList)) (sym e)

  by-reading : (r : Out Form) → accepts zone ≡ true → read text ≡ r → reply_for (records zone) r ≡ read_outcome zone text
  unfolding read_outcome
  by-reading r e f = ap₂ (λ (b : Bool) (r : Out Form). cond b (reply_for (records zone) r) (Err ZoneList)) (sym e) (sym f)

  pub text-refused : (f : Fault) → accepts zone ≡ true → read text ≡ fault f → Err (refusal_of f) ≡ read_outcome zone text
  text-refused f = by-reading (fault f)

  pub text-read : (f : Form) {left : List ℕ} → accepts zone ≡ true → read text ≡ ok f left → answer_at (instant_of (records zone) f) ≡ read_outcome zone text
  text-read f {left} = by-reading (ok f left)

-- a form that was read is within its bounds
pub bounds : (text : List ℕ) (f : Form) → read text ≡ ok f [] → Bounds f
bounds text f e = (read-printed text f e).bounds

module _ (t : ℤ) where
  pub answer_beyond : time_range < nat_abs t → Err Instant ≡ answer_at t
  unfolding answer_at
  answer_beyond h = ap (λ (b : Bool). cond b (Ok (time_bits t)) (Err Instant)) (sym (lt-leb (nat_abs t) time_range h))

  pub answer_inside : nat_abs t ≤ time_range → Ok (time_bits t) ≡ answer_at t
  unfolding answer_at
  answer_inside h = ap (λ (b : Bool). cond b (Ok (time_bits t)) (Err Instant)) (sym (le-leb (nat_abs t) time_range h))
