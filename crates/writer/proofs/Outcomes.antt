-- What the outcomes are, for callers: of a whole number of the range, of NaN and of bits that are no time value, each writer's, and the two
-- cases of writing a text. Assumes nothing.
use mathlib.Core.Path.{◌≡◌, ap, ◌∙◌}
use mathlib.Core.Bool.{true, false}
use mathlib.Core.List.{List, ◌++◌}
use Prim.Native.Nat.{ℕ, ◌≤◌, ◌<◌, ◌^◌}
use native.Mathlib.Omega.{arith}
use lib.IntN.{ℤ, nat_abs}
use lib.Ieee.{binary64, of_int}
use lib.ListN.{length, drop}
use Rattle.std.specs.Prelude.{Option, Some, None}
use borrow.Author.Tests.{lt-ltb, le-ltb}
use Rattle.ecma262.specs.Date.{InRange}
use Rattle.ecma262.specs.Texts.{iso_text, utc_text, invalid_date}
use Rattle.float.specs.Whole.{trunc_z}
use Rattle.float.proofs.Whole.{of_int-whole}
use Rattle.float.proofs.Rounding.{trunc_z-whole}
use Rattle.zone.specs.Zone.{records, accepts}
use Rattle.timevalue.specs.declared.TimeValue.{TimeValue as Given}
use Rattle.timevalue.specs.declared.TimeValue.TheVariants.{Nan}
use Rattle.timevalue.specs.TimeValue.{time_value_of}
use Rattle.timevalue.proofs.Laws.{time-back}
use Rattle.answer.specs.Answer.{nan_value, time_bits, text_reply}
use Rattle.answer.specs.declared.Refusal.TheVariants.{ZoneList, TimeValue, NoTime, Output}
use Rattle.writer.specs.Outcome.{refused, written}
use Rattle.writer.specs.Writer.{iso_case, iso_outcome, utc_case, utc_outcome, to_date_string, local_case, local_outcome}

-- ---- writing a text: with room for it, and without
module _ (value : ℕ) (text out : List ℕ) where
  pub written-whole : length text ≤ length out → written value text out ≡ record { reply = text_reply value (length text); output = text ++ drop (length text) out }
  unfolding written
  written-whole h = simp (le-ltb _ _ h)

  pub written_none : length out < length text → written value text out ≡ refused Output out
  unfolding written
  written_none h = simp (lt-ltb _ _ h)

-- ---- a whole number of the range, by the bits of its f64
-- the f64 of a whole number of the range has that value
pub time-value : (t : ℤ) → InRange t → trunc_z (of_int binary64 t) ≡ t
time-value t r = trunc_z-whole (of_int-whole binary64 t (small (nat_abs t) r))
  where
    small : (n : ℕ) → n ≤ 8_640_000_000_000_000 → n ≤ 2 ^ 53
    small n h = omega arith

module _ (t : ℤ) (r : InRange t) (out : List ℕ) where
  pub iso-writes : iso_outcome (time_bits t) out ≡ written (time_bits t) (iso_text t) out
  unfolding iso_outcome
  iso-writes = ap (λ (g : Option Given). iso_case g out) (time-back t r) ∙ ap (λ (z : ℤ). written (time_bits t) (iso_text z) out) (time-value t r)

  pub utc-writes : utc_outcome (time_bits t) out ≡ written (time_bits t) (utc_text t) out
  unfolding utc_outcome
  utc-writes = ap (λ (g : Option Given). utc_case g out) (time-back t r) ∙ ap (λ (z : ℤ). written (time_bits t) (utc_text z) out) (time-value t r)

  pub local-writes : (zone : List ℕ) → accepts zone ≡ true → local_outcome zone (time_bits t) out ≡ written (time_bits t) (to_date_string (records zone) t) out
  unfolding local_outcome
  local-writes zone ok =
      rw ok
      (ap (λ (g : Option Given). local_case (records zone) g out) (time-back t r) ∙ ap (λ (z : ℤ). written (time_bits t) (to_date_string (records zone) z) out) (time-value t r))

-- ---- NaN, and bits that are no time value
module _ (time : ℕ) (out : List ℕ) where
  pub iso-nan : time_value_of time ≡ Some Nan → iso_outcome time out ≡ refused NoTime out
  unfolding iso_outcome
  iso-nan e = ap (λ (g : Option Given). iso_case g out) e

  pub utc-nan : time_value_of time ≡ Some Nan → utc_outcome time out ≡ written nan_value invalid_date out
  unfolding utc_outcome
  utc-nan e = ap (λ (g : Option Given). utc_case g out) e

  pub iso-refused : time_value_of time ≡ None → iso_outcome time out ≡ refused TimeValue out
  unfolding iso_outcome
  iso-refused e = ap (λ (g : Option Given). iso_case g out) e

  pub utc-refused : time_value_of time ≡ None → utc_outcome time out ≡ refused TimeValue out
  unfolding utc_outcome
  utc-refused e = ap (λ (g : Option Given). utc_case g out) e

  module _ (zone : List ℕ) where
    pub local-list : accepts zone ≡ false → local_outcome zone time out ≡ refused ZoneList out
    unfolding local_outcome
    local-list e = rw e

    pub local-nan : accepts zone ≡ true → time_value_of time ≡ Some Nan → local_outcome zone time out ≡ written nan_value invalid_date out
    unfolding local_outcome
    local-nan ok e = rw ok (ap (λ (g : Option Given). local_case (records zone) g out) e)

    pub local-refused : accepts zone ≡ true → time_value_of time ≡ None → local_outcome zone time out ≡ refused TimeValue out
    unfolding local_outcome
    local-refused ok e = rw ok (ap (λ (g : Option Given). local_case (records zone) g out) e)
