-- The steps behind the writers' half of demand 2 (proofs/Demand2.antt): the outcome of each writer by the value of the bits that it is given,
-- whichever bits these are: a whole number of the range (-0 counts as 0), NaN, or neither. Assumes nothing.
use mathlib.Core.Path.{◌≡◌, sym, ap, ◌∙◌, subst}
use mathlib.Core.List.{List}
use Prim.Native.Nat.{ℕ}
use lib.IntN.{ℤ}
use lib.Ieee.{Float, nan, binary64, of_bits, of_int}
use Rattle.std.specs.Prelude.{Option, Some}
use Rattle.ecma262.specs.Date.{InRange}
use Rattle.ecma262.specs.Texts.{iso_text, utc_text, invalid_date}
use Rattle.float.specs.Whole.{IsWhole, trunc_z}
use Rattle.float.proofs.Rounding.{number-unique, trunc_z-whole}
use Rattle.zone.specs.Zone.{Accepted, records}
use Rattle.zone.proofs.Rule.{accepts-complete}
use Rattle.timevalue.specs.declared.TimeValue.{TimeValue as Given}
use Rattle.timevalue.specs.declared.TimeValue.TheVariants.{Time, Nan}
use Rattle.timevalue.specs.TimeValue.{time_value_of}
use Rattle.timevalue.proofs.Laws.{Judged, is-time, is-nan, is-refused, judge, time-back}
use Rattle.answer.specs.Answer.{nan_value, time_bits}
use Rattle.answer.specs.declared.Refusal.TheVariants.{NoTime}
use Rattle.writer.specs.Outcome.{refused, written}
use Rattle.writer.specs.Writer.{iso_case, iso_outcome, utc_case, utc_outcome, to_date_string, local_outcome}
use Rattle.writer.proofs.Outcomes.{iso-writes, utc-writes, local-writes, iso-nan, utc-nan, local-nan}

-- ---- any bits of a whole number of the range are taken for its f64, and any of NaN for NaN
taken-for : (time : ℕ) (t : ℤ) → IsWhole (of_bits binary64 time) t → InRange t → time_value_of time ≡ Some (Time (of_int binary64 t))
taken-for time t w r = go (judge time)
  where
    go : Judged time → time_value_of time ≡ Some (Time (of_int binary64 t))
    go (is-time u q k) = q ∙ ap (λ (x : Float). Some (Time x)) (k.number ∙ ap (of_int binary64) (number-unique k.value w))
    go (is-nan q k) = absurd (subst (λ (x : Float). IsWhole x t) k w).value
    go (is-refused q j k) =
        let e : t ≡ trunc_z (of_bits binary64 time) = sym (trunc_z-whole w) in
        absurd (k (record { whole = subst (IsWhole _) e w; range = subst InRange e r }))

taken-for-nan : (time : ℕ) → of_bits binary64 time ≡ nan → time_value_of time ≡ Some Nan
taken-for-nan time e = go (judge time)
  where
    go : Judged time → time_value_of time ≡ Some Nan
    go (is-time u q k) = absurd (subst (λ (x : Float). IsWhole x (trunc_z u)) e k.value).value
    go (is-nan q k) = q
    go (is-refused q j k) = absurd (j e)

-- ---- a whole number of the range
module _ (time : ℕ) (t : ℤ) (w : IsWhole (of_bits binary64 time) t) (r : InRange t) (out : List ℕ) where
  same-time : time_value_of time ≡ time_value_of (time_bits t)
  same-time = taken-for time t w r ∙ sym (time-back t r)

  pub iso-any : iso_outcome time out ≡ written (time_bits t) (iso_text t) out
  unfolding iso_outcome
  iso-any = ap (λ (g : Option Given). iso_case g out) same-time ∙ iso-writes t r out

  pub utc-any : utc_outcome time out ≡ written (time_bits t) (utc_text t) out
  unfolding utc_outcome
  utc-any = ap (λ (g : Option Given). utc_case g out) same-time ∙ utc-writes t r out

  pub local-any : (zone : List ℕ) → Accepted zone → local_outcome zone time out ≡ written (time_bits t) (to_date_string (records zone) t) out
  unfolding local_outcome
  local-any zone a = local_same ∙ local-writes t r out zone (accepts-complete zone a)
    where
      local_same : local_outcome zone time out ≡ local_outcome zone (time_bits t) out
      local_same = rw same-time

-- ---- NaN
module _ (time : ℕ) (n : of_bits binary64 time ≡ nan) (out : List ℕ) where
  pub iso-of-nan : iso_outcome time out ≡ refused NoTime out
  iso-of-nan = iso-nan time out (taken-for-nan time n)

  pub utc-of-nan : utc_outcome time out ≡ written nan_value invalid_date out
  utc-of-nan = utc-nan time out (taken-for-nan time n)

  pub local-of-nan : (zone : List ℕ) → Accepted zone → local_outcome zone time out ≡ written nan_value invalid_date out
  local-of-nan zone a = local-nan time out zone (accepts-complete zone a) (taken-for-nan time n)
