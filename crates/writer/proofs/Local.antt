-- The local time of a time of the range is a whole time that can be shown, and the suffix's offset has room in its digits. Assumes nothing.
use mathlib.Core.Path.{◌≡◌, sym, subst, ◌∙◌}
use mathlib.Core.List.{List}
use Prim.Native.Nat.{ℕ, ◌≤◌}
use native.Mathlib.Omega.{arith}
use lib.IntN.{ℤ, nat_abs}
use lib.Ieee.{Float}
use mir.Syntax.{w32}
use mir.Val.{to_z, of_z}
use Rattle.ecma262.specs.Domain.{Shown}
use Rattle.ecma262.specs.Texts.{local_of, local_text}
use Rattle.integers.proofs.Int.{abs-in}
use Rattle.integers.proofs.Machine.{fits32, kept}
use Rattle.float.specs.Whole.{IsWhole, trunc_z}
use Rattle.float.proofs.Rounding.{trunc_z-whole}
use Rattle.timevalue.specs.TimeValue.{IsTime}
use Rattle.zone.specs.Zone.{records, Accepted}
use Rattle.local.specs.Local.{offset_of_instant, offset_of_suffix, local_time, offset_seconds_f, local_time_f}
use Rattle.local.proofs.Whole.{offset-whole, offset-small, local-time-shown, local-time-whole}
use Rattle.text.specs.Inner.{whole_of}
use Rattle.text.specs.declared.fields.DateFields.{DateFields}
use Rattle.writer.specs.Inner.{IsShown, FieldsAt}
use Rattle.writer.specs.Writer.{to_date_string}
use Rattle.writer.proofs.Written.{local-of-time}

-- ---- the local time t of a time tv of the range
module _ (zone : List ℕ) (ok : Accepted zone) {tv : Float} (h : IsTime tv) {t : Float} (is : t ≡ local_time_f (records zone) tv) where
  abbrev local : ℤ
  local = local_time (records zone) (trunc_z tv)

  local-shown : Shown local
  local-shown = local-time-shown (records zone) ok.rule (trunc_z tv) h.range

  t-whole : IsWhole t local
  t-whole = subst (λ (x : Float). IsWhole x local) (sym is) (local-time-whole (records zone) ok.rule (trunc_z tv) (omega (arith, h.range)) h.whole)

  t-value : trunc_z t ≡ local
  t-value = trunc_z-whole t-whole

  pub local-is-shown : IsShown t
  local-is-shown = record { whole = subst (IsWhole t) (sym t-value) t-whole; shown = subst Shown (sym t-value) local-shown }

  -- ---- the offset o that the list gives there, as the code holds it: in 32 bits
  module _ {o : ℤ} (looked-up : o ≡ offset_seconds_f (records zone) t) where
    offset-is : o ≡ offset_of_instant (records zone) local
    offset-is = looked-up ∙ offset-whole local (omega (arith, local-shown)) (records zone) t-whole

    offset-fits : nat_abs o ≤ 86399
    offset-fits = subst (λ (z : ℤ). nat_abs z ≤ 86399) (sym offset-is) (offset-small (records zone) ok.rule local)

    offset-kept : to_z w32 (of_z w32 o) ≡ o
    offset-kept = kept (fits32 o (omega (arith, abs-in o offset-fits)))

    pub offset-printable : nat_abs (to_z w32 (of_z w32 o)) ≤ 86_399
    offset-printable = subst (λ (z : ℤ). nat_abs z ≤ 86399) (sym offset-kept) offset-fits

    pub local-text : {f : DateFields} → FieldsAt (trunc_z t) f → local_of f.weekday (whole_of f) (to_z w32 (of_z w32 o)) ≡ to_date_string (records zone) (trunc_z tv)
    unfolding offset_of_suffix
    local-text f = local-of-time f _ ∙ (λ i. local_text (t-value i) ((offset-kept ∙ offset-is) i))
