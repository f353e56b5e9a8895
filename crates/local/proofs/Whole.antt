-- Local time of whole times: for |t| up to 8,999,999,999,999,999, which covers the exact domain, `local_time` and `utc_t` are the whole numbers t plus and
-- t less 1,000 times the offset that the list gives at the second of t read as an instant. No sum, product or quotient is rounded. Assumes nothing.
use mathlib.Core.Path.{◌≡◌, sym, ap, subst}
use mathlib.Core.List.{List}
use Prim.Native.Nat.{ℕ, ◌+◌, ◌^◌, ◌≤◌, ◌<◌}
use native.Mathlib.Omega.{arith}
use lib.Dec.{lit<, lit≤}
use lib.IntN.{ℤ, pos, negsuc, nat_abs, ◌-ℤ◌, ◌*ℤ◌}
use lib.Signed.{mag}
use lib.Ieee.{Float, binary64, of_int}
use lib.Ieee.Bits.{is_true}
use lib.Ieee.Scale.{finite}
use Rattle.integers.specs.Whole.{floor_div, floor_mod}
use Rattle.ecma262.specs.Date.{InRange}
use Rattle.ecma262.specs.Domain.{Shown}
use Rattle.integers.proofs.Int.{plus, minus, ints, abs-in, abs-out, at, ◌+ᵗ◌, ◌-ᵗ◌, ◌ᵗ*◌, ◌/ᵗ◌, read}
use Rattle.float.specs.Whole.{IsWhole}
use Rattle.float.proofs.Whole.{of_int-whole, add-whole, sub-whole, mul-whole}
use Rattle.float.proofs.Rounding.{whole-finite}
use Rattle.float.proofs.Modulo.{rem-euclid-whole}
use Rattle.float.proofs.Quotient.{div-exact}
use Rattle.float.proofs.Casts.{to_signed-whole}
use Rattle.calendar.proofs.Whole.{num-whole}
use Rattle.zone.specs.Zone.{Record, IsZoneList, offset_at}
use Rattle.zone.proofs.Offset.{offset-bounded}
use Rattle.local.specs.Local.{asked_second, offset_of_instant, offset_of_local, local_time, utc_time, asked_second_f, offset_seconds_f, shift_f, local_time_f, utc_f}
use Rattle.local.proofs.Tests.{utc-finite}

-- ---- the second: t less its milliseconds is a multiple of 1,000, so the quotient is exact
module _ (z : ℤ) where
  abbrev cut : ℤ
  cut = z -ℤ pos (floor_mod z 1000)

  cut-multiple : floor_mod cut 1000 ≡ 0
  cut-multiple = omega (arith, read (at z /ᵗ 1000), read ((at z -ᵗ at (pos (floor_mod z 1000))) /ᵗ 1000))

  cut-quotient : floor_div cut 1000 ≡ floor_div z 1000
  cut-quotient = omega (ints, read (at z /ᵗ 1000), read ((at z -ᵗ at (pos (floor_mod z 1000))) /ᵗ 1000))

  module _ (h : nat_abs z ≤ 8_999_999_999_999_999) where
    cut_small : nat_abs cut ≤ 9_000_000_000_000_000
    cut_small = abs-out cut (omega (arith, abs-in z h, read (at z /ᵗ 1000), read (at z -ᵗ at (pos (floor_mod z 1000)))))

    second-small : mag (floor_div z 1000) < 2 ^ 63
    second-small = in-63 (floor_div z 1000) (omega (arith, abs-in z h, read (at z /ᵗ 1000)))
      where
        in-63 : (q : ℤ) → (plus q ≤ minus q + 9000000000000) × (minus q ≤ plus q + 9000000000000) → mag q < 2 ^ 63
        in-63 (pos n) k = omega arith
        in-63 (negsuc n) k = omega arith

    pub asked-second-whole : {t : Float} → IsWhole t z → asked_second_f t ≡ asked_second z
    unfolding asked_second_f asked_second
    asked-second-whole w =
        to_signed-whole 63
        (subst (IsWhole _) cut-quotient
        (div-exact binary64
        (sub-whole binary64 w (rem-euclid-whole w (num-whole 1000 (lit≤ tt)) (lit< tt) (lit≤ tt)) (omega (arith, cut_small)))
        (num-whole 1000 (lit≤ tt)) (omega (arith, cut_small)) (lit< tt) cut-multiple))
        second-small

    pub offset-whole : (list : List Record) {t : Float} → IsWhole t z → offset_seconds_f list t ≡ offset_of_instant list z
    unfolding offset_seconds_f offset_of_instant
    offset-whole list w = ap (offset_at list) (asked-second-whole w)

-- ---- the shift is less than a day
module _ (list : List Record) (rule : IsZoneList list) (z : ℤ) where
  abbrev shift : ℤ
  shift = offset_of_instant list z *ℤ pos 1000

  pub offset-small : nat_abs (offset_of_instant list z) ≤ 86_399
  unfolding offset_of_instant
  offset-small = offset-bounded list rule (asked_second z)

  shift_small : nat_abs shift ≤ 86_399_000
  shift_small = abs-out shift (omega (arith, abs-in (offset_of_instant list z) offset-small, read (at (offset_of_instant list z) ᵗ* 1000)))

  pub local-time-bound : {k : ℕ} → nat_abs z ≤ k → nat_abs (local_time list z) ≤ k + 86_399_000
  unfolding local_time
  local-time-bound h = abs-out (local_time list z) (omega (arith, abs-in z h, abs-in shift shift_small, read (at z +ᵗ at shift)))

  pub utc-time-bound : {k : ℕ} → nat_abs z ≤ k → nat_abs (utc_time list z) ≤ k + 86_399_000
  unfolding utc_time offset_of_local
  utc-time-bound h = abs-out (utc_time list z) (omega (arith, abs-in z h, abs-in shift shift_small, read (at z -ᵗ at shift)))

  -- the local writer shows local times up to 86,399 s beyond the range
  pub local-time-shown : InRange z → Shown (local_time list z)
  local-time-shown h = local-time-bound h

  module _ (h : nat_abs z ≤ 8_999_999_999_999_999) where
    shift-whole : {t : Float} → IsWhole t z → IsWhole (shift_f list t) shift
    shift-whole {t} w =
        mul-whole binary64
        (subst (λ (o : ℤ). IsWhole (of_int binary64 o) (offset_of_instant list z)) (sym (offset-whole z h list w)) (of_int-whole binary64 (offset_of_instant list z) (omega (arith, offset-small))))
        (num-whole 1000 (lit≤ tt)) (omega (arith, shift_small))

    pub local-time-whole : {t : Float} → IsWhole t z → IsWhole (local_time_f list t) (local_time list z)
    unfolding local_time_f local_time
    local-time-whole w = add-whole binary64 w (shift-whole w) (omega (arith, local-time-bound h))

    pub utc-whole : {t : Float} → IsWhole t z → IsWhole (utc_f list t) (utc_time list z)
    unfolding utc_time offset_of_local
    utc-whole {t} w =
        subst (λ (x : Float). IsWhole x (utc_time list z)) (sym (utc-finite list t (is_true (finite t) (whole-finite w))))
        (sub-whole binary64 w (shift-whole w) (omega (arith, utc-time-bound h)))
