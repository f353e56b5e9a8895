-- Decimals of a second: one digit is tenths, two are hundredths, three are thousandths; they are less than a second, and zeros written in
-- behind them change nothing. Assumes nothing.
use mathlib.Core.Path.{◌≡◌, sym, ap, subst, ◌∙◌}
use mathlib.Core.List.{[], ◌∷◌, ◌++◌, append-nil, append_assoc}
use Prim.Native.Nat.{ℕ, zero, suc, ◌+◌, ◌-◌, ◌*◌, ◌/◌, ◌%◌, ◌^◌, ◌≤◌}
use native.Mathlib.Nat.{add-zero, pow-suc, mul_assoc, mul_comm}
use native.Mathlib.Omega.{arith}
use lib.ListN.{replicate}
use Rattle.ecma262.specs.Digits.{digits}
use Rattle.ecma262.specs.Format.{Time, thousandths, time_fields, DecimalsBounds}
use Rattle.ecma262.specs.Format.Time.{toSecond, toDecimals}

-- ---- in thousandths
pub tenths : (d : ℕ) → thousandths 1 d ≡ 100 * d
tenths d = omega arith

pub hundredths : (d : ℕ) → thousandths 2 d ≡ 10 * d
hundredths d = omega arith

pub three-decimals : (d : ℕ) → thousandths 3 d ≡ d
three-decimals d = omega arith

-- ---- less than a second
pub ms_below : (t : Time) → DecimalsBounds t → (time_fields t).ms ≤ 999
ms_below (Time.toMinute h m) b = omega arith
ms_below (toSecond h m s) b = omega arith
ms_below (toDecimals h m s zero d) b = absurd (omega (arith, b.0))
ms_below (toDecimals h m s (suc zero) d) b = omega (arith, b.2)
ms_below (toDecimals h m s (suc (suc zero)) d) b = omega (arith, b.2)
ms_below (toDecimals h m s (suc (suc (suc zero))) d) b = omega (arith, b.2)
ms_below (toDecimals h m s (suc (suc (suc (suc p)))) d) b = absurd (omega (arith, b.1))

-- ---- zeros written in

-- a number ten times as large has one digit more, a 0
tenfold : (w v : ℕ) → digits (suc w) (v * 10) ≡ digits w v ++ (48 ∷ [])
tenfold w v =
    let q : v * 10 / 10 ≡ v = omega arith in
    let r : v * 10 % 10 ≡ 0 = omega arith in
    rw (q, r)

pub zeros-behind : (k w v : ℕ) → digits (w + k) (v * 10 ^ k) ≡ digits w v ++ replicate k 48
zeros-behind zero w v = let e : v * 10 ^ 0 ≡ v = omega arith in rw (add-zero, e) (sym (append-nil (digits w v)))
zeros-behind (suc k) w v =
    let width : w + suc k ≡ suc w + k = omega arith in
    let tens : v * 10 ^ suc k ≡ v * 10 * 10 ^ k = rw pow-suc (ap (λ n. v * n) (mul_comm (10 ^ k) 10) ∙ sym (mul_assoc v 10 (10 ^ k))) in
    rw (width, tens)
    (zeros-behind k (suc w) (v * 10) ∙ ap (λ l. l ++ replicate k 48) (tenfold w v) ∙ append_assoc (digits w v) (48 ∷ []) (replicate k 48))

pub zeros-behind-to-three : (places n : ℕ) → places ≤ 3 → digits 3 (thousandths places n) ≡ digits places n ++ replicate (3 - places) 48
zeros-behind-to-three places n l =
    let e : places + (3 - places) ≡ 3 = omega arith in
    subst (λ w. digits w (thousandths places n) ≡ digits places n ++ replicate (3 - places) 48) e (zeros-behind (3 - places) places n)
