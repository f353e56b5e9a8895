-- `calendar::days_in_year` meets its contract: each test on the remainder is the definition's. Assumes nothing.
use mathlib.Core.Path.{◌≡◌, refl, sym, ap, ◌∙◌}
use mathlib.Core.Bool.{Bool, true, false, cond}
use Prim.Native.Nat.{ℕ}
use lib.Ieee.{Float, eq, of_bits, of_int}
use Rattle.float.specs.Rounding.{rem_euclid_f}
use Rattle.calendar.specs.Calendar.{num, divides, days_in_year_f}
use Rattle.calendar.proofs.days_in_year.Goals as goal

-- what the test of a remainder r says of the divisor
tested : (n : ℕ) (y r : Float) (b : Bool) → r ≡ rem_euclid_f y (num n) → eq r (num 0) ≡ b → divides n y ≡ b
tested n y r b e t = ap (λ x. eq x (num 0)) (sym e) ∙ t

-- the days by the three tests
days : (y : Float) (a b d : Bool) → divides 400 y ≡ a → divides 100 y ≡ b → divides 4 y ≡ d → cond a 366 (cond b 365 (cond d 366 365)) ≡ days_in_year_f y
unfolding days_in_year_f
days y a b d e f g = λ i. cond (sym e i) 366 (cond (sym f i) 365 (cond (sym g i) 366 365))

pub returns-then-rem_euclid : goal.returns-then-rem_euclid
unfolding of_bits of_int
returns-then-rem_euclid c =
    let y = c.args.y in
    days y true (divides 100 y) (divides 4 y) (tested 400 y _ true c.rem_euclid.ensures c.if-rem_euclid.true) refl refl

pub returns-then-rem_euclid-2 : goal.returns-then-rem_euclid-2
unfolding of_bits of_int
returns-then-rem_euclid-2 c =
    let y = c.args.y in
    days y false true (divides 4 y) (tested 400 y _ false c.rem_euclid.ensures c.if-rem_euclid.false) (tested 100 y _ true c.rem_euclid-2.ensures c.if-rem_euclid-2.true) refl

pub returns-then-rem_euclid-3 : goal.returns-then-rem_euclid-3
unfolding of_bits of_int
returns-then-rem_euclid-3 c =
    let y = c.args.y in
    days y false false true (tested 400 y _ false c.rem_euclid.ensures c.if-rem_euclid.false) (tested 100 y _ false c.rem_euclid-2.ensures c.if-rem_euclid-2.false)
    (tested 4 y _ true c.rem_euclid-3.ensures c.if-rem_euclid-3.true)

pub returns : goal.returns
unfolding of_bits of_int
returns c =
    let y = c.args.y in
    days y false false false (tested 400 y _ false c.rem_euclid.ensures c.if-rem_euclid.false) (tested 100 y _ false c.rem_euclid-2.ensures c.if-rem_euclid-2.false)
    (tested 4 y _ false c.rem_euclid-3.ensures c.if-rem_euclid-3.false)
