-- `make::make_day` meets its contract: of fields in the exact domain, with the month within its year, the integer is the whole number that the original's
-- operations give, and elsewhere these are taken. The month that they look up is below 12, since the whole part of a finite month is a whole number.
-- Assumes nothing.
use mathlib.Core.Path.{◌≡◌, sym, ap, ◌∙◌, subst}
use mathlib.Core.Bool.{Bool, true, ◌&&◌}
use Prim.Native.Nat.{◌^◌, ◌≤◌, ◌<◌}
use native.Mathlib.Omega.{arith}
use lib.Dec.{T, lit≤}
use lib.IntN.{ℤ, pos, neg_ℤ, nat_abs}
use lib.Signed.{non_neg}
use lib.Ieee.{Float, binary64, fits, le, in_float, of_bits, of_int}
use lib.Ieee.Scale.{finite}
use mir.Syntax.{w32, w64}
use mir.Val.{Fits, SFits, to_z, of_z}
use Rattle.ecma262.specs.Date.{make_day}
use Rattle.ecma262.specs.Domain.{ExactDay}
use Rattle.ecma262.proofs.Range.{make-day-range}
use Rattle.integers.proofs.Int.{ints, natural, abs-out}
use Rattle.integers.proofs.Machine.{true-T, kept}
use Rattle.float.specs.Whole.{IsWhole, trunc_z, WholeWithin}
use Rattle.float.proofs.Whole.{neg-whole}
use Rattle.float.proofs.Casts.{int-in-float}
use Rattle.calendar.proofs.Whole.{num-whole}
use Rattle.make.specs.Make.{whole_part, year_of_month, month_of_year, day_of_month_f}
use Rattle.make.proofs.Tests.{off, on, year-not-finite, month-not-finite, date-not-finite, make-day-finite}
use Rattle.make.proofs.Parts.{part-whole, Within, in-range, within, part-within, month-small}
use Rattle.make.proofs.Exact.{make-day-int, month-within-exact}
use Rattle.make.proofs.make_day.Goals as goal
use Rattle.make.proofs.make_day.Goals.{then-not-is_finite-via-then-not-is_finite, then-not-is_finite-via-else-not-is_finite+then-not-is_finite-2, then-not-is_finite-via-else-not-is_finite+else-not-is_finite-2+then-not-is_finite-3}
use Rattle.make.proofs.make_day.Goals.{After-day_number, After-exact_i64, After-exact_i64-mn, After-exact_i64-then-contains-3, Else-not-is_finite-2, Then-contains-3}

-- ---- a field x whose whole part p passed its test r, and p as an integer
module _ {x p : Float} (e : p ≡ whole_part x) where
  passed : T (fits binary64 x) → {a b : Float} {z w : ℤ} → IsWhole a z → IsWhole b w → {r : Bool} → r ≡ (le a p && le p b) → r ≡ true → Within x z w
  passed h {a} {b} u v f t = within x h u v (ap (λ (q : Float). le a q && le q b) (sym e) ∙ sym f ∙ t)

  taken : {z w : ℤ} → Within x z w → nat_abs (trunc_z x) ≤ 1_000_000 → WholeWithin (2 ^ 53) p
  taken i h = subst (WholeWithin (2 ^ 53)) (sym e) (part-within i.field (omega arith)).0

  given : {z w : ℤ} → Within x z w → nat_abs (trunc_z x) ≤ 1_000_000 → {r : ℤ} → r ≡ trunc_z p → SFits w64 r → to_z w64 (of_z w64 r) ≡ trunc_z x
  given i h f k = kept k ∙ f ∙ ap trunc_z e ∙ (part-within i.field h).1

module _ (c : Then-contains-3) where
  year-in : Within c.args.year (neg_ℤ (pos 280_000)) (pos 280_000)
  unfolding of_bits of_int
  year-in =
      let r = c.new.ensures in
      passed c.whole_part-y.ensures (true-T (fits binary64 c.args.year) c.well_formed.0.1) (neg-whole (num-whole 280000 (lit≤ tt))) (num-whole 280000 (lit≤ tt))
      (in-range c.whole_part-y.result r.start r.end r.exhausted c.contains.ensures.value) c.if-contains.true

  month-in : Within c.args.month (pos 0) (pos 11)
  unfolding of_bits of_int
  month-in =
      let r = c.new-then-contains.ensures in
      passed c.whole_part-m.ensures (true-T (fits binary64 c.args.month) c.well_formed.1.0.1) (num-whole 0 (lit≤ tt)) (num-whole 11 (lit≤ tt))
      (in-range c.whole_part-m.result r.start r.end r.exhausted c.contains-then-contains.ensures.value) c.if-contains-2.true

  date-in : Within c.args.date (neg_ℤ (pos 1_000_000)) (pos 1_000_000)
  unfolding of_bits of_int
  date-in =
      let r = c.new-then-contains-2.ensures in
      passed c.whole_part-dt.ensures (true-T (fits binary64 c.args.date) c.well_formed.1.1.0.1) (neg-whole (num-whole 1000000 (lit≤ tt))) (num-whole 1000000 (lit≤ tt))
      (in-range c.whole_part-dt.result r.start r.end r.exhausted c.contains-then-contains-2.ensures.value) c.if-contains-3.true

  year-size : nat_abs (trunc_z c.args.year) ≤ 280_000
  year-size = abs-out (trunc_z c.args.year) (omega (ints, year-in.from, year-in.upto))

  month-size : nat_abs (trunc_z c.args.month) ≤ 11
  month-size = abs-out (trunc_z c.args.month) (omega (ints, month-in.from, month-in.upto))

  date-size : nat_abs (trunc_z c.args.date) ≤ 1_000_000
  date-size = abs-out (trunc_z c.args.date) (omega (ints, date-in.from, date-in.upto))

  -- a month from 0 on
  month-own : trunc_z c.args.month ≡ pos (nat_abs (trunc_z c.args.month))
  month-own = let e = natural (trunc_z c.args.month) month-in.from in e ∙ ap (λ (z : ℤ). pos (nat_abs z)) (sym e)

  exact : ExactDay (trunc_z c.args.year) (trunc_z c.args.month) (trunc_z c.args.date)
  exact = month-within-exact (trunc_z c.args.year) (trunc_z c.args.month) (trunc_z c.args.date) year-size month-in.from month-in.upto date-size

-- ---- the integers
month-read : (c : After-exact_i64-mn) → to_z w64 (of_z w64 c.exact_i64-mn.result) ≡ trunc_z c.args.month
month-read c =
    given c.whole_part-m.ensures (month-in c.before) (omega (arith, month-size c.before)) c.exact_i64-mn.ensures (record { sfits = c.exact_i64-mn.type_inv })

year-read : (c : After-exact_i64) → to_z w64 (of_z w64 c.exact_i64.result) ≡ trunc_z c.args.year
year-read c =
    given c.whole_part-y.ensures (year-in c.before.before) (omega (arith, year-size c.before.before)) c.exact_i64.ensures (record { sfits = c.exact_i64.type_inv })

date-read : (c : After-exact_i64-then-contains-3) → to_z w64 (of_z w64 c.exact_i64-then-contains-3.result) ≡ trunc_z c.args.date
date-read c =
    given c.whole_part-dt.ensures (date-in c.before.before.before) (date-size c.before.before.before) c.exact_i64-then-contains-3.ensures (record { sfits = c.exact_i64-then-contains-3.type_inv })

day-read : (c : After-day_number) → let a = c.args in
    to_z w64 (of_z w64 c.day_number.result) ≡ make_day (trunc_z a.year) (trunc_z a.month) (trunc_z a.date)
day-read c =
    let own = ap (λ (z : ℤ). pos (nat_abs z)) (month-read c.before.before.before) ∙ sym (month-own c.before.before.before.before) in
    kept {w = w64} (record { sfits = c.day_number.type_inv }) ∙ c.day_number.ensures ∙ (λ i. make_day (year-read c.before.before i) (own i) (date-read c.before i))

pub exact_i64-mn-requires : goal.exact_i64-mn-requires
exact_i64-mn-requires c = taken c.whole_part-m.ensures (month-in c) (omega (arith, month-size c))

pub overflow_cast-mn : goal.overflow_cast-mn
overflow_cast-mn c =
    subst (λ (z : ℤ). T (non_neg z) × Fits w32 (nat_abs z)) (sym (month-read c ∙ month-own c.before)) (tt, record { fits = omega (arith, month-size c.before) })

pub exact_i64-requires : goal.exact_i64-requires
exact_i64-requires c =
    taken c.whole_part-y.ensures (year-in c.before) (omega (arith, year-size c.before))

pub exact_i64-requires-then-contains-3 : goal.exact_i64-requires-then-contains-3
exact_i64-requires-then-contains-3 c =
    taken c.whole_part-dt.ensures (date-in c.before.before) (date-size c.before.before)

pub day_number-requires : goal.day_number-requires
day_number-requires c = (
  omega (arith, ap nat_abs (year-read c.before), year-size c.before.before.before),
  omega (arith, ap nat_abs (month-read c.before.before), month-size c.before.before.before),
  omega (arith, ap nat_abs (date-read c), date-size c.before.before.before),
)

pub int_to_float-result : goal.int_to_float-result
int_to_float-result c =
    subst (λ (z : ℤ). T (in_float binary64 z)) (sym (day-read c.before))
    (int-in-float _ (omega (arith, make-day-range _ _ _ (exact c.before.before.before.before.before))))

pub returns-then-contains-3 : goal.returns-then-contains-3
returns-then-contains-3 c =
    ap (of_int binary64) (day-read c.before) ∙ sym (make-day-int (year-in c.before.before.before.before.before).field (month-in c.before.before.before.before.before).field (date-in c.before.before.before.before.before).field (exact c.before.before.before.before.before))

pub returns-then-not-is_finite : goal.returns-then-not-is_finite
unfolding of_bits of_int
returns-then-not-is_finite c =
    let a = c.args in
    sym (elim c.then-not-is_finite.branch [
      | then-not-is_finite-via-then-not-is_finite w ↦ year-not-finite a.year a.month a.date (off _ c.is_finite.ensures.value w.if-not-is_finite.true)
      | then-not-is_finite-via-else-not-is_finite+then-not-is_finite-2 w ↦
          month-not-finite a.year a.month a.date (off _ w.is_finite-else-not-is_finite.ensures.value w.if-not-is_finite-2.true)
      | then-not-is_finite-via-else-not-is_finite+else-not-is_finite-2+then-not-is_finite-3 w ↦
          date-not-finite a.year a.month a.date (off _ w.is_finite-else-not-is_finite-2.ensures.value w.if-not-is_finite-3.true)
    ])

-- ---- the steps in f64, of finite fields
month-finite : (c : Else-not-is_finite-2) → finite c.args.month ≡ true
month-finite c = on _ c.is_finite-else-not-is_finite.ensures.value c.if-not-is_finite-2.false

pub day_of_month-requires : goal.day_of_month-requires
day_of_month-requires c =
    let m = c.args.month in
    subst (λ (x : Float). month_of_year x < 12) (sym c.whole_part-m.ensures)
    (month-small (part-whole m (true-T (fits binary64 m) c.well_formed.1.0.1) (true-T (finite m) (month-finite c.before.before))))

pub returns : goal.returns
returns c =
    let a = c.args in
    c.day_of_month.ensures
    ∙ (λ i. day_of_month_f (year_of_month (c.whole_part-y.ensures i) (c.whole_part-m.ensures i)) (month_of_year (c.whole_part-m.ensures i)) (c.whole_part-dt.ensures i))
    ∙ sym (make-day-finite a.year a.month a.date (on _ c.is_finite.ensures.value c.if-not-is_finite.false) (month-finite c.before.before.before) (on _ c.is_finite-else-not-is_finite-2.ensures.value c.if-not-is_finite-3.false))
