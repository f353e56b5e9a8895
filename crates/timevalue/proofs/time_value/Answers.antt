-- `timevalue::time_value` meets its contract: each way through it is a case of `judged`, at the value of the bits. Assumes nothing.
use mathlib.Core.Path.{◌≡◌, sym, ap, ◌∙◌}
use mathlib.Core.Bool.{Bool, true, false}
use lib.IntN.{pos}
use lib.Ieee.{Float, binary64, eq, is_nan, of_bits, of_int}
use Rattle.std.specs.Prelude.{Some, None}
use Rattle.float.specs.Rounding.{abs_f}
use Rattle.float.proofs.Integer.{abs-zero-test}
use Rattle.timevalue.specs.declared.TimeValue.TheVariants.{Time}
use Rattle.timevalue.specs.TimeValue.{is_time, judged, time_value_of}
use Rattle.timevalue.proofs.time_value.Goals as goal
use Rattle.timevalue.proofs.time_value.Goals.{After-is_whole_within}

-- ---- the answers, by the tests, of the value x of some bits that is no NaN
module _ (x : Float) (n : is_nan x ≡ false) where
  judged-zero : is_time x ≡ true → eq (abs_f x) (of_int binary64 (pos 0)) ≡ true → Some (Time (of_int binary64 (pos 0))) ≡ judged x
  judged-zero e z = rw (n, e, z)

  judged-time : is_time x ≡ true → eq (abs_f x) (of_int binary64 (pos 0)) ≡ false → Some (Time x) ≡ judged x
  judged-time e z = rw (n, e, z)

  judged-other : is_time x ≡ false → None ≡ judged x
  judged-other e = rw (n, e)

-- ---- the tests of the code are those of the definition
number : (c : After-is_whole_within) → is_nan c.of_bits-x.result ≡ false
number c = sym c.is_nan.ensures.value ∙ c.if-is_nan.false

test : (c : After-is_whole_within) {b : Bool} → c.is_whole_within.result ≡ b → is_time c.of_bits-x.result ≡ b
unfolding is_time of_bits of_int
test c e = sym c.is_whole_within.ensures ∙ e

zero_test : (x : Float) {b : Bool} → eq x (of_bits binary64 0) ≡ b → eq (abs_f x) (of_int binary64 (pos 0)) ≡ b
unfolding of_bits of_int
zero_test x e = abs-zero-test x ∙ e

pub returns-then-x : goal.returns-then-x
unfolding time_value_of of_bits of_int
returns-then-x c =
    let tested = c.before.before in
    judged-zero _ (number tested) (test tested c.if-is_whole_within.true) (zero_test _ c.if-x.true) ∙ ap judged c.of_bits-x.ensures

pub returns-else-x : goal.returns-else-x
unfolding time_value_of of_bits of_int
returns-else-x c =
    let tested = c.before.before in
    judged-time _ (number tested) (test tested c.if-is_whole_within.true) (zero_test _ c.if-x.false) ∙ ap judged c.of_bits-x.ensures

pub returns : goal.returns
unfolding time_value_of
returns c = judged-other _ (number c.before) (test c.before c.if-is_whole_within.false) ∙ ap judged c.of_bits-x.ensures
