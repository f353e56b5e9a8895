-- The bits of a refusal's value are those that the logic gives its one NaN. Assumes nothing.
use mathlib.Core.Path.{◌≡◌, refl}
use lib.Ieee.{nan, to_bits, binary64}
use Rattle.answer.specs.Answer.{nan_value}

pub nan-bits : to_bits binary64 nan ≡ nan_value
unfolding to_bits
nan-bits = refl
