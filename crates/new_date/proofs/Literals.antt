-- The numbers that the code takes absent arguments for, as it writes them. Assumes nothing.
use mathlib.Core.Path.{◌≡◌, refl}
use lib.Ieee.{Float, nan, binary64, of_bits, of_int}
use Rattle.std.specs.Prelude.{Option, Some, None, MatchOption, unwrap_or}
use Rattle.calendar.specs.Calendar.{num}

pub zero : of_bits binary64 0 ≡ num 0
unfolding of_bits of_int
zero = refl

pub one : of_bits binary64 0x3ff0000000000000 ≡ num 1
unfolding of_bits of_int
one = refl

pub not_a_number : of_bits binary64 0x7ff8000000000000 ≡ nan
unfolding of_bits
not_a_number = refl

pub or_else : {A : Type 0} (o : Option Float) (x d : Float) → MatchOption o A (λ g. x ≡ g) → (A → x ≡ d) → x ≡ unwrap_or o d
or_else None x d m k = k m
or_else (Some g) x d m k = m
