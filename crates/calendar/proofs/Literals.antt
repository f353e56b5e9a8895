-- What the code writes out, as the definitions have it. Assumes nothing.
use mathlib.Core.Path.{◌≡◌, refl}
use lib.IntN.{pos}
use lib.Ieee.{binary64, of_bits, of_int}

-- MS_PER_DAY
pub ms_per_day : of_bits binary64 4725570615333879808 ≡ of_int binary64 (pos 86_400_000)
unfolding of_bits of_int
ms_per_day = refl
