-- The order of bytes at written texts, computed by the checker: the first place where two differ decides, and not the last; the beginning of a text
-- comes before it; no text comes before itself. Assumes nothing.
use mathlib.Core.Path.{◌≡◌, refl}
use mathlib.Core.Bool.{true, false}
use mathlib.Core.List.{[]}
use native.Mathlib.Omega.{arith}
use Rattle.ecma262.specs.Texts.{ascii}
use Rattle.log_order.specs.Smaller.{Smaller, smaller}

first-decides : Smaller (ascii "2024-01-31") (ascii "2024-02-01")
first-decides = record { same = ascii "2024-0"; s_rest = ascii "1-31"; t_rest = ascii "2-01"; s-is = refl; t-is = refl; here = omega arith }

beginning-first : Smaller (ascii "2024-02") (ascii "2024-02-01")
beginning-first = record { same = ascii "2024-02"; s_rest = []; t_rest = ascii "-01"; s-is = refl; t-is = refl; here = tt }

tested : (smaller (ascii "2024-01-31") (ascii "2024-02-01") ≡ true) × (smaller (ascii "2024-02-01") (ascii "2024-01-31") ≡ false)
    × (smaller (ascii "2024-02") (ascii "2024-02-01") ≡ true) × (smaller (ascii "2024-02-01") (ascii "2024-02") ≡ false)
    × (smaller (ascii "2024-02-01") (ascii "2024-02-01") ≡ false)
tested = (refl, refl, refl, refl, refl)
