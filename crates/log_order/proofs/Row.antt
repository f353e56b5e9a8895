-- The ISO text of a year 0 to 9999 as a row of seven numbers, the fields in order: `YYYY-MM-DDTHH:mm:ss.sssZ`. Assumes nothing.
use mathlib.Core.Path.{◌≡◌, refl}
use mathlib.Core.List.{List, [], ◌∷◌}
use Prim.Native.Nat.{ℕ, ◌+◌}
use lib.IntN.{pos, nat_abs}
use Rattle.ecma262.specs.Date.{Fields}
use Rattle.ecma262.specs.Texts.{ascii}
use Rattle.log_order.proofs.Digits.{Place, prints}

abbrev pub place : ℕ → List ℕ → Place
place width behind = record { width = width; behind = behind }

abbrev pub places : List Place
places = place 4 (ascii "-") ∷ place 2 (ascii "-") ∷ place 2 (ascii "T") ∷ place 2 (ascii ":") ∷ place 2 (ascii ":") ∷ place 2 (ascii ".") ∷ place 3 (ascii "Z") ∷ []

abbrev pub numbers : Fields → List ℕ
numbers f = nat_abs f.year ∷ (f.month + 1) ∷ f.date ∷ f.hour ∷ f.minute ∷ f.second ∷ f.ms ∷ []

-- a written one, computed
printed : prints places (numbers (record { year = pos 2024; month = 0; date = 31; hour = 23; minute = 59; second = 58; ms = 7 })) ≡ ascii "2024-01-31T23:59:58.007Z"
printed = refl
