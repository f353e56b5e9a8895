-- Where a setter starts in whole numbers. Assumes nothing.
use mathlib.Core.Path.{◌≡◌, refl}
use mathlib.Core.Bool.{Bool, true, false}
use mathlib.Core.List.{List}
use native.Mathlib.Nat.{le_trans}
use lib.Dec.{lit≤}
use lib.IntN.{ℤ}
use lib.Ieee.{Float}
use Rattle.ecma262.specs.Date.{InRange}
use Rattle.ecma262.specs.Domain.{Shown}
use Rattle.float.specs.Whole.{IsWhole}
use Rattle.zone.specs.Zone.{Record, IsZoneList}
use Rattle.local.proofs.Whole.{local-time-whole, local-time-shown}
use Rattle.new_date.specs.Calls.{shift_in}
use Rattle.new_date.specs.Standard.{shift_in_z}

-- the start is the whole number that it is in ℤ
pub start-whole : (local : Bool) (list : List Record) {t : Float} {z : ℤ} → (local ≡ true → IsZoneList list) → IsWhole t z → InRange z
    → IsWhole (shift_in local list t) (shift_in_z local list z) × Shown (shift_in_z local list z)
start-whole false list l w r = (w, le_trans r (lit≤ tt))
start-whole true list {t} {z} l w r = (local-time-whole list (l refl) z (le_trans r (lit≤ tt)) w, local-time-shown list (l refl) z r)
