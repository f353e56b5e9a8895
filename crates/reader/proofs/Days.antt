-- The day of a text's fields is small. Assumes nothing.
use mathlib.Core.Path.{◌≡◌}
use Prim.Native.Nat.{ℕ, ◌≤◌, ◌<◌}
use native.Mathlib.Omega.{arith}
use lib.IntN.{ℤ, pos, nat_abs}
use Rattle.ecma262.specs.Date.{make_day}
use Rattle.calendar.proofs.Counting.{make-day-small}

pub day_small : (y : ℤ) (m d : ℕ) {n : ℤ} → n ≡ make_day y (pos m) (pos d) → nat_abs y ≤ 1_000_000 → m < 12 → d ≤ 31 → nat_abs n ≤ 402_000_000
day_small y m d e hy hm hd = rw e (make-day-small y m hy hm (pos d) (omega (arith, hd)))
