-- `local::second_of` meets its contract: counted, the second is a quotient of naturals. Assumes nothing.
use mathlib.Core.Path.{◌≡◌, sym, ap, ◌∙◌, subst}
use Prim.Native.Nat.{◌/◌, ◌≤◌}
use native.Mathlib.Omega.{arith}
use lib.IntN.{ℤ, pos, ◌+ℤ◌, ◌-ℤ◌}
use mir.Syntax.{w64}
use mir.Val.{SFits, to_z, of_z}
use mir.Facts.{to_z_pos}
use Rattle.integers.proofs.Int.{ints, abs-in, at, ◌+ᵗ◌, ◌-ᵗ◌, ◌/ᵗ◌, read}
use Rattle.integers.proofs.Machine.{fits64, kept}
use Rattle.local.specs.Local.{asked_second}
use Rattle.local.proofs.second_of.Goals as goal
use Rattle.local.proofs.second_of.Goals.{After-counted}

module _ (c : After-counted) where
  abbrev t : ℤ
  t = c.args.t

  abbrev second : ℤ
  second = pos (c.counted.result / 1000) -ℤ pos 37_930_477_996_800

  count-is : pos c.counted.result ≡ t +ℤ pos 37_930_477_996_800_000
  count-is = c.counted.ensures ∙ ap (λ (i : ℤ). i +ℤ pos 37930477996800000) (kept c.ranges.t)

  count_small : c.counted.result ≤ 80_000_000_000_000_000
  count_small = let e = count-is in omega (ints, abs-in t c.requires, read (at t +ᵗ at (pos 37930477996800000)))

  quotient : to_z w64 (c.counted.result / 1000) ≡ pos (c.counted.result / 1000)
  quotient = to_z_pos w64 (omega (arith, count_small))

  fits : SFits w64 second
  fits = fits64 second (omega (arith, count_small, read (at (pos (c.counted.result / 1000)) -ᵗ at (pos 37930477996800))))

  second_is : second ≡ asked_second t
  unfolding asked_second
  second_is = let e = count-is in omega (ints, read (at t +ᵗ at (pos 37930477996800000)), read (at (pos (c.counted.result / 1000)) -ᵗ at (pos 37930477996800)), read (at t /ᵗ 1000))

pub overflow_cast-result : goal.overflow_cast-result
overflow_cast-result c = record { sfits = omega (arith, count_small c) }

pub overflow_sub-result : goal.overflow_sub-result
overflow_sub-result c = subst (λ (i : ℤ). SFits w64 (i -ℤ pos 37930477996800)) (sym (quotient c)) (fits c)

pub returns : goal.returns
returns c = ap (λ (i : ℤ). to_z w64 (of_z w64 (i -ℤ pos 37930477996800))) (quotient c) ∙ kept (fits c) ∙ second_is c
