-- A float that is written out, as a whole number: one computed test. Assumes nothing.
use Rattle.std.proofs.Common.{◌*◌, Bool, false, ◌&&◌, T, eqb, ℤ, pos, nat_abs, refl, eqb→eq}
use lib.Ieee.{Float, nan, inf, fin, up, down, binary64, of_bits}
use lib.Ieee.Fits.{and_l, and_r}
use Rattle.float.specs.Whole.{signed, IsWhole}
use Rattle.float.proofs.Order.{eq_z, eq_z→eq}

abbrev pub is_whole : Float → ℤ → Bool
is_whole nan z = false
is_whole (inf s) z = false
is_whole (fin s m e) z = eqb (m * up e * 1) (nat_abs z * down e) && eq_z (signed s (nat_abs z)) z

-- at a literal: `literal (of_bits binary64 N) (pos 86400000) tt`, with `unfolding of_bits`
pub literal : (x : Float) (z : ℤ) → T (is_whole x z) → IsWhole x z
literal nan z t = absurd t
literal (inf s) z t = absurd t
literal (fin s m e) z t =
    let a = eqb (m * up e * 1) (nat_abs z * down e) in
    let b = eq_z (signed s (nat_abs z)) z in
    record { sign = s; size = nat_abs z; value = (refl, eqb→eq (m * up e * 1) (nat_abs z * down e) (and_l a b t)); is = eq_z→eq (signed s (nat_abs z)) z (and_r a b t) }

pub zero-whole : IsWhole (of_bits binary64 0) (pos 0)
unfolding of_bits
zero-whole = literal (of_bits binary64 0) (pos 0) tt
