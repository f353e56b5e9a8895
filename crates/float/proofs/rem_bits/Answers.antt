-- `float::rem_bits` meets its contract. Assumes nothing.
use Rattle.std.proofs.Common.{ℕ, ◌+◌, ◌*◌, ◌/◌, ◌%◌, ◌^◌, ◌<◌, false, ap, ◌∙◌, subst}
use lib.Ieee.{binary64, of_bits, round}
use Rattle.float.specs.Inner.{place}
use Rattle.float.proofs.Digits.{rem-less, split_at}
use Rattle.float.proofs.rem_bits.Goals as goal

pub returns-then-i-j : goal.returns-then-i-j
returns-then-i-j c =
    let a = c.args.a in
    let b = c.args.b in
    rem-less a b c.ranges.a.fits c.ranges.b.fits c.requires.0 c.requires.1 c.requires.2
    (subst (λ (z : ℕ). z < place (b / 2 ^ 52 % 2 ^ 11)) c.place_bits-i.ensures (subst (λ (z : ℕ). c.place_bits-i.result < z) c.place_bits-j.ensures c.if-i-j.true))

pub returns : goal.returns
returns c =
    let a = c.args.a in
    let b = c.args.b in
    let u = c.units_bits in
    ap (of_bits binary64) c.join_sign.ensures
    ∙ split_at a b c.ranges.a.fits c.ranges.b.fits c.requires.0 c.requires.1 c.requires.2
    c.lead_bits-m.ensures c.lead_bits-n.ensures c.place_bits-i.ensures c.place_bits-j.ensures
    c.if-i-j.false c.low_zeros-c.result u.result c.low_zeros-c.ensures.0 c.low_zeros-c.ensures.2 u.ensures.0
    (u.ensures.1 ∙ ap (λ (z : ℕ). round binary64 false (z * 2 ^ (c.place_bits-j.result + c.low_zeros-c.result)) (2 ^ 1074)) c.shifted_rem.ensures)
