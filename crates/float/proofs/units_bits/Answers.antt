-- `float::units_bits` meets its contract. Assumes nothing.
use Rattle.std.proofs.Common.{◌≡◌, ◌+◌, ◌-◌, ◌*◌, ◌%◌, ◌^◌, ap, ◌∙◌, arith, lit<}
use lib.Ieee.{binary64, of_bits}
use Rattle.float.proofs.Digits.{shifted, unshifted, plain, none-at}
use Rattle.float.proofs.units_bits.Goals as goal

pub returns-then-q-eq0 : goal.returns-then-q-eq0
returns-then-q-eq0 c = (lit< tt, none-at c.args.q c.args.k c.if-q-eq0.true c.requires.1)

pub returns-then-h-k : goal.returns-then-h-k
returns-then-h-k c =
    let q = c.args.q in
    let k = c.args.k in
    let h = c.room-h.result in
    let r = c.room-h.ensures in
    let p = c.requires in
    let e : (k - h) * 4503599627370496 % 18446744073709551616 + q * 2 ^ h % 18446744073709551616 ≡ (k - h) * 4503599627370496 + q * 2 ^ h = omega arith in
    (omega arith, ap (of_bits binary64) e ∙ shifted q h k r.0 r.1 c.if-h-k.true p.1 p.0)

pub returns : goal.returns
returns c =
    let q = c.args.q in
    let k = c.args.k in
    let h = c.room-h.result in
    let r = c.room-h.ensures in
    let p = c.requires in
    let l = unshifted q h k r.1 c.if-h-k.false in
    let e : q * 2 ^ k % 18446744073709551616 ≡ q * 2 ^ k = omega arith in
    (omega arith, ap (of_bits binary64) e ∙ plain q k p.0 (omega arith) l)
