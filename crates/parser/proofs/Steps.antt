-- The steps of the reading at a place of the text: each says what a reader makes of the bytes from there on, from what a test or a stage
-- of the code showed. Assumes nothing.
use mathlib.Core.Path.{◌≡◌, refl, sym, ap, subst, ◌∙◌}
use mathlib.Core.Bool.{Bool, true, false, cond}
use mathlib.Core.List.{List, [], ◌∷◌}
use Prim.Native.Nat.{ℕ, ◌+◌, ◌^◌, ◌≤◌, ◌<◌}
use lib.Dec.{eqb}
use lib.ListN.{drop}
use native.Mathlib.Omega.{arith}
use native.Mathlib.Nat.{pow-le-pow_right}
use Rattle.std.specs.Prelude.{Option, Some, None}
use Rattle.ecma262.specs.Digits.{digits}
use Rattle.fast_atoi.specs.Inner.{from_le_bytes, moved, join4, join8}
use Rattle.fast_atoi.proofs.Blocks.{from-small}
use Rattle.fast_atoi.proofs.Joined.{four-joined, eight-joined}
use Rattle.parser.specs.Reading.{Out, ok, fault, Reader, Number, number, bind, after, give, choose, digits_upto}
use Rattle.parser.specs.Inner.{Takes, as_block, block_upto, optional}
use Rattle.parser.proofs.Numbers.{upto_read}

-- what follows a part that may be absent
abbrev pub option_then : {A : Type 0} → (ℕ → Reader A) → Reader A → Option ℕ → Reader A
option_then k q None = q
option_then k q (Some v) = k v

-- a choice by the next byte is what follows the part that may be absent
pub by_option : {A : Type 0} (b : ℕ) (p : Reader ℕ) (k : ℕ → Reader A) (q : Reader A) (s : List ℕ) → choose b (after p k) q s ≡ bind (optional b p s) (option_then k q)
unfolding choose after optional give
by_option b p k q [] = refl
by_option {A} b p k q (c ∷ s) = pick (eqb c b)
  where
    found : (o : Out ℕ) → bind o k ≡ bind (bind o (λ v. give (Some v))) (option_then k q)
    found (ok v t) = refl
    found (fault f) = refl

    pick : (x : Bool) → cond x (bind (p s) k) (q (c ∷ s)) ≡ bind (cond x (bind (p s) (λ v. give (Some v))) (ok None (c ∷ s))) (option_then k q)
    pick true = found (p s)
    pick false = refl

-- ---- a block of digits, joined

-- the number whose digits a block is
record IsDigits (text : List ℕ) (at n block count : ℕ) : Type 0 where
  value : ℕ
  upto : count ≤ n
  small : value < 10 ^ count
  bytes : block ≡ from_le_bytes (digits count value)
  takes : Takes (digits_upto n) text at value count

number_of : {text : List ℕ} {at : ℕ} (n : ℕ) {block count : ℕ} → Takes (block_upto n) text at block count → IsDigits text at n block count
unfolding after as_block give
number_of {text} {at} n {block} {count} h = go (digits_upto n (drop at text)) refl h.same
  where
    go : (o : Out Number) → digits_upto n (drop at text) ≡ o → bind o as_block ≡ ok (number block count) (drop (at + count) text) → IsDigits text at n block count
    go (ok (number v c) u) d e =
        let r = upto_read n d in
        let k : c ≡ count = cc in
        let b : block ≡ from_le_bytes (digits c v) = cc in
        let q : u ≡ drop (at + count) text = cc in
        record { value = v; upto = rw k at r.0; small = rw k at r.1.small; bytes = rw k at b; takes = record { same = rw (d, k, q); inside = h.inside } }
    go (fault f) d e = cc

module _ {text : List ℕ} {at : ℕ} (n : ℕ) {block count : ℕ} (h : Takes (block_upto n) text at block count) where
  abbrev d : IsDigits text at n block count
  d = number_of n h

  pub count_upto : count ≤ n
  count_upto = d.upto

  -- no digit writes 0
  pub none_read : count ≡ 0 → Takes (digits_upto n) text at 0 0
  none_read e =
      let h : d.value < 10 ^ 0 = subst (λ k. d.value < 10 ^ k) e d.small in
      let z : d.value ≡ 0 = omega arith in
      subst (λ v. Takes (digits_upto n) text at v 0) z (subst (λ k. Takes (digits_upto n) text at d.value k) e d.takes)

  pub block_fits : n ≡ 4 → block < 2 ^ 32
  block_fits e =
      let b : block < 256 ^ count = subst (λ b. b < 256 ^ count) (sym d.bytes) (from-small count d.value) in
      omega (arith, b, pow-le-pow_right {n = 256} (omega arith) {i = count} {j = 4} (omega (arith, d.upto)))

  pub four_read : {v : ℕ} → n ≡ 4 → 1 ≤ count → v ≡ join4 (moved 32 count block) → Takes (digits_upto n) text at v count
  four_read {v} e l j =
      let q : v ≡ d.value = j ∙ ap (λ b. join4 (moved 32 count b)) d.bytes ∙ four-joined count d.value l (omega (arith, d.upto)) d.small in
      rw q d.takes

  eight-value : {v : ℕ} → 1 ≤ count → n ≤ 8 → v ≡ join8 (moved 64 count block) → v ≡ d.value
  eight-value l u j = j ∙ ap (λ b. join8 (moved 64 count b)) d.bytes ∙ eight-joined count d.value l (omega (arith, d.upto)) d.small

  pub eight_fits : {v : ℕ} → 1 ≤ count → n ≤ 8 → v ≡ join8 (moved 64 count block) → v < 2 ^ 32
  eight_fits l u j =
      omega (arith, eight-value l u j, d.small, pow-le-pow_right {n = 10} (omega arith) {i = count} {j = 8} (omega (arith, d.upto)))

  pub eight_read : {v : ℕ} → 1 ≤ count → n ≤ 8 → v ≡ join8 (moved 64 count block) → Takes (digits_upto n) text at v count
  eight_read l u j = rw (eight-value l u j) d.takes

pub ruleset blocks = (count_upto, none_read, block_fits, four_read, eight_fits, eight_read)
