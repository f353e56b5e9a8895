-- A run of digits read one by one, at a place of the text: what the two loops keep. Assumes nothing.
use mathlib.Core.Logic.{◌⊎◌, inl, inr}
use mathlib.Core.Path.{◌≡◌, refl, sym}
use mathlib.Core.Bool.{false}
use mathlib.Core.List.{List, []}
use Prim.Native.Nat.{ℕ, zero, suc, ◌+◌, ◌-◌, ◌*◌, ◌/◌, ◌%◌, ◌^◌, ◌≤◌, ◌<◌}
use native.Mathlib.Numerals.{add-one}
use native.Mathlib.Nat.{add-zero}
use native.Mathlib.Nat.{pow-suc, pow-le-pow_right, mul-le-mul_right, mod-eq_of_lt}
use lib.Pow.{pow-add}
use native.Mathlib.Omega.{arith}
use lib.ListN.{length, drop}
use borrow.Author.Tests.{le-leb, lt-leb}
use Rattle.ecma262.specs.Digits.{digit, digits}
use Rattle.fast_atoi.specs.Inner.{from_le_bytes}
use Rattle.fast_atoi.proofs.Blocks.{from-digits, from-small}
use Rattle.parser.specs.Reading.{is_digit, digits_after, digits_upto, after, give}
use Rattle.parser.specs.Inner.{Ends, Next, IsDigit, NoDigit, Takes, as_block, block_upto}
use Rattle.parser.proofs.Numbers.{none-written}

-- ---- one byte

module _ {text : List ℕ} {at : ℕ} where
  pub digit_none : Ends text at → NoDigit text at
  digit_none h = record { same = λ n v count. rw h.same (none-written n v count [] (λ l. tt)) }

  -- a byte that is no digit
  other : {b : ℕ} → Next text at b → is_digit b ≡ false → NoDigit text at
  other h e = record { same = λ n v count. rw h.same (none-written n v count _ (λ l. e)) }

  pub digit_other : {b : ℕ} → Next text at b → (b < 48) ⊎ (57 < b) → NoDigit text at
  digit_other {b} h (inl l) = other h (simp (lt-leb _ _ l))
  digit_other {b} h (inr u) = let l : 48 ≤ b = omega arith in other h (simp (le-leb _ _ l, lt-leb _ _ u))

pub ruleset bytes = (digit_none, digit_other)

-- ---- a run of digits

-- i of at most n digits from `at` on are read and write v
pub record Run (text : List ℕ) (at n i v : ℕ) : Type 0 where
  pub some : i ≤ n
  pub inside : 0 < i → at + i ≤ length text
  pub small : v < 10 ^ i
  pub same : digits_after (n - i) v i (drop (at + i) text) ≡ digits_upto n (drop at text)

pub run_none : (text : List ℕ) (at n : ℕ) → Run text at n 0 0
run_none text at n = record {
  some = omega arith;
  inside = λ h. absurd (omega arith);
  small = omega arith;
  same = let e : n - 0 ≡ n = omega arith in rw (add-zero, e);
}

module _ {text : List ℕ} {at n i v : ℕ} (run : Run text at n i v) where
  -- where no digit stands, the run ends
  pub run_stop : NoDigit text (at + i) → Takes (digits_upto n) text at v i
  run_stop d = record { same = rw (← run.same, d.same); inside = run.inside }

  pub run_more : {b d : ℕ} → i < n → IsDigit text (at + i) b → d ≡ b - 48 → Run text at n (i + 1) (10 * v + d)
  unfolding digits_after
  run_more {b} h d q =
      let e : at + (i + 1) ≡ at + i + 1 = omega arith in
      let left : n - i ≡ n - (i + 1) + 1 = omega arith in
      record {
        some = omega arith;
        inside = λ k. omega (arith, d.here.inside);
        small = rw (add-one, pow-suc) (omega (arith, run.small, d.low, d.high, q));
        same = rw (e, q) (sym (simp (le-leb _ _ d.low, le-leb _ _ d.high) at (rw (left, add-one, d.here.same) at (sym run.same))));
      }

  -- of at most eight digits, one is still to be read
  pub run-below : i < n → n ≤ 8 → v < 10000000
  run-below h k = omega (arith, run.small, pow-le-pow_right {n = 10} (omega arith) {i = i} {j = 7} (omega arith))

  -- all n are read
  pub run_whole : n ≤ i → Takes (digits_upto n) text at v n
  unfolding digits_after
  run_whole h =
      let e : i ≡ n = omega (arith, run.some) in
      let z : n - n ≡ 0 = omega arith in
      record { same = rw (← run.same, e, z); inside = rw e at run.inside }

pub ruleset runs = (run_none, run_stop, run_more, run-below, run_whole)

-- ---- the same digits as a block, the first of them in the lowest byte

pub record Gathered (text : List ℕ) (at n i block : ℕ) : Type 0 where
  pub value : ℕ
  pub run : Run text at n i value
  pub bytes : block ≡ from_le_bytes (digits i value)

pub gathered_none : (text : List ℕ) (at n : ℕ) → Gathered text at n 0 0
gathered_none text at n = record { value = 0; run = run_none text at n; bytes = refl }

-- a place for each byte
place : (i : ℕ) → 2 ^ (8 * i) ≡ 256 ^ i
place zero = refl
place (suc i) = let e : 8 * suc i ≡ 8 * i + 8 = omega arith in rw (e, pow-add 2 (8 * i) 8, place i, pow-suc 256 i)

-- a byte at one of eight places
module _ (i b : ℕ) (hi : i ≤ 7) (hb : b ≤ 255) where
  byte-below : b * 256 ^ i ≤ 255 * 256 ^ i
  byte-below = mul-le-mul_right (256 ^ i) hb

  place-below : 256 ^ i ≤ 256 ^ 7
  place-below = pow-le-pow_right {n = 256} (omega arith) hi

  placed : b * 2 ^ (8 * i) % 2 ^ 64 ≡ b * 256 ^ i
  placed = rw (place i) (mod-eq_of_lt (omega (arith, byte-below, place-below)))

module _ {text : List ℕ} {at n i block : ℕ} (g : Gathered text at n i block) where
  -- of a digit b, as the block takes it
  pub gathered_room : {b c : ℕ} → i < n → n ≤ 8 → IsDigit text (at + i) b → c ≡ b → block + c * 2 ^ (8 * i) % 2 ^ 64 < 2 ^ 64
  gathered_room {b} h k d e =
      let hi : i ≤ 7 = omega arith in
      let hb : b ≤ 255 = omega (arith, d.high) in
      rw (e, placed i b hi hb) (omega (arith, d.high, g.bytes, from-small i g.value, byte-below i b hi hb, place-below i b hi hb))

  gathered : {count : ℕ} → i ≡ count → Takes (digits_upto n) text at g.value count → Takes (block_upto n) text at block count
  unfolding after as_block give
  gathered e t = record { same = rw (t.same, g.bytes, e); inside = t.inside }

  pub gathered_stop : NoDigit text (at + i) → Takes (block_upto n) text at block i
  gathered_stop d = gathered refl (run_stop g.run d)

  pub gathered_more : {b c : ℕ} → i < n → n ≤ 8 → IsDigit text (at + i) b → c ≡ b → Gathered text at n (i + 1) (block + c * 2 ^ (8 * i) % 2 ^ 64)
  gathered_more {b} h k d e =
      let v = 10 * g.value + (b - 48) in
      let upper : v / 10 ≡ g.value = omega (arith, d.low, d.high) in
      let lowest : digit (v % 10) ≡ b = omega (arith, d.low, d.high) in
      record {
        value = v;
        run = run_more g.run h d refl;
        bytes = rw (e, add-one, from-digits i v, upper, lowest, placed i b (omega arith) (omega (arith, d.high)), g.bytes);
      }

  pub gathered_whole : n ≤ i → Takes (block_upto n) text at block n
  gathered_whole h = gathered (omega (arith, g.run.some)) (run_whole g.run h)

pub ruleset gathers = (gathered_none, gathered_room, gathered_stop, gathered_more, gathered_whole)
