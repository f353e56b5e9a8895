-- On digit bytes `process_4` and `process_8` are the number: the bytes that print v in w digits are joined to v. Each product adds a
-- neighbour ten, a hundred or ten thousand times; what passes the top of the block, and what is shifted out below, is no part of the
-- result. Assumes nothing.
use Rattle.std.proofs.Common.{◌≡◌, ℕ, zero, suc, ◌+◌, ◌*◌, ◌/◌, ◌%◌, ◌^◌, ◌<◌, ◌≤◌, [], ◌∷◌, refl, ap, ◌∙◌, arith}
use lib.Arith.{digits_mod, digits_div}
use Rattle.ecma262.specs.Digits.{digits}
use Rattle.fast_atoi.specs.Inner.{from_le_bytes, moved, pairs4, join4, pairs8, fours8, join8}
use Rattle.fast_atoi.proofs.Blocks.{moved-digits}
use Rattle.fast_atoi.proofs.Masks.{mask-0_f, mask-FF, mask8-0_f, mask8-FF, mask8-FFFF}

-- what is left of a block after a product modulo m and a shift by s: `over` passes the top, `under` is shifted out
kept-part : (over kept under m s x : ℕ) → x ≡ over * m + (kept * s + under) → kept * s + under < m → under < s → x % m / s ≡ kept
kept-part over kept under m s x e small low = rw (e, digits_mod over {m = m} {r = kept * s + under} small, digits_div kept {m = s} {r = under} low)

-- a byte whose lower half is the digit d: an ASCII digit, or a 0 that was moved in
record Low (x d : ℕ) : Type 0 where
  byte : x < 256
  half : x % 16 ≡ d
  small : d ≤ 9

-- the last digit of v, and a byte that was moved in
last : (v : ℕ) → Low (48 + v % 10) (v % 10)
last v = record { byte = omega arith; half = omega arith; small = omega arith }

none : Low 0 0
none = record { byte = omega arith; half = refl; small = omega arith }

module _ {x₁ x₂ x₃ x₄ a b c d : ℕ} (ha : Low x₁ a) (hb : Low x₂ b) (hc : Low x₃ c) (hd : Low x₄ d) where
  abbrev block : ℕ
  block = ((x₄ * 256 + x₃) * 256 + x₂) * 256 + x₁

  pairs : pairs4 block ≡ ((10 * c + d) * 256 + (10 * b + c)) * 256 + (10 * a + b)
  unfolding pairs4
  pairs =
      rw (mask-0_f x₁ x₂ x₃ x₄ ha.byte hb.byte hc.byte, ha.half, hb.half, hc.half, hd.half)
      (kept-part (10 * d) (((10 * c + d) * 256 + (10 * b + c)) * 256 + (10 * a + b)) a (2 ^ 32) (2 ^ 8) _ (omega arith) (omega arith) (omega arith))

  of-block : join4 block ≡ 1000 * a + 100 * b + 10 * c + d
  unfolding join4
  of-block =
      rw (pairs, mask-FF (10 * a + b) (10 * b + c) (10 * c + d) (omega arith) (omega arith) (omega arith))
      (kept-part (100 * (10 * c + d)) (1000 * a + 100 * b + 10 * c + d) (10 * a + b) (2 ^ 32) (2 ^ 16) _ (omega arith) (omega arith) (omega arith))

  joined4 : {m v : ℕ} → m ≡ from_le_bytes (x₁ ∷ x₂ ∷ x₃ ∷ x₄ ∷ []) → 1000 * a + 100 * b + 10 * c + d ≡ v → join4 m ≡ v
  joined4 p q = let e : from_le_bytes (x₁ ∷ x₂ ∷ x₃ ∷ x₄ ∷ []) ≡ block = omega arith in ap join4 (p ∙ e) ∙ of-block ∙ q

module _ {x₁ x₂ x₃ x₄ x₅ x₆ x₇ x₈ a b c d e f g h : ℕ}
    (ha : Low x₁ a) (hb : Low x₂ b) (hc : Low x₃ c) (hd : Low x₄ d) (he : Low x₅ e) (hf : Low x₆ f) (hg : Low x₇ g) (hh : Low x₈ h) where
  abbrev block8 : ℕ
  block8 = ((((((x₈ * 256 + x₇) * 256 + x₆) * 256 + x₅) * 256 + x₄) * 256 + x₃) * 256 + x₂) * 256 + x₁

  pairs-of-8 : pairs8 block8
      ≡ (((10 * g + h) * 65536 + ((10 * f + g) * 256 + (10 * e + f))) * 65536 + ((10 * d + e) * 256 + (10 * c + d))) * 65536 + ((10 * b + c) * 256 + (10 * a + b))
  unfolding pairs8
  pairs-of-8 =
      rw (
        mask8-0_f x₁ x₂ x₃ x₄ x₅ x₆ x₇ x₈ ha.byte hb.byte hc.byte hd.byte he.byte hf.byte hg.byte,
        ha.half,
        hb.half,
        hc.half,
        hd.half,
        he.half,
        hf.half,
        hg.half,
        hh.half,
      )
      (kept-part (10 * h) ((((10 * g + h) * 65536 + ((10 * f + g) * 256 + (10 * e + f))) * 65536 + ((10 * d + e) * 256 + (10 * c + d))) * 65536 + ((10 * b + c) * 256 + (10 * a + b)))
      a (2 ^ 64) (2 ^ 8) _ (omega arith) (omega arith) (omega arith))

  -- the pairs' numbers
  abbrev P : ℕ
  P = 10 * a + b

  abbrev Q : ℕ
  Q = 10 * c + d

  abbrev R : ℕ
  R = 10 * e + f

  abbrev S : ℕ
  S = 10 * g + h

  fours-of-8 : fours8 block8 ≡ (100 * R + S) * 4294967296 + ((100 * Q + R) * 65536 + (100 * P + Q))
  unfolding fours8
  fours-of-8 =
      let s : S % 256 ≡ S = omega arith in
      let r : ((10 * f + g) * 256 + R) % 256 ≡ R = omega arith in
      let q : ((10 * d + e) * 256 + Q) % 256 ≡ Q = omega arith in
      let p : ((10 * b + c) * 256 + P) % 256 ≡ P = omega arith in
      rw (pairs-of-8, mask8-FF ((10 * b + c) * 256 + P) ((10 * d + e) * 256 + Q) ((10 * f + g) * 256 + R) S (omega arith) (omega arith) (omega arith), s, r, q, p)
      (kept-part (100 * S) ((100 * R + S) * 4294967296 + ((100 * Q + R) * 65536 + (100 * P + Q))) P (2 ^ 64) (2 ^ 16) _ (omega arith) (omega arith) (omega arith))

  of-block8 : join8 block8 ≡ 10000 * (100 * P + Q) + (100 * R + S)
  unfolding join8
  of-block8 =
      let x : (100 * R + S) % 65536 ≡ 100 * R + S = omega arith in
      let y : ((100 * Q + R) * 65536 + (100 * P + Q)) % 65536 ≡ 100 * P + Q = omega arith in
      rw (fours-of-8, mask8-FFFF ((100 * Q + R) * 65536 + (100 * P + Q)) (100 * R + S) (omega arith), x, y)
      (kept-part (10000 * (100 * R + S)) (10000 * (100 * P + Q) + (100 * R + S)) (100 * P + Q) (2 ^ 64) (2 ^ 32) _ (omega arith) (omega arith) (omega arith))

  joined8 : {m v : ℕ} → m ≡ from_le_bytes (x₁ ∷ x₂ ∷ x₃ ∷ x₄ ∷ x₅ ∷ x₆ ∷ x₇ ∷ x₈ ∷ []) → 10000 * (100 * P + Q) + (100 * R + S) ≡ v → join8 m ≡ v
  joined8 p q = let e : from_le_bytes (x₁ ∷ x₂ ∷ x₃ ∷ x₄ ∷ x₅ ∷ x₆ ∷ x₇ ∷ x₈ ∷ []) ≡ block8 = omega arith in ap join8 (p ∙ e) ∙ of-block8 ∙ q

-- `process_4`, at each number of digits
pub four-joined : (w v : ℕ) → 1 ≤ w → w ≤ 4 → v < 10 ^ w → join4 (moved 32 w (from_le_bytes (digits w v))) ≡ v
four-joined zero v l u h = absurd (omega arith)
four-joined (suc zero) v l u h = joined4 none none none (last v) (moved-digits 32 1 3 v refl refl) (omega arith)
four-joined (suc (suc zero)) v l u h = joined4 none none (last (v / 10)) (last v) (moved-digits 32 2 2 v refl refl) (omega arith)
four-joined (suc (suc (suc zero))) v l u h = joined4 none (last (v / 10 / 10)) (last (v / 10)) (last v) (moved-digits 32 3 1 v refl refl) (omega arith)
four-joined (suc (suc (suc (suc zero)))) v l u h = joined4 (last (v / 10 / 10 / 10)) (last (v / 10 / 10)) (last (v / 10)) (last v) (moved-digits 32 4 0 v refl refl) (omega arith)
four-joined (suc (suc (suc (suc (suc w))))) v l u h = absurd (omega arith)

-- `process_8`, at each number of digits
pub eight-joined : (w v : ℕ) → 1 ≤ w → w ≤ 8 → v < 10 ^ w → join8 (moved 64 w (from_le_bytes (digits w v))) ≡ v
eight-joined zero v l u h = absurd (omega arith)
eight-joined (suc zero) v l u h = joined8 none none none none none none none (last v) (moved-digits 64 1 7 v refl refl) (omega arith)
eight-joined (suc (suc zero)) v l u h = joined8 none none none none none none (last (v / 10)) (last v) (moved-digits 64 2 6 v refl refl) (omega arith)
eight-joined (suc (suc (suc zero))) v l u h = joined8 none none none none none (last (v / 10 / 10)) (last (v / 10)) (last v) (moved-digits 64 3 5 v refl refl) (omega arith)
eight-joined (suc (suc (suc (suc zero)))) v l u h = joined8 none none none none (last (v / 10 / 10 / 10)) (last (v / 10 / 10)) (last (v / 10)) (last v) (moved-digits 64 4 4 v refl refl) (omega arith)
eight-joined (suc (suc (suc (suc (suc zero))))) v l u h = joined8 none none none (last (v / 10 / 10 / 10 / 10)) (last (v / 10 / 10 / 10)) (last (v / 10 / 10)) (last (v / 10)) (last v) (moved-digits 64 5 3 v refl refl) (omega arith)
eight-joined (suc (suc (suc (suc (suc (suc zero)))))) v l u h = joined8 none none (last (v / 10 / 10 / 10 / 10 / 10)) (last (v / 10 / 10 / 10 / 10)) (last (v / 10 / 10 / 10)) (last (v / 10 / 10)) (last (v / 10)) (last v) (moved-digits 64 6 2 v refl refl) (omega arith)
eight-joined (suc (suc (suc (suc (suc (suc (suc zero))))))) v l u h = joined8 none (last (v / 10 / 10 / 10 / 10 / 10 / 10)) (last (v / 10 / 10 / 10 / 10 / 10)) (last (v / 10 / 10 / 10 / 10)) (last (v / 10 / 10 / 10)) (last (v / 10 / 10)) (last (v / 10)) (last v) (moved-digits 64 7 1 v refl refl) (omega arith)
eight-joined (suc (suc (suc (suc (suc (suc (suc (suc zero)))))))) v l u h = joined8 (last (v / 10 / 10 / 10 / 10 / 10 / 10 / 10)) (last (v / 10 / 10 / 10 / 10 / 10 / 10)) (last (v / 10 / 10 / 10 / 10 / 10)) (last (v / 10 / 10 / 10 / 10)) (last (v / 10 / 10 / 10)) (last (v / 10 / 10)) (last (v / 10)) (last v) (moved-digits 64 8 0 v refl refl) (omega arith)
eight-joined (suc (suc (suc (suc (suc (suc (suc (suc (suc w))))))))) v l u h = absurd (omega arith)
