-- A mask of a number that is known by its bytes: each byte is masked by the mask's byte at its place.
-- Assumes nothing.
use Rattle.std.proofs.Common.{◌≡◌, ℕ, ◌+◌, ◌*◌, ◌%◌, ◌<◌, add-zero, mod-eq_of_lt, lit<}
use lib.Bits.{bit_and, and_block, and_mask, and_zero_r}

module _ (a b c d : ℕ) (ha : a < 256) (hb : b < 256) (hc : c < 256) where
  pub mask-0_f : bit_and (((d * 256 + c) * 256 + b) * 256 + a) 0x0F0F_0F0F ≡ ((d % 16 * 256 + c % 16) * 256 + b % 16) * 256 + a % 16
  mask-0_f =
      rw (
        and_block 8 ((d * 256 + c) * 256 + b) 0x0F_0F0F a 0x0F ha (lit< tt),
        and_block 8 (d * 256 + c) 0x0F0F b 0x0F hb (lit< tt),
        and_block 8 d 0x0F c 0x0F hc (lit< tt),
        and_mask a 4,
        and_mask b 4,
        and_mask c 4,
        and_mask d 4,
      )

pub mask-FF : (a b c : ℕ) → a < 256 → b < 256 → c < 256 → bit_and ((c * 256 + b) * 256 + a) 0x00FF_00FF ≡ c * 256 * 256 + a
mask-FF a b c ha hb hc =
    rw (
      and_block 8 (c * 256 + b) 0xFF00 a 0xFF ha (lit< tt),
      and_block 8 c 0xFF b 0 hb (lit< tt),
      and_zero_r,
      and_mask a 8,
      and_mask c 8,
      mod-eq_of_lt ha,
      mod-eq_of_lt hc,
      add-zero,
    )

-- the three masks of eight bytes
module _ (a b c d e f g h : ℕ) (ha : a < 256) (hb : b < 256) (hc : c < 256) (hd : d < 256) (he : e < 256) (hf : f < 256) (hg : g < 256) where
  pub mask8-0_f : bit_and (((((((h * 256 + g) * 256 + f) * 256 + e) * 256 + d) * 256 + c) * 256 + b) * 256 + a) 0x0F0F_0F0F_0F0F_0F0F
      ≡ ((((((h % 16 * 256 + g % 16) * 256 + f % 16) * 256 + e % 16) * 256 + d % 16) * 256 + c % 16) * 256 + b % 16) * 256 + a % 16
  mask8-0_f =
      rw (
        and_block 8 _ 0x0F_0F0F_0F0F_0F0F a 0x0F ha (lit< tt),
        and_block 8 _ 0x0F0F_0F0F_0F0F b 0x0F hb (lit< tt),
        and_block 8 _ 0x0F_0F0F_0F0F c 0x0F hc (lit< tt),
        and_block 8 _ 0x0F0F_0F0F d 0x0F hd (lit< tt),
        and_block 8 _ 0x0F_0F0F e 0x0F he (lit< tt),
        and_block 8 _ 0x0F0F f 0x0F hf (lit< tt),
        and_block 8 _ 0x0F g 0x0F hg (lit< tt),
        and_mask a 4,
        and_mask b 4,
        and_mask c 4,
        and_mask d 4,
        and_mask e 4,
        and_mask f 4,
        and_mask g 4,
        and_mask h 4,
      )

pub mask8-FF : (a b c d : ℕ) → a < 65536 → b < 65536 → c < 65536
    → bit_and (((d * 65536 + c) * 65536 + b) * 65536 + a) 0x00FF_00FF_00FF_00FF ≡ ((d % 256 * 65536 + c % 256) * 65536 + b % 256) * 65536 + a % 256
mask8-FF a b c d ha hb hc =
    rw (
      and_block 16 _ 0x00FF_00FF_00FF a 0xFF ha (lit< tt),
      and_block 16 _ 0x00FF_00FF b 0xFF hb (lit< tt),
      and_block 16 d 0xFF c 0xFF hc (lit< tt),
      and_mask a 8,
      and_mask b 8,
      and_mask c 8,
      and_mask d 8,
    )

pub mask8-FFFF : (a b : ℕ) → a < 4294967296 → bit_and (b * 4294967296 + a) 0x0000_FFFF_0000_FFFF ≡ b % 65536 * 4294967296 + a % 65536
mask8-FFFF a b ha = rw (and_block 32 b 0xFFFF a 0xFFFF ha (lit< tt), and_mask a 16, and_mask b 16)
