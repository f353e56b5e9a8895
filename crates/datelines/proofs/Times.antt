-- Bits of a time of the range: the whole number that they stand for, the ISO writer's outcome on them, and that the reader answers no others.
-- Assumes nothing.
use mathlib.Core.Path.{◌≡◌, sym, ap, ap₂, ◌∙◌}
use mathlib.Core.List.{List, ◌++◌}
use Prim.Native.Nat.{ℕ, ◌^◌, ◌≤◌, ◌<◌}
use native.Mathlib.Omega.{arith}
use lib.IntN.{ℤ, pos, negsuc}
use lib.Signed.{mag}
use lib.ListN.{length, drop}
use lib.Ieee.{binary64, of_int, of_bits, to_signed}
use lib.Ieee.Bits.{of_bits-to_bits}
use lib.Ieee.Fits.{of_int-fits}
use Rattle.ecma262.specs.Date.{InRange}
use Rattle.ecma262.specs.Texts.{iso_text}
use Rattle.float.specs.Whole.{IsWhole, trunc_z}
use Rattle.float.proofs.Whole.{of_int-whole}
use Rattle.float.proofs.Rounding.{trunc_z-whole}
use Rattle.float.proofs.Casts.{to_signed-whole}
use Rattle.std.specs.Prelude.{Ok}
use Rattle.answer.specs.Answer.{text_reply}
use Rattle.writer.specs.Outcome.{written}
use Rattle.writer.specs.Writer.{iso_outcome}
use Rattle.writer.proofs.Outcomes.{written-whole, iso-writes}
use Rattle.reader.specs.Outcome.{read_outcome}
use Rattle.reader.proofs.Denotation.{accepted-exactly, reads-instant}
use Rattle.datelines.specs.Lines.{iso_of_bits, IsTimeBits}

mag-small : (z : ℤ) → InRange z → mag z < 2 ^ 63
mag-small (pos n) h = omega arith
mag-small (negsuc n) h = omega arith

module _ {bits : ℕ} (b : IsTimeBits bits) where
  whole : IsWhole (of_int binary64 b.time) b.time
  whole = let h : InRange b.time = b.inside in of_int-whole binary64 b.time (omega arith)

  back : of_bits binary64 bits ≡ of_int binary64 b.time
  back = ap (of_bits binary64) b.bits_are ∙ of_bits-to_bits binary64 (of_int binary64 b.time) (of_int-fits binary64 b.time)

  pub whole-time : trunc_z (of_bits binary64 bits) ≡ b.time
  whole-time = ap trunc_z back ∙ trunc_z-whole whole

  -- cast to 64 bits it is that number
  pub cast-time : to_signed 63 (of_bits binary64 bits) ≡ trunc_z (of_bits binary64 bits)
  cast-time = let h : InRange b.time = b.inside in ap (to_signed 63) back ∙ to_signed-whole 63 whole (mag-small b.time h) ∙ sym whole-time

  pub iso-outcome : (out : List ℕ) → length (iso_of_bits bits) ≤ length out
      → iso_outcome bits out ≡ record { reply = text_reply bits (length (iso_of_bits bits)); output = iso_of_bits bits ++ drop (length (iso_of_bits bits)) out }
  unfolding iso_of_bits
  iso-outcome out l =
      ap (λ (n : ℕ). iso_outcome n out) b.bits_are ∙ iso-writes b.time b.inside out
      ∙ ap₂ (λ (n : ℕ) (z : ℤ). written n (iso_text z) out) (sym b.bits_are) (sym whole-time) ∙ written-whole bits (iso_of_bits bits) out l

-- the reader's times are of the range
pub read-bits : (zone text : List ℕ) (bits : ℕ) → read_outcome zone text ≡ Ok bits → IsTimeBits bits
read-bits zone text bits e =
    let a = (accepted-exactly zone text).1 (bits, e) in
    record { time = a.t; inside = a.inside; bits_are = cc ((reads-instant zone text a.list a.t a.inside).1 a.denotes) }
