-- Change request 9, in the customer's words and order: "The search in the next play log halves on raw bytes. Prove that for two instants in
-- years 0000 to 9999 the earlier has the smaller ISO text, byte by byte from the left, and that equal instants have equal text. Say in docs
-- with one example why signed years are excluded." Of the text, `iso_text`, and of the outcomes that the contracts of zovattha_to_iso_string and
-- zovattha_rewrite cite. Its terms:
--   InYears0To9999 t     "in years 0000 to 9999"                                          specs/Log.antt
--   Smaller s w          "smaller …, byte by byte from the left"                          specs/Smaller.antt
--   iso_text t           the ISO text of the instant t                                    crates/ecma262/specs/Texts.antt
--   Done o w             a call that answers 0 and writes the bytes w                     specs/Log.antt
--   Line t w             the ISO writer or rewriting writes w for t, of these years       specs/Log.antt
--   Log times lines      a log: lines, and the instant of each                            specs/Log.antt
--   NonFalling, Parts    in order; and what a search by halving finds                     specs/Log.antt
-- Assumes nothing.
use mathlib.Core.Path.{◌≡◌}
use mathlib.Core.Bool.{true}
use mathlib.Core.List.{List, map}
use mathlib.Core.Logic.{◌⊎◌, ◌↔◌}
use Prim.Native.Nat.{ℕ, ◌≤◌, ◌<◌}
use native.Mathlib.Omega.{arith}
use lib.IntN.{ℤ, pos, neg_ℤ}
use lib.Ieee.{binary64, of_bits}
use lib.ListN.{length, get_or}
use lib.Signed.{◌≤ℤ◌, ◌<ℤ◌}
use Rattle.std.specs.Prelude.{All}
use Rattle.integers.proofs.Int.{ints}
use Rattle.ecma262.specs.Date.{InRange}
use Rattle.ecma262.specs.Texts.{ascii, iso_text}
use Rattle.float.specs.Whole.{IsWhole}
use Rattle.reader.specs.Denotes.{AcceptedText}
use Rattle.writer.specs.Writer.{iso_outcome}
use Rattle.rewrite.specs.Rewrite.{rewrite_outcome}
use Rattle.log_order.specs.Smaller.{Smaller, smaller}
use Rattle.log_order.specs.Log.{InYears0To9999, Done, Line, Log, NonFalling, Parts}
use Rattle.log_order.proofs.Smaller as bytes
use Rattle.log_order.proofs.Years as years
use Rattle.log_order.proofs.Lines as lines
use Rattle.log_order.proofs.Order as order
use Rattle.log_order.proofs.Search as search
use Rattle.log_order.proofs.Examples as examples

-- ---- "byte by byte from the left"

-- the comparison, and what it computes
pub smaller-is-computed : (s w : List ℕ) → (smaller s w ≡ true) ↔ Smaller s w
smaller-is-computed = bytes.computed

-- no list is smaller than itself; what is smaller than a smaller one is smaller; of two different lists one is smaller
pub smaller-is-irreflexive : (s : List ℕ) → Smaller s s → ⊥
smaller-is-irreflexive = bytes.irreflexive

pub smaller-is-transitive : (s w v : List ℕ) → Smaller s w → Smaller w v → Smaller s v
smaller-is-transitive = bytes.transitive

pub smaller-is-total : (s w : List ℕ) → (s ≡ w → ⊥) → Smaller s w ⊎ Smaller w s
smaller-is-total = bytes.one-is-smaller

-- ---- "for two instants in years 0000 to 9999"

-- YearFromTime(t) is from 0 to 9999 exactly for these milliseconds; all of them are instants, and their ISO texts have 24 bytes
pub years-in-milliseconds : (t : ℤ) → InYears0To9999 t ↔ ((neg_ℤ (pos 62_167_219_200_000) ≤ℤ t) × (t ≤ℤ pos 253_402_300_799_999))
years-in-milliseconds t =
    let law = years.in-milliseconds t in (λ h. (omega (ints, (law.0 h).0), omega (ints, (law.0 h).1)), λ h. law.1 (omega (ints, h.0), omega (ints, h.1)))

pub years-are-in-range : (t : ℤ) → InYears0To9999 t → InRange t
years-are-in-range = years.years-in-range

pub texts-have-24-bytes : (t : ℤ) → InYears0To9999 t → length (iso_text t) ≡ 24
texts-have-24-bytes t y = omega (arith, lines.length-24 t y)

-- ---- "the earlier has the smaller ISO text …, and … equal instants have equal text": both ways

pub earlier-exactly-when-smaller : (t u : ℤ) → InYears0To9999 t → InYears0To9999 u → (t <ℤ u) ↔ Smaller (iso_text t) (iso_text u)
earlier-exactly-when-smaller = order.text-order

pub equal-exactly-when-equal : (t u : ℤ) → InYears0To9999 t → InYears0To9999 u → (t ≡ u) ↔ (iso_text t ≡ iso_text u)
equal-exactly-when-equal = order.text-equal

-- the same of the bytes that the two functions write, whichever of them wrote either line
pub earlier-line-exactly-when-smaller : {t u : ℤ} {s w : List ℕ} → Line t s → Line u w → (t <ℤ u) ↔ Smaller s w
earlier-line-exactly-when-smaller = order.line-order

pub equal-line-exactly-when-equal : {t u : ℤ} {s w : List ℕ} → Line t s → Line u w → (t ≡ u) ↔ (s ≡ w)
equal-line-exactly-when-equal = order.line-equal

-- and they write one for each instant of these years, given by any bits of it or by any text that is accepted and denotes it, into every output
-- of 24 bytes or more; so there are such lines
pub iso-writer-writes-each : (t : ℤ) → InYears0To9999 t → (time : ℕ) → IsWhole (of_bits binary64 time) t → (out : List ℕ) → 24 ≤ length out
    → Done (iso_outcome time out) (iso_text t)
iso-writer-writes-each = lines.iso-writer-done

pub rewriting-writes-each : (zone text : List ℕ) (a : AcceptedText zone text) → InYears0To9999 a.t → (out : List ℕ) → 24 ≤ length out
    → Done (rewrite_outcome zone text out) (iso_text a.t)
rewriting-writes-each = lines.rewriting-done

pub lines-exist : (t : ℤ) → InYears0To9999 t → Line t (iso_text t)
lines-exist = lines.each-line

-- ---- "The search in the next play log halves on raw bytes."

-- the texts of any instants of these years make a log
pub texts-make-a-log : (times : List ℤ) → All InYears0To9999 times → Log times (map iso_text times)
texts-make-a-log = search.texts-log

-- a log is in the order of its instants exactly when it is in the order of its bytes
pub time-order-exactly-when-byte-order : {times : List ℤ} {log : List (List ℕ)} → Log times log → NonFalling (λ t u. t <ℤ u) times ↔ NonFalling Smaller log
time-order-exactly-when-byte-order = search.in-byte-order

-- the lines smaller than a given one are those of the earlier instants, and the lines equal to it those of its own
pub smaller-lines-are-the-earlier : {times : List ℤ} {log : List (List ℕ)} → Log times log → {u : ℤ} {w : List ℕ} → Line u w
    → (k : ℕ) (t : ℤ) (line : List ℕ) → k < length log → ((get_or times k t <ℤ u) ↔ Smaller (get_or log k line) w) × ((get_or times k t ≡ u) ↔ (get_or log k line ≡ w))
smaller-lines-are-the-earlier = search.smaller-are-earlier

-- so a search by bytes finds the place that a search by time finds: in a log in time order there is exactly one
pub search-by-bytes-is-by-time : {times : List ℤ} {log : List (List ℕ)} → Log times log → {u : ℤ} {w : List ℕ} → Line u w
    → (place : ℕ) → Parts (λ t. t <ℤ u) times place ↔ Parts (λ s. Smaller s w) log place
search-by-bytes-is-by-time = search.same-place

pub search-finds-one-place : {times : List ℤ} {log : List (List ℕ)} → Log times log → NonFalling (λ t u. t <ℤ u) times → {u : ℤ} {w : List ℕ} → Line u w
    → (place : ℕ) × Parts (λ s. Smaller s w) log place × ((other : ℕ) → Parts (λ s. Smaller s w) log other → other ≡ place)
search-finds-one-place = search.exactly-one-place

-- ---- "why signed years are excluded": the year -2 is earlier than the year -1 and has the larger text, and so has 9999 before +010000

pub years-below-0-are-in-no-order : (neg_ℤ (pos 62_230_291_200_000) <ℤ neg_ℤ (pos 62_198_755_200_000))
    × (iso_text (neg_ℤ (pos 62_230_291_200_000)) ≡ ascii "-000002-01-01T00:00:00.000Z")
    × (iso_text (neg_ℤ (pos 62_198_755_200_000)) ≡ ascii "-000001-01-01T00:00:00.000Z")
    × Smaller (ascii "-000001-01-01T00:00:00.000Z") (ascii "-000002-01-01T00:00:00.000Z")
years-below-0-are-in-no-order = examples.below-0

pub years-above-9999-are-in-no-order : (pos 253_402_300_799_999 <ℤ pos 253_402_300_800_000)
    × (iso_text (pos 253_402_300_799_999) ≡ ascii "9999-12-31T23:59:59.999Z")
    × (iso_text (pos 253_402_300_800_000) ≡ ascii "+010000-01-01T00:00:00.000Z")
    × Smaller (ascii "+010000-01-01T00:00:00.000Z") (ascii "9999-12-31T23:59:59.999Z")
years-above-9999-are-in-no-order = examples.above-9999
