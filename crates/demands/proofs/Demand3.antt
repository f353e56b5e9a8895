-- Demand 3, in the customer's words and order, of the outcomes that the C functions' contracts cite: `iso_outcome` (zovattha_to_iso_string),
-- `read_outcome` (zovattha_read) and `rewrite_outcome` (zovattha_rewrite). A time value is its 64 bits, `time_bits t`. Its terms:
--   InRange t            "each whole millisecond t within 8,640,000,000,000,000 of zero"          crates/ecma262/specs/Date.antt
--   iso_text t            the text that denotes t                                                   crates/ecma262/specs/Texts.antt
--   Written w            a text "of 01's written form"                                            crates/ecma262/specs/Written.antt
--   Denotes zone w t     "denotes t by demand 2's definition"                                     crates/reader/specs/Denotes.antt
--   Accepted zone        an "accepted zone list"                                                  crates/zone/specs/Zone.antt
--   AcceptedText zone w  a text "accepted under it"                                               crates/reader/specs/Denotes.antt
--   run_of o              "the bytes a call writes"                                                crates/rewrite/specs/Rewrite.antt
--   with_three f         the form f with its decimals in thousandths: `.5` is `.500`               crates/demands/specs/Terms.antt
-- "Demand 3 is about outputs at least as long as the text to be written." The proofs rest on crates/rewrite/proofs/Runs.antt and
-- what it cites.
-- Assumes nothing.
use mathlib.Core.Path.{◌≡◌}
use mathlib.Core.List.{List, ◌++◌}
use mathlib.Core.Logic.{◌↔◌}
use Prim.Native.Nat.{ℕ, ◌≤◌}
use lib.IntN.{ℤ}
use lib.ListN.{length, replicate}
use Rattle.ecma262.specs.Date.{InRange}
use Rattle.ecma262.specs.Digits.{digits}
use Rattle.ecma262.specs.Format.{Year, Date, Form, Bounds, prints, prints_year, prints_date}
use Rattle.ecma262.specs.Format.Time.{toDecimals}
use Rattle.ecma262.specs.Format.Zone.{zulu}
use Rattle.ecma262.specs.Format.Form.{timed}
use Rattle.ecma262.specs.Texts.{ascii, iso_text}
use Rattle.ecma262.specs.Written.{Written}
use Rattle.zone.specs.Zone.{Accepted}
use Rattle.std.specs.Prelude.{Ok}
use Rattle.answer.specs.Answer.{time_bits, text_reply}
use Rattle.reader.specs.Denotes.{Denotes, AcceptedText}
use Rattle.reader.specs.Outcome.{read_outcome}
use Rattle.writer.specs.Writer.{iso_outcome}
use Rattle.rewrite.specs.Rewrite.{rewrite_outcome, run_of}
use Rattle.rewrite.proofs.Runs as runs
use Rattle.demands.specs.Terms.{with_three}
use Rattle.demands.proofs.Cases as cases
use Rattle.demands.proofs.Decimals as decimals

-- Accepted lists exist, so none of the clauses is empty: the list (0, 0), 12 bytes of 0, is one.
pub accepted-lists-exist : Accepted (replicate 12 0)
accepted-lists-exist = cases.accepted-lists-exist

-- "For each whole millisecond t within 8,640,000,000,000,000 of zero, exactly one text of 01's written form denotes t by demand 2's
-- definition": under every list there is one, it is the same for all, and any other that denotes t is it.
pub exactly-one-text : (t : ℤ) → InRange t
    → Written (iso_text t) × ((zone : List ℕ) → Denotes zone (iso_text t) t × ((w : List ℕ) → Written w → Denotes zone w t → w ≡ iso_text t))
exactly-one-text = runs.exactly-one-text

-- "the ISO writer gives it": its answer is 0 with t and the text's length, and the bytes that it writes are the text
pub iso-writer-gives-it : (t : ℤ) → InRange t → (out : List ℕ) → length (iso_text t) ≤ length out
    → ((iso_outcome (time_bits t) out).reply ≡ text_reply (time_bits t) (length (iso_text t))) × (run_of (iso_outcome (time_bits t) out) ≡ iso_text t)
iso-writer-gives-it = runs.iso-writer-gives-it

-- "and the reader, whatever accepted zone list it is lent, returns t from it"
pub reader-returns-t : (zone : List ℕ) → Accepted zone → (t : ℤ) → InRange t → read_outcome zone (iso_text t) ≡ Ok (time_bits t)
reader-returns-t = runs.reader-returns-t

-- an output at least as long as the text to be written for an accepted text
abbrev pub Enough : {zone text : List ℕ} → AcceptedText zone text → List ℕ → Type 0
Enough a out = length (iso_text a.t) ≤ length out

-- "For every accepted zone list and any two texts accepted under it, the two rewrite to equal bytes exactly when they denote one instant",
-- each into an output of its own
pub equal-bytes-exactly-when-one-instant : (zone s u : List ℕ) (a : AcceptedText zone s) (b : AcceptedText zone u) (out out' : List ℕ) → Enough a out → Enough b out'
    → (run_of (rewrite_outcome zone s out) ≡ run_of (rewrite_outcome zone u out')) ↔ ((t : ℤ) × Denotes zone s t × Denotes zone u t)
equal-bytes-exactly-when-one-instant = runs.equal-bytes-exactly-when-one-instant

-- "each rewrites to the one written text for its instant": with number 0, that instant and the text's length
pub rewrites-to-the-text : (zone text : List ℕ) (a : AcceptedText zone text) (out : List ℕ) → Enough a out
    → ((rewrite_outcome zone text out).reply ≡ text_reply (time_bits a.t) (length (iso_text a.t)))
    × (run_of (rewrite_outcome zone text out) ≡ iso_text a.t)
rewrites-to-the-text = runs.rewrites-to-the-text

-- "and rewriting that again, under any accepted list, gives the same bytes and instant": "Rewriting again lends just that run as the text."
pub rewriting-again : (zone text : List ℕ) (a : AcceptedText zone text) (out : List ℕ) → Enough a out
    → (zone' : List ℕ) → Accepted zone' → (out' : List ℕ) → Enough a out'
    → ((rewrite_outcome zone' (run_of (rewrite_outcome zone text out)) out').reply ≡ (rewrite_outcome zone text out).reply)
    × (run_of (rewrite_outcome zone' (run_of (rewrite_outcome zone text out)) out') ≡ run_of (rewrite_outcome zone text out))
rewriting-again = runs.rewriting-again

-- ---- 02, change request 8: "Rewriting always prints three digits", and one or two decimals rewrite as three do. A text of the format and
-- the one with zeros written in are accepted together, and rewrite to equal bytes
pub zeros-rewrite-alike : (zone : List ℕ) (f : Form) → Bounds f
    → (AcceptedText zone (prints f) ↔ AcceptedText zone (prints (with_three f)))
    × ((a : AcceptedText zone (prints f)) (b : AcceptedText zone (prints (with_three f))) (out out' : List ℕ) → Enough a out → Enough b out'
    → run_of (rewrite_outcome zone (prints f) out) ≡ run_of (rewrite_outcome zone (prints (with_three f)) out'))
zeros-rewrite-alike zone f k = (decimals.accepted-together zone f k, same)
  where
    same : (a : AcceptedText zone (prints f)) (b : AcceptedText zone (prints (with_three f))) (out out' : List ℕ) → Enough a out → Enough b out'
        → run_of (rewrite_outcome zone (prints f) out) ≡ run_of (rewrite_outcome zone (prints (with_three f)) out')
    same a b out out' l l' =
        (equal-bytes-exactly-when-one-instant zone (prints f) (prints (with_three f)) a b out out' l l').1
        (a.t, a.denotes, (decimals.with-three-denotes zone f k a.t).0 a.denotes)

-- a text to the minute, and what stands behind it
abbrev pub to_minute : Year → Date → ℕ → ℕ → List ℕ → List ℕ
to_minute y d h m rest = prints_year y ++ (prints_date d ++ (ascii "T" ++ digits 2 h ++ ascii ":" ++ digits 2 m ++ rest))

-- so `…:00.5Z` and `…:00.500Z`
pub half-second-rewrites-alike : (zone : List ℕ) (y : Year) (d : Date) (h m : ℕ) → Bounds (timed y d (toDecimals h m 0 1 5) zulu)
    → (AcceptedText zone (to_minute y d h m (ascii ":00.5Z")) ↔ AcceptedText zone (to_minute y d h m (ascii ":00.500Z")))
    × ((a : AcceptedText zone (to_minute y d h m (ascii ":00.5Z"))) (b : AcceptedText zone (to_minute y d h m (ascii ":00.500Z"))) (out out' : List ℕ)
    → Enough a out → Enough b out'
    → run_of (rewrite_outcome zone (to_minute y d h m (ascii ":00.5Z")) out) ≡ run_of (rewrite_outcome zone (to_minute y d h m (ascii ":00.500Z")) out'))
half-second-rewrites-alike zone y d h m k = zeros-rewrite-alike zone (timed y d (toDecimals h m 0 1 5) zulu) k
