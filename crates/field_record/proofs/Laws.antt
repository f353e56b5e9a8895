-- The arguments of a record: read bit by bit each has its own field, and a record of the right length has room for all. Assumes nothing.
use mathlib.Core.Path.{◌≡◌, refl, sym, ap, ◌∙◌, subst}
use mathlib.Core.Bool.{Bool, true, false, not, cond}
use mathlib.Core.List.{List}
use Prim.Native.Nat.{ℕ, zero, suc, ◌+◌, ◌*◌, ◌-◌, ◌/◌, ◌%◌, ◌^◌, ◌≤◌, ◌<◌}
use native.Mathlib.Nat.{add_assoc, mod-lt, div-add-mod', div-one, mod-one, le-div_iff_mul-le, div-lt_iff_lt-mul, one-mul}
use native.Mathlib.Omega.{arith}
use borrow.Author.Tests.{eqb-true, eqb-false, le-leb, lt-leb}
use lib.Count.{ones, ones_step, ones_cat}
use lib.Dec.{eqb, leb}
use lib.Pow.{pow_pos}
use lib.ListN.{length, get_or, take, drop}
use lib.Ieee.{Float, binary64, of_bits}
use Rattle.std.specs.Prelude.{Option, Some, None, unwrap_or}
use Rattle.std.proofs.lemmas.List.{get_or-drop, length-drop, take_rest}
use Rattle.std.proofs.lemmas.Nat.{shr-shr}
use Rattle.little_endian.specs.Bytes.{little_endian}
use Rattle.field_record.specs.Inner.{given, argument_of, after}
use Rattle.field_record.specs.FieldRecord.{map_of, stands, has_length, has_other_bit, place_of, field_at, field_or}

pub right-length : (bytes : List ℕ) → has_length bytes ≡ true → length bytes ≡ 1 + 8 * ones (map_of bytes)
unfolding has_length
right-length bytes h = eqb-true (length bytes) (1 + 8 * ones (map_of bytes)) h

pub not_empty : (bytes : List ℕ) → has_length bytes ≡ true → 0 < length bytes
not_empty bytes h = omega (arith, right-length bytes h)

-- ---- the arguments: bit by bit, and each at its place
module _ (map : ℕ) (fields : List ℕ) where
  pub first_absent : eqb (map % 2) 1 ≡ false → argument_of map fields 0 ≡ None
  unfolding argument_of
  first_absent e = ap (λ (b : Bool). cond b (Some (of_bits binary64 (little_endian 8 fields 0))) None) e

  pub first_given : map % 2 ≡ 1 → argument_of map fields 0 ≡ Some (of_bits binary64 (little_endian 8 fields 0))
  unfolding argument_of
  first_given e = ap (λ (n : ℕ). cond (eqb n 1) (Some (of_bits binary64 (little_endian 8 fields 0))) None) e

  pub later_absent : eqb (map % 2) 1 ≡ false → argument_of (map / 2) fields ≡ after (argument_of map fields)
  unfolding argument_of
  later_absent e = λ j i. argument_of (map / 2) (drop (8 * (let none : 0 ≡ map % 2 = omega (arith, eqb-false (map % 2) 1 e) in none) j) fields) i

  pub later_given : map % 2 ≡ 1 → argument_of (map / 2) (take (length fields - 8) (drop 8 fields)) ≡ after (argument_of map fields)
  unfolding argument_of
  later_given e = ap (argument_of (map / 2)) (take_rest fields 8) ∙ λ j i. argument_of (map / 2) (drop (8 * sym e j) fields) i

  pub filled_absent : length fields ≡ 8 * ones map → eqb (map % 2) 1 ≡ false → length fields ≡ 8 * ones (map / 2)
  filled_absent h e = omega (arith, h, ones_step map, eqb-false (map % 2) 1 e)

  pub room : length fields ≡ 8 * ones map → map % 2 ≡ 1 → 8 ≤ length fields
  room h e = omega (arith, h, e, ones_step map)

  pub filled_given : length fields ≡ 8 * ones map → map % 2 ≡ 1 → length (take (length fields - 8) (drop 8 fields)) ≡ 8 * ones (map / 2)
  filled_given h e = ap length (take_rest fields 8) ∙ omega (arith, h, e, ones_step map, length-drop 8 fields)

-- a number's bytes, past some others
little_endian-drop : (n from : ℕ) (bytes : List ℕ) (at : ℕ) → little_endian n (drop from bytes) at ≡ little_endian n bytes (from + at)
unfolding little_endian
little_endian-drop zero from bytes at = refl
little_endian-drop (suc n) from bytes at =
    let byte : get_or (drop from bytes) (at + n) 0 ≡ get_or bytes (from + at + n) 0 = get_or-drop from bytes (at + n) 0 ∙ ap (λ (k : ℕ). get_or bytes k 0) (sym (add_assoc from at n)) in
    λ j. little_endian-drop n from bytes at j + 256 ^ n * byte j

-- the ones below a bit and those from it on are all of them
ones_split : (map i : ℕ) → ones map ≡ ones (map / 2 ^ i) + ones (map % 2 ^ i)
ones_split map i = ap ones (sym (div-add-mod' map (2 ^ i))) ∙ ones_cat i (map / 2 ^ i) (map % 2 ^ i) (mod-lt map (pow_pos i))

-- the argument of bit i: its field is past those of the lower bits that stand
abbrev placed : ℕ → List ℕ → ℕ → Option Float
placed map fields i = cond (eqb (map / 2 ^ i % 2) 1) (Some (of_bits binary64 (little_endian 8 fields (8 * ones (map % 2 ^ i))))) None

placed-later : (map : ℕ) (fields : List ℕ) (i : ℕ) → placed (map / 2) (drop (8 * (map % 2)) fields) i ≡ placed map fields (suc i)
placed-later map fields i =
    let half : map / 2 / 2 ^ i ≡ map / 2 ^ suc i = shr-shr map 1 i ∙ ap (λ (k : ℕ). map / 2 ^ k) (omega arith) in
    let lower : 8 * (map % 2) + 8 * ones (map / 2 % 2 ^ i) ≡ 8 * ones (map % 2 ^ suc i) = omega (arith, ones_step map, ones_split map (suc i), ones_split (map / 2) i, ap ones half) in
    let field : little_endian 8 (drop (8 * (map % 2)) fields) (8 * ones (map / 2 % 2 ^ i)) ≡ little_endian 8 fields (8 * ones (map % 2 ^ suc i)) =
    little_endian-drop 8 (8 * (map % 2)) fields _ ∙ ap (little_endian 8 fields) lower in
    λ j. cond (eqb (half j % 2) 1) (Some (of_bits binary64 (field j))) None

argument-placed : (map : ℕ) (fields : List ℕ) (i : ℕ) → argument_of map fields i ≡ placed map fields i
unfolding argument_of ones
argument-placed map fields zero = λ j. cond (eqb (sym (div-one map) j % 2) 1) (Some (of_bits binary64 (little_endian 8 fields (8 * ones (sym (mod-one map) j))))) None
argument-placed map fields (suc i) = argument-placed (map / 2) (drop (8 * (map % 2)) fields) i ∙ placed-later map fields i

pub filled : (bytes : List ℕ) → has_length bytes ≡ true → length (take (length bytes - 1) (drop 1 bytes)) ≡ 8 * ones (map_of bytes)
filled bytes h = ap length (take_rest bytes 1) ∙ omega (arith, right-length bytes h, length-drop 1 bytes)

-- so those of a record are its own
pub from_record : (bytes : List ℕ) → argument_of (map_of bytes) (take (length bytes - 1) (drop 1 bytes)) ≡ given bytes
unfolding given field_at place_of
from_record bytes = ap (argument_of (map_of bytes)) (take_rest bytes 1) ∙ λ j i. (argument-placed (map_of bytes) (drop 1 bytes) i ∙ λ k. cond (stands bytes i) (Some (of_bits binary64 (little_endian-drop 8 1 bytes (8 * ones (map_of bytes % 2 ^ i)) k))) None) j

-- with a value for an absent one, what a call takes the field to be
pub given_or : (bytes : List ℕ) (i : ℕ) (absent : Float) → unwrap_or (given bytes i) absent ≡ field_or bytes i absent
unfolding given field_or
given_or bytes i absent = elim (stands bytes i) as (λ b. unwrap_or (cond b (Some (field_at bytes i)) None) absent ≡ cond b (field_at bytes i) absent) [ true ↦ refl | false ↦ refl ]

-- ---- the map's bits above a call's
pub no_other : (map n : ℕ) → map / 2 ^ n ≡ 0 → leb (2 ^ n) map ≡ false
no_other map n h = lt-leb (2 ^ n) map (subst (λ (k : ℕ). map < k) (one-mul (2 ^ n)) ((div-lt_iff_lt-mul (pow_pos n)).0 (omega arith)))

pub some-other : (map n : ℕ) → (map / 2 ^ n ≡ 0 → ⊥) → leb (2 ^ n) map ≡ true
some-other map n h = le-leb (2 ^ n) map (subst (λ (k : ℕ). k ≤ map) (one-mul (2 ^ n)) ((le-div_iff_mul-le (pow_pos n)).0 (omega arith)))

-- ---- the answer of `has_other_bit`
pub other_bit : (bytes : List ℕ) (bits : ℕ) → not (eqb (map_of bytes / 2 ^ bits) 0) ≡ has_other_bit bits bytes
unfolding has_other_bit
other_bit bytes bits = go (eqb (map_of bytes / 2 ^ bits) 0) refl
  where
    go : (b : Bool) → eqb (map_of bytes / 2 ^ bits) 0 ≡ b → not b ≡ leb (2 ^ bits) (map_of bytes)
    go true e = sym (no_other (map_of bytes) bits (eqb-true _ 0 e))
    go false e = sym (some-other (map_of bytes) bits (eqb-false _ 0 e))
