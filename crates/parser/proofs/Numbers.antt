-- The readers of numbers read exactly the numbers that are written in as many digits. Assumes nothing.
use mathlib.Core.Path.{◌≡◌, refl, sym, ap, ap₂, ◌∙◌}
use mathlib.Core.Bool.{Bool, true, false, cond}
use mathlib.Core.List.{List, [], ◌∷◌, ◌++◌}
use Prim.Native.Nat.{ℕ, zero, suc, ◌+◌, ◌-◌, ◌*◌, ◌/◌, ◌%◌, ◌^◌, ◌≤◌, ◌<◌}
use native.Mathlib.Nat.{pow-suc, mul_assoc, mul_comm, add-mul, div-add-mod', mod-lt}
use native.Mathlib.Omega.{arith}
use lib.Dec.{leb, eqb}
use borrow.Author.Tests.{le-leb, leb-true, eqb-true, eq-eqb}
use Rattle.ecma262.specs.Digits.{digits}
use Rattle.ecma262.proofs.Digits.{digits-cons, digits-split, first-digit, ten-pos}
use Rattle.parser.specs.Reading.{Out, ok, fault, Number, number, bind, digits_after, digits_upto, no_digit, all_of, all_digits, within, field, after}
use Rattle.parser.specs.Inner.{NotDigit}

-- what n digits that write w make of the digits v before them
grown : (n v d w : ℕ) → (10 * v + d) * 10 ^ n + w ≡ v * 10 ^ suc n + (d * 10 ^ n + w)
grown n v d w =
    let a : (10 * v + d) * 10 ^ n ≡ 10 * v * 10 ^ n + d * 10 ^ n = add-mul (10 * v) d (10 ^ n) in
    let b : 10 * v * 10 ^ n ≡ 10 * (v * 10 ^ n) = mul_assoc 10 v (10 ^ n) in
    let c : v * 10 ^ suc n ≡ v * 10 ^ n * 10 = rw pow-suc (sym (mul_assoc v (10 ^ n) 10)) in
    omega arith

-- ---- what is read is written

-- of at most n digits after `count` ones that write v some are read, with t left: with those before they are `all`, and write u
record Written (n v count : ℕ) (s : List ℕ) (u all : ℕ) (t : List ℕ) : Type 0 where
  taken : ℕ
  upto : taken ≤ n
  counted : all ≡ count + taken
  value : ℕ
  small : value < 10 ^ taken
  whole : u ≡ v * 10 ^ taken + value
  word : s ≡ digits taken value ++ t

none-read : (n v count : ℕ) (s : List ℕ) (u all : ℕ) (t : List ℕ) → ok (number v count) s ≡ ok (number u all) t → Written n v count s u all t
none-read n v count s u all t e =
    let z : v ≡ u = cc in
    let c : count ≡ all = cc in
    let q : s ≡ t = cc in
    record { taken = 0; upto = omega arith; counted = omega arith; value = 0; small = omega arith; whole = omega arith; word = q }

digits-read : (n v count : ℕ) (s : List ℕ) (u all : ℕ) (t : List ℕ) → digits_after n v count s ≡ ok (number u all) t → Written n v count s u all t
unfolding digits_after
digits-read zero v count s u all t e = none-read zero v count s u all t e
digits-read (suc n) v count [] u all t e = none-read (suc n) v count [] u all t e
digits-read (suc n) v count (b ∷ s) u all t e = go (leb 48 b) (leb b 57) refl refl (digits-read n (10 * v + (b - 48)) (count + 1) s u all t) e
  where
    go : (x y : Bool) → leb 48 b ≡ x → leb b 57 ≡ y → (digits_after n (10 * v + (b - 48)) (count + 1) s ≡ ok (number u all) t → Written n (10 * v + (b - 48)) (count + 1) s u all t)
        → cond (cond x y false) (digits_after n (10 * v + (b - 48)) (count + 1) s) (ok (number v count) (b ∷ s)) ≡ ok (number u all) t → Written (suc n) v count (b ∷ s) u all t
    go true true h g more e =
        let r = more e in
        let d : b - 48 ≤ 9 = omega (arith, leb-true b 57 g) in
        let c : 48 + (b - 48) ≡ b = omega (arith, leb-true 48 b h) in
        record {
          taken = suc r.taken;
          upto = omega (arith, r.upto);
          counted = omega (arith, r.counted);
          value = (b - 48) * 10 ^ r.taken + r.value;
          small = rw (pow-suc) (omega (arith, r.small, mul_comm (b - 48) (10 ^ r.taken), native.Mathlib.Nat.mul-le-mul_right (10 ^ r.taken) d));
          whole = r.whole ∙ grown r.taken v (b - 48) r.value;
          word = rw (digits-cons r.taken (b - 48) r.value d r.small, c) (ap (λ l. b ∷ l) r.word);
        }
    go true false h g more e = none-read (suc n) v count (b ∷ s) u all t e
    go false y h g more e = none-read (suc n) v count (b ∷ s) u all t e

-- ---- what is written is read, where no digit follows or all are taken

pub none-written : (n v count : ℕ) (t : List ℕ) → (0 < n → NotDigit t) → digits_after n v count t ≡ ok (number v count) t
unfolding digits_after
none-written zero v count t h = refl
none-written (suc n) v count [] h = refl
none-written (suc n) v count (b ∷ t) h = rw (h (omega arith))

digits-written : (n k v count w : ℕ) (t : List ℕ) → k ≤ n → w < 10 ^ k → (k < n → NotDigit t) → digits_after n v count (digits k w ++ t) ≡ ok (number (v * 10 ^ k + w) (count + k)) t
unfolding digits_after
digits-written n zero v count w t l h q =
    let e : v ≡ v * 1 + w = omega arith in
    let c : count ≡ count + 0 = omega arith in
    none-written n v count t q ∙ ap₂ (λ x y. ok (number x y) t) e c
digits-written zero (suc k) v count w t l h q = absurd (omega arith)
digits-written (suc n) (suc k) v count w t l h q =
    let d = w / 10 ^ k in
    let m : d ≤ 9 = first-digit k w h in
    let e : 48 + d - 48 ≡ d = omega arith in
    let g : 48 ≤ 48 + d = omega arith in
    let u : 48 + d ≤ 57 = omega arith in
    let c : count + 1 + k ≡ count + suc k = omega arith in
    rw (digits-split k w h)
    (simp (le-leb _ _ g, le-leb _ _ u, e)
    (digits-written n k (10 * v + d) (count + 1) (w % 10 ^ k) t (omega arith) (mod-lt w (ten-pos k)) (λ i. q (omega arith))
    ∙ ap₂ (λ x y. ok (number x y) t) (grown k v d (w % 10 ^ k) ∙ ap (λ x. v * 10 ^ suc k + x) (div-add-mod' w (10 ^ k))) c))

-- ---- from the start of a number

pub record IsNumber (count v : ℕ) (s t : List ℕ) : Type 0 where
  pub small : v < 10 ^ count
  pub word : s ≡ digits count v ++ t

-- at most n digits
pub upto_read : (n : ℕ) {s : List ℕ} {v count : ℕ} {t : List ℕ} → digits_upto n s ≡ ok (number v count) t → (count ≤ n) × IsNumber count v s t
upto_read n {s} {v} {count} {t} e =
    let r = digits-read n 0 0 s v count t e in
    let c : r.taken ≡ count = omega (arith, r.counted) in
    let q : r.value ≡ v = omega (arith, r.whole) in
    (omega (arith, r.upto, r.counted), record { small = rw (q, c) at r.small; word = rw (q, c) at r.word })

pub upto-written : (n count v : ℕ) (t : List ℕ) → count ≤ n → v < 10 ^ count → (count < n → NotDigit t) → digits_upto n (digits count v ++ t) ≡ ok (number v count) t
upto-written n count v t l h q =
    let e : 0 * 10 ^ count + v ≡ v = omega arith in
    let c : 0 + count ≡ count = omega arith in
    digits-written n count 0 0 v t l h q ∙ ap₂ (λ x y. ok (number x y) t) e c

-- all n digits
pub number_read : (n : ℕ) {s : List ℕ} {v : ℕ} {t : List ℕ} → all_digits n s ≡ ok v t → IsNumber n v s t
unfolding after all_of
number_read n {s} {v} {t} e = go (digits_upto n s) refl e
  where
    pick : (w count : ℕ) (u : List ℕ) → digits_upto n s ≡ ok (number w count) u → (x : Bool) → eqb count n ≡ x → cond x (ok w u) (fault (no_digit u)) ≡ ok v t → IsNumber n v s t
    pick w count u h true g e =
        let c : count ≡ n = eqb-true count n g in
        let q : w ≡ v = cc in
        let r : u ≡ t = cc in
        rw (c, q, r) at (upto_read n h).1
    pick w count u h false g e = cc

    go : (o : Out Number) → digits_upto n s ≡ o → bind o (all_of n) ≡ ok v t → IsNumber n v s t
    go (ok (number w count) u) h e = pick w count u h (eqb count n) refl e
    go (fault f) h e = cc

pub number-written : (n v : ℕ) (t : List ℕ) → v < 10 ^ n → all_digits n (digits n v ++ t) ≡ ok v t
unfolding after all_of
number-written n v t h = rw (upto-written n n v t (omega arith) h (λ l. absurd (omega arith)), eq-eqb n n refl)

pub record Field (low high v : ℕ) (s t : List ℕ) : Type 0 where
  pub from : low ≤ v
  pub to : v ≤ high
  pub word : s ≡ digits 2 v ++ t

pub field-written : (low high v : ℕ) (t : List ℕ) → low ≤ v → v ≤ high → high ≤ 99 → field low high (digits 2 v ++ t) ≡ ok v t
unfolding after within
field-written low high v t a b c = rw (number-written 2 v t (omega arith)) (simp (le-leb _ _ a, le-leb _ _ b))
