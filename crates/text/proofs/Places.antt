-- A number's last n digits, written from the last place to the first. Assumes nothing.
use mathlib.Core.Path.{◌≡◌, sym, ap, ◌∙◌}
use mathlib.Core.List.{List, ◌∷◌}
use Prim.Native.Nat.{ℕ, zero, suc, ◌+◌, ◌-◌, ◌*◌, ◌/◌, ◌%◌, ◌^◌, ◌≤◌, ◌<◌}
use native.Mathlib.Nat.{pow-suc, div-one, div-div-eq-div-mul}
use native.Mathlib.Omega.{arith}
use lib.ListN.{length, drop, set, replicate, length-replicate, length-set}
use lib.Seq.{drop-length}
use Rattle.std.proofs.Math.Nat.{div-lt_iff_lt-mul}
use Rattle.std.proofs.lemmas.List.{drop-set}
use Rattle.ecma262.specs.Digits.{digit, digits}
use Rattle.ecma262.proofs.Digits.{digits_mod, digits-join}

-- from the place i on the bytes are t's digits, and `rest` is what is left of t before them
pub record FromPlace (n t i rest : ℕ) (bytes : List ℕ) : Type 0 where
  pub long : length bytes ≡ n
  pub rest-is : rest ≡ t / 10 ^ (n - i)
  pub written : drop i bytes ≡ digits (n - i) t

-- a digit more before the last k
first : (k t : ℕ) → digit (t / 10 ^ k % 10) ∷ digits k t ≡ digits (suc k) t
first k t =
    ap (λ (l : List ℕ). digit (t / 10 ^ k % 10) ∷ l) (sym (digits_mod k t))
    ∙ digits-join 1 k t
    ∙ ap (λ (n : ℕ). digits n t) (let e : 1 + k ≡ suc k = omega arith in e)

pub no_place : (n t : ℕ) → FromPlace n t n t (replicate n 48)
no_place n t =
    let e : n - n ≡ 0 = omega arith in
    let l : length (replicate {A = ℕ} n 48) ≡ n = length-replicate n 48 in
    record {
      long = l;
      rest-is = rw e (sym (div-one t));
      written = rw e (ap (λ (k : ℕ). drop k (replicate {A = ℕ} n 48)) (sym l) ∙ drop-length (replicate {A = ℕ} n 48));
    }

pub next_place : (n t i rest d : ℕ) (bytes : List ℕ) → d ≡ 48 + rest % 10 → 0 < i → i ≤ n → FromPlace n t i rest bytes → FromPlace n t (i - 1) (rest / 10) (set bytes (i - 1) d)
next_place n t i rest d bytes is some within p =
    let places : n - (i - 1) ≡ suc (n - i) = omega arith in
    let h : i - 1 < length bytes = omega (arith, p.long) in
    let j : i - 1 + 1 ≡ i = omega arith in
    record {
      long = length-set bytes (i - 1) d ∙ p.long;
      rest-is = rw (places, pow-suc, p.rest-is) (div-div-eq-div-mul t (10 ^ (n - i)) 10);
      written = drop-set bytes (i - 1) d h ∙ rw (is, j, p.written, places, p.rest-is) (first (n - i) t);
    }

pow-positive : (k : ℕ) → 0 < 10 ^ k
pow-positive zero = omega arith
pow-positive (suc k) = let more = pow-positive k in rw (pow-suc 10 k) (omega (arith, more))

-- of a number of n digits, what is left before the last n - 1 is a digit
leading : (k t : ℕ) → t < 10 ^ suc k → t / 10 ^ k < 10
leading k t h = let few : t < 10 ^ k * 10 = rw (← pow-suc) h in (div-lt_iff_lt-mul (pow-positive k)).1 (omega (arith, few))

pub highest : (n t rest : ℕ) (bytes : List ℕ) → 1 ≤ n → t < 10 ^ n → FromPlace n t 1 rest bytes → rest % 10 ≡ rest
highest zero t rest bytes some few p = absurd (let none : ⊥ = omega arith in none)
highest (suc k) t rest bytes some few p =
    let e : suc k - 1 ≡ k = omega arith in
    let small : rest < 10 = rw (p.rest-is, e) (leading k t few) in
    omega (arith, small)

pub all_places : (n t i rest : ℕ) (bytes : List ℕ) → i ≤ 0 → FromPlace n t i rest bytes → bytes ≡ digits n t
all_places n t i rest bytes none p =
    let e : i ≡ 0 = omega arith in
    let k : n - 0 ≡ n = omega arith in
    rw (e, k) at p.written
