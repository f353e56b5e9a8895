-- The whole part and the floor of the number that a bit pattern of binary64 stands for, and their patterns. Assumes nothing.
use Rattle.std.proofs.Common.{◌≡◌, ℕ, zero, suc, ◌+◌, ◌-◌, ◌*◌, ◌/◌, ◌%◌, ◌^◌, ◌<◌, ◌≤◌, Bool, true, false, cond, not, T, eqb, ltb, ◌⊎◌, sym, refl, ap, ◌∙◌, subst, inl, inr, ⊎_elim, lt_of_lt_of_le, lt_of_le_of_lt, add-zero, lt_irrefl, mul-le-mul_right, mod-lt, mod-eq_of_lt, zero-lt-suc, mul_assoc, suc-mul, mul_comm, div-lt_iff_lt-mul, add-mul, add_comm, le_antisymm, mul-pos, one-mul, div-add-mod', zero-mul, mul-one, mul_right_comm, div-mul-le_self, div-one, mul-div_cancel, arith, lit<, eqb→eq, ltb→lt, lt→ltb, nltb→le, pow_pos, pow_mono, pow-add, shl_lt}
use Prim.Native.Nat.{compare}
use native.Mathlib.Nat.{eq_of_mul-eq-mul_right, mul-mod_left, div-eq_of_lt, mul-div-mul_right, add-mul-div_right, pow-succ'}
use lib.Arith.{le→nltb}
use lib.Dec.{not_T}
use lib.Pow.{pow-lt}
use lib.Ieee.{Float, nan, inf, fin, binary64, is_nan, size, nearest, odd, units, round, of_fields, of_bits, up, down}
use lib.Ieee.Fits.{round-fits}
use lib.Ieee.Bits.{is_true, is_false, cond_no, of_bits-fits}
use lib.Ieee.Exact.{HasValue, odd_sign, round_exact}
use lib.Ieee.Back.{whole_unique}
use Rattle.float.specs.Rounding.{trunc_f, floor_f}
use Rattle.float.proofs.Patterns.{pat, read, fields}
use Rattle.float.specs.Inner.{fraction_bits, lead, place, mag}
use Rattle.float.proofs.Fractions as frac
use Rattle.float.proofs.Fractions.{ceil, ceil-same, ceil-exact, ceil-more}
use Rattle.float.proofs.Rounding.{whole_number, trunc-fin, floor-fin, trunc-value, floor-value}

-- ---- a finite pattern's magnitude, in units of 2 ^ -1074

pub lead-lt : (x t : ℕ) → t < 4503599627370496 → lead x t < 2 ^ 53
lead-lt zero t H = omega arith
lead-lt (suc x) t H = omega arith

pub place-le : (x n : ℕ) → x ≤ suc n → place x ≤ n
place-le zero n h = omega arith
place-le (suc x) n h = omega arith

not-ones : (x : ℕ) → suc x < 2047 → suc x ≡ 2047 → ⊥
not-ones x h e = omega arith

fields-odd : (s : Bool) (x t : ℕ) → x < 2047 → of_fields binary64 s x t ≡ odd 53 s (lead x t) (place x) 1074
unfolding of_fields
fields-odd s zero t X = refl
fields-odd s (suc x) t X =
    cond_no (eqb (suc x) 2047) (cond (eqb t 0) (inf s) nan) (odd 53 s (4503599627370496 + t) x 1074) (not_T (eqb (suc x) 2047) (λ (u : T (eqb (suc x) 2047)). not-ones x X (eqb→eq (suc x) 2047 u)))

pub fields-val : (s : Bool) (x t : ℕ) → x < 2047 → HasValue (of_fields binary64 s x t) s (mag x t) (2 ^ 1074)
fields-val s x t X = subst (λ (v : Float). HasValue v s (mag x t) (2 ^ 1074)) (sym (fields-odd s x t X)) (odd_sign 53 s (lead x t) (place x) 1074)

-- a magnitude below some power of two
pub mag-lt : (x t n : ℕ) → t < 4503599627370496 → x ≤ suc n → mag x t < 2 ^ (53 + n)
mag-lt x t n H h = lt_of_lt_of_le (shl_lt 53 (place x) (lead-lt x t H)) (pow_mono (more (place x) n (place-le x n h)))
  where
    more : (a b : ℕ) → a ≤ b → 53 + a ≤ 53 + b
    more a b h = omega arith

-- ---- a float whose magnitude is the whole number n is `whole_number s n`

unit : (v : Float) (s : Bool) (n : ℕ) → HasValue v s (n * 2 ^ 1074) (2 ^ 1074) → HasValue v s n 1
unit nan s n h = h
unit (inf t) s n h = h
unit (fin t m e) s n h =
    (h.0, mul-one (m * up e) ∙ eq_of_mul-eq-mul_right (2 ^ 1074) (pow_pos 1074) (m * up e) (n * down e) (h.1 ∙ mul_right_comm n (2 ^ 1074) (down e)))

pub whole-pattern : (s : Bool) (x t n : ℕ) → x < 2047 → t < 4503599627370496 → mag x t ≡ n * 2 ^ 1074 → of_bits binary64 (pat s x t) ≡ whole_number s n
whole-pattern s x t n X H e =
    let v : HasValue (of_bits binary64 (pat s x t)) s n 1 =
    unit (of_bits binary64 (pat s x t)) s n
    (subst (λ (a : ℕ). HasValue (of_bits binary64 (pat s x t)) s a (2 ^ 1074)) e
    (subst (λ (w : Float). HasValue w s (mag x t) (2 ^ 1074)) (sym (read s x t (wider x X) H)) (fields-val s x t X))) in
    whole_unique binary64 (of_bits binary64 (pat s x t)) (whole_number s n) s n (of_bits-fits binary64 (pat s x t)) (round-fits binary64 s n 1) v
    (round_exact binary64 s n 1 (lead x t) (place x) (zero-lt-suc 0) (lead-lt x t H) (mag-lt x t 2045 H (under x X)) (sym e ∙ sym (mul-one (mag x t))))
  where
    wider : (x : ℕ) → x < 2047 → x < 2048
    wider x h = omega arith

    under : (x : ℕ) → x < 2047 → x ≤ suc 2045
    under x h = omega arith

-- ---- `trunc_f` and `floor_f` of a float, by its magnitude in those units

trunc-val : (v : Float) (s : Bool) (n : ℕ) → HasValue v s n (2 ^ 1074) → trunc_f v ≡ whole_number s (n / 2 ^ 1074)
trunc-val v s n h = trunc-value v s n (2 ^ 1074) (pow_pos 1074) h

-- at a negative number
floor-neg : (v : Float) (n : ℕ) → HasValue v true n (2 ^ 1074) → floor_f v ≡ whole_number true (ceil n (2 ^ 1074))
floor-neg v n h = floor-value v true n (2 ^ 1074) (pow_pos 1074) h

-- at another the two are one
floor-pos : (v : Float) (n : ℕ) → HasValue v false n (2 ^ 1074) → floor_f v ≡ trunc_f v
floor-pos v n h = floor-value v false n (2 ^ 1074) (pow_pos 1074) h ∙ sym (trunc-val v false n h)

-- ---- the lowest k bits cleared

-- X is what stands above the 52 bits t
cut_high : (X t k : ℕ) → k ≤ 52 → (X * 4503599627370496 + t) / 2 ^ k * 2 ^ k ≡ X * 4503599627370496 + t / 2 ^ k * 2 ^ k
cut_high X t k h =
    let P = 2 ^ k in
    let a = X * 2 ^ (52 - k) in
    let e : X * 4503599627370496 ≡ a * P = ap (λ (n : ℕ). X * n) (ap (λ (n : ℕ). 2 ^ n) (sym (rejoin k h)) ∙ pow-add 2 (52 - k) k) ∙ sym (mul_assoc X (2 ^ (52 - k)) P) in
    ap (λ (n : ℕ). (n + t) / P * P) e
    ∙ ap (λ (n : ℕ). n / P * P) (add_comm (a * P) t)
    ∙ ap (λ (n : ℕ). n * P) (add-mul-div_right t a (pow_pos k))
    ∙ add-mul (t / P) a P
    ∙ add_comm (t / P * P) (a * P)
    ∙ ap (λ (n : ℕ). n + t / P * P) (sym e)
  where
    rejoin : (k : ℕ) → k ≤ 52 → 52 - k + k ≡ 52
    rejoin k h = omega arith

upper : Bool → ℕ → ℕ
upper s x = cond s 2048 0 + x

pat-is : (s : Bool) (x t : ℕ) → pat s x t ≡ upper s x * 4503599627370496 + t
unfolding upper
pat-is true x t = omega arith
pat-is false x t = omega arith

pub cut-pat : (s : Bool) (x t k : ℕ) → k ≤ 52 → pat s x t / 2 ^ k * 2 ^ k ≡ pat s x (t / 2 ^ k * 2 ^ k)
cut-pat s x t k h = ap (λ (n : ℕ). n / 2 ^ k * 2 ^ k) (pat-is s x t) ∙ cut_high (upper s x) t k h ∙ sym (pat-is s x (t / 2 ^ k * 2 ^ k))

cut-lead : (t k : ℕ) → k ≤ 52 → (4503599627370496 + t) / 2 ^ k * 2 ^ k ≡ 4503599627370496 + t / 2 ^ k * 2 ^ k
cut-lead t k h = cut_high 1 t k h

-- ---- the three ranges of the exponent's field

pub split : (a b : ℕ) → (a < b) ⊎ (b ≤ a)
split a b = go (ltb a b) (ltb→lt a b) (nltb→le a b)
  where
    go : (p : Bool) → (T p → a < b) → (T (not p) → b ≤ a) → (a < b) ⊎ (b ≤ a)
    go true f g = inl (f tt)
    go false f g = inr (g tt)

-- below one
trunc-low : (s : Bool) (x t : ℕ) → x < 1023 → t < 4503599627370496 → of_bits binary64 (pat s 0 0) ≡ trunc_f (of_fields binary64 s x t)
trunc-low s x t X H =
    whole-pattern s 0 0 0 (omega arith) (omega arith) refl
    ∙ sym (trunc-val (of_fields binary64 s x t) s (mag x t) (fields-val s x t (omega arith)) ∙ ap (whole_number s) (div-eq_of_lt (mag-lt x t 1021 H (omega arith))))

-- from one up, with k bits below the point
module _ (y k : ℕ) (at : k + y ≡ 1074) (some : k ≤ 52) where
  unit-is : 2 ^ 1074 ≡ 2 ^ k * 2 ^ y
  unit-is = ap (λ (n : ℕ). 2 ^ n) (sym at) ∙ pow-add 2 k y

  pub mag-mid : (t : ℕ) → mag (suc y) t / 2 ^ 1074 ≡ (4503599627370496 + t) / 2 ^ k
  mag-mid t = ap (λ (n : ℕ). mag (suc y) t / n) unit-is ∙ mul-div-mul_right (4503599627370496 + t) (2 ^ k) (pow_pos y)

  mag-whole : (c n : ℕ) → c ≡ n * 2 ^ k → c * 2 ^ y ≡ n * 2 ^ 1074
  mag-whole c n e = ap (λ (a : ℕ). a * 2 ^ y) e ∙ mul_assoc n (2 ^ k) (2 ^ y) ∙ ap (λ (a : ℕ). n * a) (sym unit-is)

  trunc-mid : (s : Bool) (t : ℕ) → t < 4503599627370496 → of_bits binary64 (pat s (suc y) (t / 2 ^ k * 2 ^ k)) ≡ trunc_f (of_fields binary64 s (suc y) t)
  trunc-mid s t H =
      whole-pattern s (suc y) (t / 2 ^ k * 2 ^ k) ((4503599627370496 + t) / 2 ^ k) (omega arith) (lt_of_le_of_lt (div-mul-le_self t (2 ^ k)) H)
      (mag-whole (4503599627370496 + t / 2 ^ k * 2 ^ k) ((4503599627370496 + t) / 2 ^ k) (sym (cut-lead t k some)))
      ∙ sym (trunc-val (of_fields binary64 s (suc y) t) s (mag (suc y) t) (fields-val s (suc y) t (omega arith)) ∙ ap (whole_number s) (mag-mid t))

-- a number that is whole is its own whole part
trunc-own : (s : Bool) (x t n : ℕ) → x < 2047 → t < 4503599627370496 → mag x t ≡ n * 2 ^ 1074 → of_bits binary64 (pat s x t) ≡ trunc_f (of_fields binary64 s x t)
trunc-own s x t n X H e =
    whole-pattern s x t n X H e
    ∙ sym (trunc-val (of_fields binary64 s x t) s (mag x t) (fields-val s x t X) ∙ ap (whole_number s) (ap (λ (a : ℕ). a / 2 ^ 1074) e ∙ mul-div_cancel n (pow_pos 1074)))

mag_high : (x t : ℕ) → 1075 ≤ x → mag x t ≡ lead x t * 2 ^ (place x - 1074) * 2 ^ 1074
mag_high zero t h = absurd (omega arith)
mag_high (suc y) t h =
    ap (λ (n : ℕ). (4503599627370496 + t) * n) (ap (λ (n : ℕ). 2 ^ n) (sym (rejoin y h)) ∙ pow-add 2 (y - 1074) 1074)
    ∙ sym (mul_assoc (4503599627370496 + t) (2 ^ (y - 1074)) (2 ^ 1074))
  where
    rejoin : (y : ℕ) → 1075 ≤ suc y → y - 1074 + 1074 ≡ y
    rejoin y h = omega arith

-- an infinity or a NaN
trunc-ones : (s : Bool) (t : ℕ) → of_fields binary64 s 2047 t ≡ trunc_f (of_fields binary64 s 2047 t)
unfolding of_fields trunc_f
trunc-ones s t = go (eqb t 0)
  where
    go : (p : Bool) → cond p (inf s) nan ≡ trunc_f (cond p (inf s) nan)
    go true = refl
    go false = refl

-- which range, with the number of bits below the point
data Zone (x : ℕ) : Type 0 where
  low : x < 1023 → fraction_bits x ≡ 63 → Zone x
  mid : (y k : ℕ) → x ≡ suc y → k + y ≡ 1074 → k ≤ 52 → fraction_bits x ≡ k → Zone x
  high : 1075 ≤ x → x < 2047 → fraction_bits x ≡ 0 → Zone x
  ones : x ≡ 2047 → fraction_bits x ≡ 0 → Zone x

pub bits-low : (x : ℕ) → x < 1023 → fraction_bits x ≡ 63
unfolding fraction_bits
bits-low x h = ap (λ (p : Bool). cond p 63 (1075 - x)) (is_true (ltb x 1023) (lt→ltb x 1023 h))

pub bits-high : (x : ℕ) → 1023 ≤ x → fraction_bits x ≡ 1075 - x
unfolding fraction_bits
bits-high x h = ap (λ (p : Bool). cond p 63 (1075 - x)) (is_false (ltb x 1023) (le→nltb x 1023 h))

zone : (x : ℕ) → x < 2048 → Zone x
zone x X = elim (split x 1023) [
  | inl a ↦ low a (bits-low x a)
  | inr a ↦ elim (split x 1075) [
    | inl b ↦ mid (x - 1) (1075 - x) (omega arith) (omega arith) (omega arith) (bits-high x a)
    | inr b ↦ elim (split x 2047) [
      | inl c ↦ high b c (bits-high x a ∙ omega arith)
      | inr c ↦ ones (omega arith) (bits-high x a ∙ omega arith)
    ]
  ]
]

-- b with its k lowest bits cleared
abbrev pub cut : ℕ → ℕ → ℕ
cut b k = b / 2 ^ k * 2 ^ k

cut_all : (s : Bool) (x t : ℕ) → x < 1023 → t < 4503599627370496 → cut (pat s x t) 63 ≡ pat s 0 0
cut_all true x t X H = omega arith
cut_all false x t X H = omega arith

cut-none : (b : ℕ) → cut b 0 ≡ b
cut-none b = mul-one (b / 1) ∙ div-one b

trunc-at : (s : Bool) (x t : ℕ) → x < 2048 → t < 4503599627370496 → of_bits binary64 (cut (pat s x t) (fraction_bits x)) ≡ trunc_f (of_fields binary64 s x t)
trunc-at s x t X H = elim (zone x X) [
  | low a f ↦ ap (λ (k : ℕ). of_bits binary64 (cut (pat s x t) k)) f ∙ ap (of_bits binary64) (cut_all s x t a H) ∙ trunc-low s x t a H
  | mid y k e at some f ↦
      ap (λ (k : ℕ). of_bits binary64 (cut (pat s x t) k)) f
      ∙ ap (of_bits binary64) (cut-pat s x t k some)
      ∙ subst (λ (z : ℕ). of_bits binary64 (pat s z (t / 2 ^ k * 2 ^ k)) ≡ trunc_f (of_fields binary64 s z t)) (sym e) (trunc-mid y k at some s t H)
  | high a b f ↦
      ap (λ (k : ℕ). of_bits binary64 (cut (pat s x t) k)) f
      ∙ ap (of_bits binary64) (cut-none (pat s x t))
      ∙ trunc-own s x t (lead x t * 2 ^ (place x - 1074)) b H (mag_high x t a)
  | ones e f ↦
      ap (λ (k : ℕ). of_bits binary64 (cut (pat s x t) k)) f
      ∙ ap (of_bits binary64) (cut-none (pat s x t))
      ∙ read s x t X H
      ∙ subst (λ (z : ℕ). of_fields binary64 s z t ≡ trunc_f (of_fields binary64 s z t)) (sym e) (trunc-ones s t)
]

-- ---- from the fields to the pattern

abbrev pub fraction : ℕ → ℕ
fraction b = fraction_bits (b / 2 ^ 52 % 2 ^ 11)

-- what holds of every pattern, by its fields
by-fields : (P : ℕ → Float → ℕ → Type 0) → ((s : Bool) (x t : ℕ) → x < 2048 → t < 4503599627370496 → P (pat s x t) (of_fields binary64 s x t) (fraction_bits x)) → (b : ℕ) → b < 2 ^ 64 → P b (of_bits binary64 b) (fraction b)
by-fields P h b l =
    let F = fields b l in
    subst (λ (k : ℕ). P b (of_bits binary64 b) (fraction_bits k)) (sym F.field)
    (subst (λ (n : ℕ). P n (of_bits binary64 n) (fraction_bits F.x)) (sym F.is)
    (subst (λ (v : Float). P (pat F.s F.x F.t) v (fraction_bits F.x)) (sym (read F.s F.x F.t F.x_lt F.t-lt))
    (h F.s F.x F.t F.x_lt F.t-lt)))

pub trunc_cut : (b : ℕ) → b < 2 ^ 64 → of_bits binary64 (cut b (fraction b)) ≡ trunc_f (of_bits binary64 b)
trunc_cut = by-fields (λ (b : ℕ) (v : Float) (k : ℕ). of_bits binary64 (cut b k) ≡ trunc_f v) trunc-at

-- ---- the floor

-- of a number that is not negative: its whole part
floor-plus-at : (x t : ℕ) → x < 2048 → floor_f (of_fields binary64 false x t) ≡ trunc_f (of_fields binary64 false x t)
unfolding of_fields floor_f trunc_f
floor-plus-at x t X = elim (split x 2047) [
  | inl a ↦ floor-pos (of_fields binary64 false x t) (mag x t) (fields-val false x t a)
  | inr a ↦ subst (λ (z : ℕ). floor_f (of_fields binary64 false z t) ≡ trunc_f (of_fields binary64 false z t)) (top x X a) (go (eqb t 0))
]
  where
    top : (x : ℕ) → x < 2048 → 2047 ≤ x → 2047 ≡ x
    top x a b = omega arith

    go : (p : Bool) → floor_f (cond p (inf false) nan) ≡ trunc_f (cond p (inf false) nan)
    go true = refl
    go false = refl

floor-ones : (t : ℕ) → of_fields binary64 true 2047 t ≡ floor_f (of_fields binary64 true 2047 t)
unfolding of_fields floor_f
floor-ones t = go (eqb t 0)
  where
    go : (p : Bool) → cond p (inf true) nan ≡ floor_f (cond p (inf true) nan)
    go true = refl
    go false = refl

ceil-whole : (n d : ℕ) → 0 < d → ceil (n * d) d ≡ n
ceil-whole n d D = ceil-exact (n * d) d (mul-mod_left n d) ∙ mul-div_cancel n D

-- a negative number that is whole is its own floor
floor-own : (x t n : ℕ) → x < 2047 → t < 4503599627370496 → mag x t ≡ n * 2 ^ 1074 → of_bits binary64 (pat true x t) ≡ floor_f (of_fields binary64 true x t)
floor-own x t n X H e =
    whole-pattern true x t n X H e
    ∙ sym (floor-neg (of_fields binary64 true x t) (mag x t) (fields-val true x t X) ∙ ap (whole_number true) (ap (λ (a : ℕ). ceil a (2 ^ 1074)) e ∙ ceil-whole n (2 ^ 1074) (pow_pos 1074)))

-- between -1 and -0
mag-pos : (x t : ℕ) → (pat true 0 0 ≡ pat true x t → ⊥) → mag x t ≡ 0 → ⊥
mag-pos zero zero h e = h refl
mag-pos zero (suc t) h e = let z = sym (mul-one (suc t)) ∙ e in omega arith
mag-pos (suc x) t h e = lt_irrefl 0 (subst (λ (n : ℕ). 0 < n) e (mul-pos (lead-pos t) (pow_pos x)))
  where
    lead-pos : (t : ℕ) → 0 < 4503599627370496 + t
    lead-pos t = omega arith

floor-low : (x t : ℕ) → x < 1023 → t < 4503599627370496 → (pat true 0 0 ≡ pat true x t → ⊥) → of_bits binary64 (pat true 1023 0) ≡ floor_f (of_fields binary64 true x t)
floor-low x t X H h =
    let l : mag x t < 2 ^ 1074 = mag-lt x t 1021 H (omega arith) in
    whole-pattern true 1023 0 1 (omega arith) (omega arith) refl
    ∙ sym (floor-neg (of_fields binary64 true x t) (mag x t) (fields-val true x t (omega arith)) ∙ ap (whole_number true)
    (ceil-more (mag x t) (2 ^ 1074) (λ z. mag-pos x t h (sym (mod-eq_of_lt l) ∙ z)) ∙ ap suc (div-eq_of_lt l)))

-- a negative number from one up, with a fraction: one up from its whole part
module _ (y k : ℕ) (at : k + y ≡ 1074) (some : k ≤ 52) (t : ℕ) (H : t < 4503599627370496) where
  next_le : t / 2 ^ k * 2 ^ k + 2 ^ k ≤ 4503599627370496
  next_le =
      let e : 2 ^ (52 - k) * 2 ^ k ≡ 4503599627370496 = sym (pow-add 2 (52 - k) k) ∙ ap (λ (n : ℕ). 2 ^ n) (rejoin k some) in
      subst (λ (n : ℕ). n ≤ 4503599627370496) (suc-mul (t / 2 ^ k) (2 ^ k))
      (subst (λ (n : ℕ). suc (t / 2 ^ k) * 2 ^ k ≤ n) e (mul-le-mul_right (2 ^ k) ((div-lt_iff_lt-mul (pow_pos k)).1 (subst (λ (n : ℕ). t < n) (sym e) H))))
    where
      rejoin : (k : ℕ) → k ≤ 52 → 52 - k + k ≡ 52
      rejoin k h = omega arith

  lead-next : 4503599627370496 + (t / 2 ^ k * 2 ^ k + 2 ^ k) ≡ suc ((4503599627370496 + t) / 2 ^ k) * 2 ^ k
  lead-next = let e = cut-lead t k some in let f = suc-mul ((4503599627370496 + t) / 2 ^ k) (2 ^ k) in omega arith

  module _ (more : t / 2 ^ k * 2 ^ k ≡ t → ⊥) where
    ceil-mid : ceil (mag (suc y) t) (2 ^ 1074) ≡ suc ((4503599627370496 + t) / 2 ^ k)
    ceil-mid =
        ceil-same (mag (suc y) t) (2 ^ 1074) (4503599627370496 + t) (2 ^ k) (pow_pos 1074) (pow_pos k)
        (mul_assoc (4503599627370496 + t) (2 ^ y) (2 ^ k) ∙ ap (λ (n : ℕ). (4503599627370496 + t) * n) (mul_comm (2 ^ y) (2 ^ k) ∙ sym (unit-is y k at some)))
        ∙ ceil-more (4503599627370496 + t) (2 ^ k) (λ z. more (same z))
      where
        same : (4503599627370496 + t) % 2 ^ k ≡ 0 → t / 2 ^ k * 2 ^ k ≡ t
        same z = let e = cut-lead t k some in let f = div-add-mod' (4503599627370496 + t) (2 ^ k) in omega arith

    floor-mid : of_bits binary64 (pat true (suc y) (t / 2 ^ k * 2 ^ k) + 2 ^ k) ≡ floor_f (of_fields binary64 true (suc y) t)
    floor-mid =
        elim (split (t / 2 ^ k * 2 ^ k + 2 ^ k) 4503599627370496) [
          | inl l ↦
              ap (of_bits binary64) (inside (t / 2 ^ k * 2 ^ k) (2 ^ k))
              ∙ whole-pattern true (suc y) (t / 2 ^ k * 2 ^ k + 2 ^ k) (suc ((4503599627370496 + t) / 2 ^ k)) (omega arith) l
              (mag-whole y k at some (4503599627370496 + (t / 2 ^ k * 2 ^ k + 2 ^ k)) (suc ((4503599627370496 + t) / 2 ^ k)) lead-next)
          | inr g ↦
              let full : t / 2 ^ k * 2 ^ k + 2 ^ k ≡ 4503599627370496 = le_antisymm next_le g in
              ap (of_bits binary64) (carried (t / 2 ^ k * 2 ^ k) (2 ^ k) full)
              ∙ whole-pattern true (suc (suc y)) 0 (suc ((4503599627370496 + t) / 2 ^ k)) (omega arith) (omega arith)
              (ap (λ (n : ℕ). 4503599627370496 * n) (pow-succ' 2 y)
              ∙ sym (mul_assoc 4503599627370496 2 (2 ^ y))
              ∙ mag-whole y k at some (4503599627370496 * 2) (suc ((4503599627370496 + t) / 2 ^ k)) (ap (λ (n : ℕ). 4503599627370496 + n) (sym full) ∙ lead-next))
        ]
        ∙ sym (floor-neg (of_fields binary64 true (suc y) t) (mag (suc y) t) (fields-val true (suc y) t (omega arith)) ∙ ap (whole_number true) ceil-mid)
      where
        inside : (a p : ℕ) → pat true (suc y) a + p ≡ pat true (suc y) (a + p)
        inside a p = omega arith

        carried : (a p : ℕ) → a + p ≡ 4503599627370496 → pat true (suc y) a + p ≡ pat true (suc (suc y)) 0
        carried a p e = omega arith

    next_fits : pat true (suc y) (t / 2 ^ k * 2 ^ k) + 2 ^ k < 2 ^ 64
    next_fits = let e = next_le in omega arith

-- ---- what `floor_bits` returns, on each of its paths: v is b's value, and k the number of bits below the point
pub record Floor (b : ℕ) (v : Float) (k : ℕ) : Type 0 where
  pub small : k < 64
  pub own : cut b k ≡ b → of_bits binary64 b ≡ floor_f v
  pub plus : b / 2 ^ 63 ≡ 0 → of_bits binary64 (cut b k) ≡ floor_f v
  pub one : (b / 2 ^ 63 ≡ 0 → ⊥) → (cut b k ≡ b → ⊥) → k ≡ 63 → of_bits binary64 0xbff0_0000_0000_0000 ≡ floor_f v
  pub next : (b / 2 ^ 63 ≡ 0 → ⊥) → (cut b k ≡ b → ⊥) → (k ≡ 63 → ⊥) → (cut b k + 2 ^ k < 2 ^ 64) × (of_bits binary64 (cut b k + 2 ^ k) ≡ floor_f v)

plus-high : (x t : ℕ) → x < 2048 → t < 4503599627370496 → pat false x t / 2 ^ 63 ≡ 0
plus-high x t X H = omega arith

minus-high : (x t : ℕ) → x < 2048 → t < 4503599627370496 → pat true x t / 2 ^ 63 ≡ 0 → ⊥
minus-high x t X H z = omega arith

small-bits : (x : ℕ) → x < 2048 → fraction_bits x < 64
small-bits x X = elim (zone x X) [
  | low a f ↦ subst (λ (k : ℕ). k < 64) (sym f) (lit< tt)
  | mid y k e at some f ↦ subst (λ (k : ℕ). k < 64) (sym f) (omega arith)
  | high a b f ↦ subst (λ (k : ℕ). k < 64) (sym f) (lit< tt)
  | ones e f ↦ subst (λ (k : ℕ). k < 64) (sym f) (lit< tt)
]

pub fraction_fits : (b : ℕ) → fraction b < 64
fraction_fits b = small-bits (b / 2 ^ 52 % 2 ^ 11) (mod-lt (b / 2 ^ 52) (pow_pos 11))

mag-zero : (x t : ℕ) → pat true 0 0 ≡ pat true x t → mag x t ≡ 0
mag-zero zero zero h = refl
mag-zero zero (suc t) h = absurd (omega arith)
mag-zero (suc x) t h = absurd (omega arith)

floor-plus : (x t : ℕ) → x < 2048 → t < 4503599627370496 → Floor (pat false x t) (of_fields binary64 false x t) (fraction_bits x)
floor-plus x t X H =
    let is : of_bits binary64 (cut (pat false x t) (fraction_bits x)) ≡ floor_f (of_fields binary64 false x t) = trunc-at false x t X H ∙ sym (floor-plus-at x t X) in
    record {
      small = small-bits x X;
      own = λ e. ap (of_bits binary64) (sym e) ∙ is;
      plus = λ z. is;
      one = λ n. absurd (n (plus-high x t X H));
      next = λ n. absurd (n (plus-high x t X H));
    }

no-63 : (k : ℕ) → k ≤ 52 → k ≡ 63 → ⊥
no-63 k h e = omega arith

zero-63 : ◌≡◌ {A = ℕ} 0 63 → ⊥
zero-63 e = omega arith

same_digits : (x a t : ℕ) → pat true x a ≡ pat true x t → a ≡ t
same_digits x a t e = omega arith

floor-minus-low : (x t : ℕ) → x < 1023 → t < 4503599627370496 → Floor (pat true x t) (of_fields binary64 true x t) 63
floor-minus-low x t X H = record {
  small = lit< tt;
  own = λ e. floor-own x t 0 (omega arith) H (mag-zero x t (sym (cut_all true x t X H) ∙ e));
  plus = λ z. absurd (minus-high x t (omega arith) H z);
  one = λ n m e. floor-low x t X H (λ z. m (cut_all true x t X H ∙ z));
  next = λ n m e. absurd (e refl);
}

floor-minus-mid : (y k t : ℕ) → k + y ≡ 1074 → k ≤ 52 → t < 4503599627370496 → Floor (pat true (suc y) t) (of_fields binary64 true (suc y) t) k
floor-minus-mid y k t at some H =
    let c : cut (pat true (suc y) t) k ≡ pat true (suc y) (t / 2 ^ k * 2 ^ k) = cut-pat true (suc y) t k some in
    record {
      small = omega arith;
      own = λ e.
          floor-own (suc y) t ((4503599627370496 + t) / 2 ^ k) (omega arith) H
          (mag-whole y k at some (4503599627370496 + t) ((4503599627370496 + t) / 2 ^ k)
          (ap (λ (n : ℕ). 4503599627370496 + n) (sym (same_digits (suc y) (t / 2 ^ k * 2 ^ k) t (sym c ∙ e))) ∙ sym (cut-lead t k some)));
      plus = λ z. absurd (minus-high (suc y) t (omega arith) H z);
      one = λ n m e. absurd (no-63 k some e);
      next = λ n m e.
          let more : t / 2 ^ k * 2 ^ k ≡ t → ⊥ = λ z. m (c ∙ ap (pat true (suc y)) z) in (
            subst (λ (a : ℕ). a + 2 ^ k < 2 ^ 64) (sym c) (next_fits y k at some t H more),
            ap (λ (a : ℕ). of_bits binary64 (a + 2 ^ k)) c ∙ floor-mid y k at some t H more,
          );
    }

floor-minus-whole : (x t : ℕ) → x < 2048 → t < 4503599627370496 → of_bits binary64 (pat true x t) ≡ floor_f (of_fields binary64 true x t) → Floor (pat true x t) (of_fields binary64 true x t) 0
floor-minus-whole x t X H is = record {
  small = lit< tt;
  own = λ e. is;
  plus = λ z. absurd (minus-high x t X H z);
  one = λ n m e. absurd (zero-63 e);
  next = λ n m e. absurd (m (cut-none (pat true x t)));
}

floor-minus : (x t : ℕ) → x < 2048 → t < 4503599627370496 → Floor (pat true x t) (of_fields binary64 true x t) (fraction_bits x)
floor-minus x t X H = elim (zone x X) [
  | low a f ↦ subst (Floor (pat true x t) (of_fields binary64 true x t)) (sym f) (floor-minus-low x t a H)
  | mid y k e at some f ↦
      subst (Floor (pat true x t) (of_fields binary64 true x t)) (sym f)
      (subst (λ (z : ℕ). Floor (pat true z t) (of_fields binary64 true z t) k) (sym e) (floor-minus-mid y k t at some H))
  | high a b f ↦
      subst (Floor (pat true x t) (of_fields binary64 true x t)) (sym f)
      (floor-minus-whole x t X H (floor-own x t (lead x t * 2 ^ (place x - 1074)) b H (mag_high x t a)))
  | ones e f ↦
      subst (Floor (pat true x t) (of_fields binary64 true x t)) (sym f)
      (floor-minus-whole x t X H (read true x t X H ∙ subst (λ (z : ℕ). of_fields binary64 true z t ≡ floor_f (of_fields binary64 true z t)) (sym e) (floor-ones t)))
]

floor-at : (s : Bool) (x t : ℕ) → x < 2048 → t < 4503599627370496 → Floor (pat s x t) (of_fields binary64 s x t) (fraction_bits x)
floor-at true x t X H = floor-minus x t X H
floor-at false x t X H = floor-plus x t X H

pub floor-bits : (b : ℕ) → b < 2 ^ 64 → Floor b (of_bits binary64 b) (fraction b)
floor-bits = by-fields Floor floor-at

-- ---- no NaN comes out where none went in

pub units_number : (s : Bool) (q k : ℕ) → T (not (is_nan (units binary64 s q k)))
unfolding units odd is_nan
units_number s q k = go (ltb (q * 2 ^ k) (2 ^ 2098)) q
  where
    go : (p : Bool) (q : ℕ) → T (not (is_nan (cond p (odd 54 s q k 1074) (inf s))))
    go true zero = tt
    go true (suc q) = tt
    go false q = tt

whole-number : (s : Bool) (n : ℕ) → T (not (is_nan (whole_number s n)))
unfolding round
whole-number s n =
    let a = n * 2 ^ 1074 in
    let k = size (a / 1) - 53 in
    let u = 1 * 2 ^ k in
    units_number s (nearest (a / u) (compare (a % u * 2) u)) k

pub trunc-number : (v : Float) → T (not (is_nan v)) → T (not (is_nan (trunc_f v)))
unfolding trunc_f is_nan
trunc-number nan h = h
trunc-number (inf s) h = tt
trunc-number (fin s m e) h = subst (λ (v : Float). T (not (is_nan v))) (sym (trunc-fin s m e)) (whole-number s (m * up e / down e))

pub floor-number : (v : Float) → T (not (is_nan v)) → T (not (is_nan (floor_f v)))
unfolding floor_f is_nan
floor-number nan h = h
floor-number (inf s) h = tt
floor-number (fin s m e) h = subst (λ (v : Float). T (not (is_nan v))) (sym (floor-fin s m e)) (whole-number s (frac.down s (m * up e) (down e)))

-- `1 << k`
shifted_one : (k : ℕ) → k < 64 → 1 * 2 ^ k % 2 ^ 64 ≡ 2 ^ k
shifted_one k h = ap (λ (n : ℕ). n % 2 ^ 64) (one-mul (2 ^ k)) ∙ mod-eq_of_lt (pow-lt h)

-- ---- the floor by the bit n that is added to the whole part: the sign's bit of a number that has a fraction, and 0 of any other
abbrev pub Below : ℕ → ℕ → ℕ → Type 0
Below b k n = ((cut b k ≡ b) × (n ≡ 0)) ⊎ ((cut b k ≡ b → ⊥) × (n ≡ b / 2 ^ 63))

module _ {b : ℕ} {v : Float} {k n : ℕ} (l : b < 2 ^ 64) (F : Floor b v k) (w : Below b k n) where
  pub floor-kept : n ≡ 0 → of_bits binary64 (cut b k) ≡ floor_f v
  floor-kept z = ⊎_elim (λ p. ap (of_bits binary64) p.0 ∙ F.own p.0) (λ p. F.plus (sym p.1 ∙ z)) w

  pub floor-one : (n ≡ 0 → ⊥) → k ≡ 63 → of_bits binary64 0xbff0_0000_0000_0000 ≡ floor_f v
  floor-one h e = ⊎_elim (λ p. absurd (h p.1)) (λ p. F.one (λ z. h (p.1 ∙ z)) p.0 e) w

  pub floor-sum : (k ≡ 63 → ⊥) → (cut b k + n * 2 ^ k % 2 ^ 64 < 2 ^ 64) × (of_bits binary64 (cut b k + n * 2 ^ k % 2 ^ 64) ≡ floor_f v)
  floor-sum h = at n refl (⊎_elim (λ p. omega arith) (λ p. omega arith) w)
    where
      Sum : ℕ → Type 0
      Sum a = (a < 2 ^ 64) × (of_bits binary64 a ≡ floor_f v)

      at : (m : ℕ) → m ≡ n → m ≤ 1 → Sum (cut b k + m * 2 ^ k % 2 ^ 64)
      at zero e u =
          subst Sum (sym (ap (λ (i : ℕ). cut b k + i % 2 ^ 64) (zero-mul (2 ^ k)) ∙ add-zero (cut b k)))
          (lt_of_le_of_lt (div-mul-le_self b (2 ^ k)) l, floor-kept (sym e))
      at (suc zero) e u =
          subst Sum (sym (ap (λ (i : ℕ). cut b k + i) (shifted_one k F.small)))
          (⊎_elim (λ p. absurd (some (e ∙ p.1))) (λ p. F.next (λ z. some (e ∙ p.1 ∙ z)) p.0 h) w)
        where
          some : ◌≡◌ {A = ℕ} 1 0 → ⊥
          some z = omega arith
      at (suc (suc m)) e u = absurd (omega arith)
