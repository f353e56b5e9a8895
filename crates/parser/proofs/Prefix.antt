-- The first 33 bytes of a text decide how it is read: a reader that looks at no more than k bytes reads the same whatever follows them.
-- Assumes nothing.
use mathlib.Core.Path.{◌≡◌, refl, sym, ap, ◌∙◌}
use mathlib.Core.Bool.{Bool, true, false, cond}
use mathlib.Core.List.{List, [], ◌∷◌, ◌++◌}
use Prim.Native.Nat.{ℕ, zero, suc, ◌+◌, ◌-◌, ◌*◌, ◌≤◌, ◌<◌}
use native.Mathlib.Omega.{arith}
use native.Mathlib.Decide.{dec_le}
use lib.Dec.{leb, eqb}
use borrow.Author.Tests.{eq-eqb}
use lib.ListN.{length, take, drop, take-append-drop}
use lib.Seq.{take_all, length-take-le}
use Rattle.ecma262.specs.Format.{Year, Date, Time, Zone, Form}
use Rattle.ecma262.specs.Format.Year.{four, six}
use Rattle.ecma262.specs.Format.Date.{toYear, toMonth, toDay}
use Rattle.ecma262.specs.Format.Time.{toSecond, toDecimals}
use Rattle.ecma262.specs.Format.Zone.{absent, zulu, toHour}
use Rattle.parser.specs.declared.Fault.TheVariants.{Bad, Range}
use Rattle.parser.specs.Reading.{Out, ok, fault, Reader, Number, number, bind, after, give, choose, byte, is_digit, digits_after, digits_upto, no_digit, all_of, all_digits, within, field, signed_year, read_year, read_day, read_date, decimals_of, read_decimals, read_second, read_time, read_offset_minute, read_offset, read_zone, after_date, ending, time_part, rest, read}

-- an outcome, with t after what is left
abbrev longer : {A : Type 0} → List ℕ → Out A → Out A
longer t (ok a u) = ok a (u ++ t)
longer t (fault f) = fault f

-- what is left is at most k bytes shorter than s
abbrev Leaves : {A : Type 0} → ℕ → List ℕ → Out A → Type 0
Leaves k s (ok a u) = length s ≤ k + length u
Leaves k s (fault f) = Unit

-- p looks at no more than k bytes
record Within {A : Type 0} (k : ℕ) (p : Reader A) : Type 0 where
  same : (s t : List ℕ) → k ≤ length s → p (s ++ t) ≡ longer t (p s)
  left : (s : List ℕ) → Leaves k s (p s)

-- fewer bytes looked at, or more of them left
looser : {A : Type 0} (k n : ℕ) (s r : List ℕ) (o : Out A) → length r + k ≤ length s + n → Leaves k s o → Leaves n r o
looser k n s r (ok a u) h l = omega arith
looser k n s r (fault f) h l = tt

after-within : {A B : Type 0} (j i : ℕ) (p : Reader A) (k : A → Reader B) → Within j p → ((a : A) → Within i (k a)) → Within (j + i) (after p k)
unfolding after
after-within {A} {B} j i p k P K = record {
  same = λ s t h. rw (P.same s t (omega arith)) (same s t h (p s) (P.left s));
  left = λ s. left s (p s) (P.left s);
}
  where
    same : (s t : List ℕ) → j + i ≤ length s → (o : Out A) → Leaves j s o → bind (longer t o) k ≡ longer t (bind o k)
    same s t h (ok a u) l = (K a).same u t (omega arith)
    same s t h (fault f) l = refl

    more : (s : List ℕ) (o : Out B) (u : List ℕ) → length s ≤ j + length u → Leaves i u o → Leaves (j + i) s o
    more s (ok b v) u l m = omega arith
    more s (fault f) u l m = tt

    left : (s : List ℕ) (o : Out A) → Leaves j s o → Leaves (j + i) s (bind o k)
    left s (ok a u) l = more s (k a u) u l ((K a).left u)
    left s (fault f) l = tt

choose-within : {A : Type 0} (n i j b : ℕ) (p q : Reader A) → Within i p → Within j q → i < n → j ≤ n → Within n (choose b p q)
unfolding choose
choose-within {A} n i j b p q P Q hi hj = record { same = same; left = left }
  where
    same : (s t : List ℕ) → n ≤ length s → choose b p q (s ++ t) ≡ longer t (choose b p q s)
    same [] t h = absurd (omega arith)
    same (c ∷ s) t h = pick (eqb c b)
      where
        pick : (x : Bool) → cond x (p (s ++ t)) (q (c ∷ (s ++ t))) ≡ longer t (cond x (p s) (q (c ∷ s)))
        pick true = P.same s t (omega arith)
        pick false = Q.same (c ∷ s) t (omega arith)

    left : (s : List ℕ) → Leaves n s (choose b p q s)
    left [] = looser j n [] [] (q []) (omega arith) (Q.left [])
    left (c ∷ s) = pick (eqb c b)
      where
        pick : (x : Bool) → Leaves n (c ∷ s) (cond x (p s) (q (c ∷ s)))
        pick true = looser i n s (c ∷ s) (p s) (omega arith) (P.left s)
        pick false = looser j n (c ∷ s) (c ∷ s) (q (c ∷ s)) (omega arith) (Q.left (c ∷ s))

give-within : {A : Type 0} (a : A) → Within 0 (give a)
unfolding give
give-within a = record { same = λ s t h. refl; left = λ s. omega arith }

byte-within : (b : ℕ) → Within 1 (byte b)
unfolding byte
byte-within b = record { same = same; left = left }
  where
    same : (s t : List ℕ) → 1 ≤ length s → byte b (s ++ t) ≡ longer t (byte b s)
    same [] t h = absurd (omega arith)
    same (c ∷ s) t h = pick (eqb c b)
      where
        pick : (x : Bool) → cond x (ok c (s ++ t)) (fault Bad) ≡ longer t (cond x (ok c s) (fault Bad))
        pick true = refl
        pick false = refl

    left : (s : List ℕ) → Leaves 1 s (byte b s)
    left [] = tt
    left (c ∷ s) = pick (eqb c b)
      where
        pick : (x : Bool) → Leaves 1 (c ∷ s) (cond x (ok c s) (fault Bad))
        pick true = omega arith
        pick false = tt

-- a run of digits, and what k makes of it: k may look at the byte behind it where the run is not at its end
digits-within : {A : Type 0} (n v count : ℕ) (k : Number → Reader A) → ((u : ℕ) → Within 0 (k (number u (count + n)))) → ((u c : ℕ) → c < count + n → Within 1 (k (number u c)))
    → Within n (after (digits_after n v count) k)
unfolding after digits_after
digits-within zero v count k full part = let e : count + 0 ≡ count = omega arith in rw e at (full v)
digits-within {A} (suc n) v count k full part =
    let e : count + suc n ≡ count + 1 + n = omega arith in
    let more : (w : ℕ) → Within n (after (digits_after n w (count + 1)) k) = λ w. digits-within n w (count + 1) k (rw e at full) (rw e at part) in
    record { same = same more; left = left more }
  where
    ends : Within 1 (k (number v count))
    ends = part v count (omega arith)

    same : ((w : ℕ) → Within n (after (digits_after n w (count + 1)) k)) → (s t : List ℕ) → suc n ≤ length s → after (digits_after (suc n) v count) k (s ++ t) ≡ longer t (after (digits_after (suc n) v count) k s)
    same more [] t h = absurd (omega arith)
    same more (b ∷ s) t h = pick (is_digit b)
      where
        w : ℕ
        w = 10 * v + (b - 48)

        pick : (x : Bool) → bind (cond x (digits_after n w (count + 1) (s ++ t)) (ok (number v count) (b ∷ (s ++ t)))) k
            ≡ longer t (bind (cond x (digits_after n w (count + 1) s) (ok (number v count) (b ∷ s))) k)
        pick true = (more w).same s t (omega arith)
        pick false = ends.same (b ∷ s) t (omega arith)

    left : ((w : ℕ) → Within n (after (digits_after n w (count + 1)) k)) → (s : List ℕ) → Leaves (suc n) s (after (digits_after (suc n) v count) k s)
    left more [] = looser 1 (suc n) [] [] (k (number v count) []) (omega arith) (ends.left [])
    left more (b ∷ s) = pick (is_digit b)
      where
        w : ℕ
        w = 10 * v + (b - 48)

        pick : (x : Bool) → Leaves (suc n) (b ∷ s) (bind (cond x (digits_after n w (count + 1) s) (ok (number v count) (b ∷ s))) k)
        pick true = looser n (suc n) s (b ∷ s) (after (digits_after n w (count + 1)) k s) (omega arith) ((more w).left s)
        pick false = looser 1 (suc n) (b ∷ s) (b ∷ s) (k (number v count) (b ∷ s)) (omega arith) (ends.left (b ∷ s))

-- a reader that reads nothing, or is at fault by whether the text ends
judges-within : {A : Type 0} (x : Bool) (a : A) → Within 1 (λ s. cond x (ok a s) (fault (no_digit s)))
judges-within x a = record { same = same x; left = left x }
  where
    same : (x : Bool) (s t : List ℕ) → 1 ≤ length s → cond x (ok a (s ++ t)) (fault (no_digit (s ++ t))) ≡ longer t (cond x (ok a s) (fault (no_digit s)))
    same x [] t h = absurd (omega arith)
    same true (b ∷ s) t h = refl
    same false (b ∷ s) t h = refl

    left : (x : Bool) (s : List ℕ) → Leaves 1 s (cond x (ok a s) (fault (no_digit s)))
    left true s = omega arith
    left false s = tt

-- a test that reads nothing
bounds-within : (low high v : ℕ) → Within 0 (within low high v)
unfolding within
bounds-within low high v = record { same = λ s t h. same s t (leb low v) (leb v high); left = λ s. left s (leb low v) (leb v high) }
  where
    same : (s t : List ℕ) (x y : Bool) → cond x (cond y (ok v (s ++ t)) (fault Range)) (fault Range) ≡ longer t (cond x (cond y (ok v s) (fault Range)) (fault Range))
    same s t true true = refl
    same s t true false = refl
    same s t false y = refl

    left : (s : List ℕ) (x y : Bool) → Leaves 0 s (cond x (cond y (ok v s) (fault Range)) (fault Range))
    left s true true = omega arith
    left s true false = tt
    left s false y = tt

signed-within : (n : Bool) (y : ℕ) → Within 0 (signed_year n y)
unfolding signed_year
signed-within true y = record { same = λ s t h. same s t (eqb y 0); left = λ s. left s (eqb y 0) }
  where
    same : (s t : List ℕ) (x : Bool) → cond x (fault Range) (ok (six true y) (s ++ t)) ≡ longer t (cond x (fault Range) (ok (six true y) s))
    same s t true = refl
    same s t false = refl

    left : (s : List ℕ) (x : Bool) → Leaves 0 s (cond x (fault Range) (ok (six true y) s))
    left s true = tt
    left s false = omega arith
signed-within false y = record { same = λ s t h. refl; left = λ s. omega arith }

-- ---- the stages

all-within : (n : ℕ) → Within n (all_digits n)
unfolding all_of
all-within n = digits-within n 0 0 (all_of n) (λ u. let e : 0 + n ≡ n = omega arith in rw e (full u)) (λ u c l. judges-within (eqb c n) u)
  where
    full : (u : ℕ) → Within 0 (all_of n (number u n))
    full u = record { same = λ s t h. rw (eq-eqb n n refl); left = λ s. rw (eq-eqb n n refl) (omega arith) }

number-within : {A : Type 0} (n i : ℕ) (k : ℕ → Reader A) → ((v : ℕ) → Within i (k v)) → Within (n + i) (after (all_digits n) k)
number-within n i k K = after-within n i (all_digits n) k (all-within n) K

decimals-within : (h m s : ℕ) → Within 3 (after (digits_upto 3) (decimals_of h m s))
unfolding decimals_of give
decimals-within h m s = digits-within 3 0 0 (decimals_of h m s) (λ u. give-within (toDecimals h m s 3 u)) (λ u c l. judges-within (leb 1 c) (toDecimals h m s c u))

field-within : {A : Type 0} (low high i : ℕ) (k : ℕ → Reader A) → ((v : ℕ) → Within i (k v)) → Within (2 + i) (after (field low high) k)
field-within low high i k K = after-within 2 i (field low high) k (number-within 2 0 (within low high) (bounds-within low high)) K

year-within : Within 7 read_year
unfolding read_year
year-within =
    choose-within 7 6 7 43 _ _ (number-within 6 0 _ (signed-within false))
    (choose-within 7 6 4 45 _ _ (number-within 6 0 _ (signed-within true)) (number-within 4 0 _ (λ y. give-within (four y))) (omega arith) (omega arith))
    (omega arith) (omega arith)

date-within : Within 6 read_date
unfolding read_date read_day
date-within =
    choose-within 6 5 0 45 _ _
    (field-within 1 12 3 read_day (λ m. choose-within 3 2 0 45 _ _ (field-within 1 31 0 _ (λ d. give-within (toDay m d))) (give-within (toMonth m)) (omega arith) (omega arith)))
    (give-within toYear) (omega arith) (omega arith)

time-within : Within 12 read_time
unfolding read_time read_second read_decimals
time-within =
    field-within 0 24 10 _ λ h. after-within 1 9 (byte 58) _ (byte-within 58) λ _. field-within 0 59 7 _ λ m.
    choose-within 7 6 0 58 _ _
    (field-within 0 59 4 _ (λ s. choose-within 4 3 0 46 _ _ (decimals-within h m s) (give-within (toSecond h m s)) (omega arith) (omega arith)))
    (give-within (Time.toMinute h m)) (omega arith) (omega arith)

offset-within : (n : Bool) → Within 5 (read_offset n)
unfolding read_offset read_offset_minute
offset-within n =
    field-within 0 23 3 _ (λ h. choose-within 3 2 0 58 _ _ (field-within 0 59 0 _ (λ m. give-within (Zone.toMinute n h m))) (give-within (toHour n h)) (omega arith) (omega arith))

zone-within : Within 6 read_zone
unfolding read_zone
zone-within =
    choose-within 6 0 6 90 _ _ (give-within zulu)
    (choose-within 6 5 6 43 _ _ (offset-within false) (choose-within 6 5 0 45 _ _ (offset-within true) (give-within absent) (omega arith) (omega arith)) (omega arith) (omega arith))
    (omega arith) (omega arith)

-- ---- the whole text

stage : {A : Type 0} (k : ℕ) (p : Reader A) → Within k p → (c : A → Reader Form) (s t : List ℕ) → k ≤ length s
    → ((a : A) (u : List ℕ) → length s ≤ k + length u → c a (u ++ t) ≡ c a u) → after p c (s ++ t) ≡ after p c s
unfolding after
stage {A} k p P c s t h then = rw (P.same s t h) (go (p s) (P.left s))
  where
    go : (o : Out A) → Leaves k s o → bind (longer t o) c ≡ bind o c
    go (ok a u) l = then a u l
    go (fault f) l = refl

ending-same : (y : Year) (d : Date) (x : Time) (z : Zone) (s t : List ℕ) → 1 ≤ length s → ending y d x z (s ++ t) ≡ ending y d x z s
unfolding ending
ending-same y d x z [] t h = absurd (omega arith)
ending-same y d x z (b ∷ s) t h = refl

time-part-same : (y : Year) (d : Date) (s t : List ℕ) → 19 ≤ length s → time_part y d (s ++ t) ≡ time_part y d s
unfolding time_part
time-part-same y d s t h =
    stage 12 read_time time-within _ s t (omega arith) λ x u l.
    stage 6 read_zone zone-within _ u t (omega arith) λ z v m.
    ending-same y d x z v t (omega arith)

rest-same : (y : Year) (d : Date) (s t : List ℕ) → 20 ≤ length s → rest y d (s ++ t) ≡ rest y d s
unfolding rest
rest-same y d [] t h = absurd (omega arith)
rest-same y d (b ∷ s) t h = ap (λ x. cond (eqb b 84) x (fault (after_date d))) (time-part-same y d s t (omega arith))

pub read_same : (s t : List ℕ) → 33 ≤ length s → read (s ++ t) ≡ read s
unfolding read
read_same s t h =
    stage 7 read_year year-within _ s t (omega arith) λ y u l.
    stage 6 read_date date-within _ u t (omega arith) λ d v m.
    rest-same y d v t (omega arith)

-- the first 33 bytes decide, or any longer prefix
pub read-prefix : (n : ℕ) (text : List ℕ) → 33 ≤ n → read (take n text) ≡ read text
read-prefix n text h = go (dec_le n (length text))
  where
    go : Dec (n ≤ length text) → read (take n text) ≡ read text
    go (yes l) = sym (read_same (take n text) (drop n text) (rw (length-take-le n text l) h)) ∙ ap read (take-append-drop n text)
    go (no g) = ap read (take_all n text (omega (arith, g)))
