-- A search by halving in a log: a list along which what is sought never comes back has exactly one place that parts it; and of a log's
-- instants and lines each such place is one of the other. Assumes nothing.
use mathlib.Core.Path.{◌≡◌, refl, sym, ◌∙◌, subst}
use mathlib.Core.Bool.{Bool, not}
use mathlib.Core.Logic.{◌↔◌}
use mathlib.Core.List.{List, [], ◌∷◌, map}
use Prim.Native.Nat.{ℕ, zero, suc, ◌≤◌, ◌<◌}
use native.Mathlib.Omega.{arith}
use lib.Dec.{T, T_not, ltb, ltb→lt, nltb→le}
use lib.IntN.{ℤ, pos}
use lib.Signed.{lt_z, ◌≤ℤ◌, ◌<ℤ◌, lt_z_yes, lt_z_no}
use lib.ListN.{length, length-map, get_or, get_or-map}
use Rattle.std.specs.Prelude.{All}
use Rattle.integers.proofs.Int.{ints, by-test}
use Rattle.ecma262.specs.Texts.{iso_text}
use Rattle.log_order.specs.Smaller.{Smaller}
use Rattle.log_order.specs.Log.{InYears0To9999, Log, Line, NonFalling, Parts}
use Rattle.log_order.proofs.Lines.{each-line}
use Rattle.log_order.proofs.Order.{line-order, line-equal}

-- ---- one test at the places 0, .., n - 1, which does not pass again once it has failed
record Found (test : ℕ → Bool) (n : ℕ) : Type 0 where
  pub at : ℕ
  pub within : at ≤ n
  pub ahead : (k : ℕ) → k < at → T (test k)
  pub behind : (k : ℕ) → at ≤ k → k < n → T (not (test k))

place-of : (test : ℕ → Bool) (n : ℕ) → ((i j : ℕ) → i < j → j < n → T (test j) → T (test i)) → Found test n
place-of test zero f = record { at = 0; within = omega arith; ahead = λ k h. absurd (omega arith); behind = λ k h l. absurd (omega arith) }
place-of test (suc n) f =
    by-test (test n)
    (λ c. record {
      at = suc n;
      within = omega arith;
      ahead = λ k h. by-test (ltb k n) (λ d. f k n (ltb→lt k n d) (omega arith) c) (λ d. let l : n ≤ k = nltb→le k n d in let e : n ≡ k = omega arith in subst (λ i. T (test i)) e c);
      behind = λ k h l. absurd (omega arith);
    })
    (λ c. longer c (place-of test n (λ i j h l. f i j h (omega arith))))
  where
    longer : T (not (test n)) → Found test n → Found test (suc n)
    longer c p =
        record {
          at = p.at;
          within = omega (arith, p.within);
          ahead = p.ahead;
          behind = λ k h l. by-test (ltb k n) (λ d. p.behind k h (ltb→lt k n d)) (λ d. let g : n ≤ k = nltb→le k n d in let e : n ≡ k = omega arith in subst (λ i. T (not (test i))) e c);
        }

-- ---- of a list
module _ {A : Type 0} (Before : A → Type 0) (entries : List A) where
  -- no two places part it
  pub one-place : (a b : ℕ) → A → Parts Before entries a → Parts Before entries b → a ≡ b
  one-place a b x p q =
      by-test (ltb a b) (λ c. absurd (apart a b p q (ltb→lt a b c)))
      (λ c. by-test (ltb b a) (λ d. absurd (apart b a q p (ltb→lt b a d))) (λ d. let g : b ≤ a = nltb→le a b c in let h : a ≤ b = nltb→le b a d in omega arith))
    where
      apart : (a b : ℕ) → Parts Before entries a → Parts Before entries b → a < b → ⊥
      apart a b p q h = p.behind a x (omega arith) (omega (arith, q.within)) (q.ahead a x (omega arith))

-- ---- of instants in time order
-- an entry is the same whatever would stand for one past the end
same-entry : {A : Type 0} (entries : List A) (k : ℕ) (x y : A) → k < length entries → get_or entries k x ≡ get_or entries k y
same-entry [] k x y h = absurd (omega arith)
same-entry (e ∷ es) zero x y h = refl
same-entry (e ∷ es) (suc k) x y h = same-entry es k x y (omega arith)

pub earlier-place : (times : List ℤ) → NonFalling (λ t u. t <ℤ u) times → (u : ℤ) → (place : ℕ) × Parts (λ t. t <ℤ u) times place
earlier-place times order u = (
  p.at,
  record {
    within = p.within;
    ahead = λ k x h. subst (λ t. t <ℤ u) (same-entry times k (pos 0) x (omega (arith, p.within))) (lt_z_yes (p.ahead k h));
    behind = λ k x h l b. T_not _ (p.behind k h l) (subst (λ t. t <ℤ u) (same-entry times k x (pos 0) l) b).lt;
  },
)
  where
    p : Found (λ k. lt_z (get_or times k (pos 0)) u) (length times)
    p = place-of (λ k. lt_z (get_or times k (pos 0)) u) (length times)
        (λ i j h l c. by-test (lt_z (get_or times i (pos 0)) u) (λ d. d)
        (λ d. absurd (order i j (pos 0) h l (let f : get_or times j (pos 0) <ℤ u = lt_z_yes c in let g : u ≤ℤ get_or times i (pos 0) = lt_z_no d in omega ints))))

-- ---- of a log
module _ {times : List ℤ} {lines : List (List ℕ)} (log : Log times lines) where
  time-place : {k : ℕ} → k < length lines → k < length times
  time-place h = omega (arith, log.as-many)

  line-place : {k : ℕ} → k < length times → k < length lines
  line-place h = omega (arith, log.as-many)

  pub in-byte-order : NonFalling (λ t u. t <ℤ u) times ↔ NonFalling Smaller lines
  in-byte-order = (
    (λ f i j x h l r. f i j (pos 0) h (time-place l) ((line-order (log.each j (pos 0) x l) (log.each i (pos 0) x (omega arith))).1 r)),
    (λ f i j t h l r. f i j [] h (line-place l) ((line-order (log.each j t [] (line-place l)) (log.each i t [] (line-place (omega arith)))).0 r)),
  )

  pub smaller-are-earlier : {u : ℤ} {w : List ℕ} → Line u w → (k : ℕ) (t : ℤ) (line : List ℕ) → k < length lines
      → ((get_or times k t <ℤ u) ↔ Smaller (get_or lines k line) w) × ((get_or times k t ≡ u) ↔ (get_or lines k line ≡ w))
  smaller-are-earlier q k t line h = (line-order (log.each k t line h) q, line-equal (log.each k t line h) q)

  pub same-place : {u : ℤ} {w : List ℕ} → Line u w → (place : ℕ) → Parts (λ t. t <ℤ u) times place ↔ Parts (λ s. Smaller s w) lines place
  same-place {u} {w} q place = (to, from)
    where
      to : Parts (λ t. t <ℤ u) times place → Parts (λ s. Smaller s w) lines place
      to p = record {
        within = omega (arith, p.within, log.as-many);
        ahead = λ k x h. (line-order (log.each k (pos 0) x (omega (arith, p.within, log.as-many))) q).0 (p.ahead k (pos 0) h);
        behind = λ k x h l r. p.behind k (pos 0) h (time-place l) ((line-order (log.each k (pos 0) x l) q).1 r);
      }

      from : Parts (λ s. Smaller s w) lines place → Parts (λ t. t <ℤ u) times place
      from p = record {
        within = omega (arith, p.within, log.as-many);
        ahead = λ k t h. (line-order (log.each k t [] (omega (arith, p.within))) q).1 (p.ahead k [] h);
        behind = λ k t h l r. p.behind k [] h (line-place l) ((line-order (log.each k t [] (line-place l)) q).0 r);
      }

  pub exactly-one-place : NonFalling (λ t u. t <ℤ u) times → {u : ℤ} {w : List ℕ} → Line u w
      → (place : ℕ) × Parts (λ s. Smaller s w) lines place × ((other : ℕ) → Parts (λ s. Smaller s w) lines other → other ≡ place)
  exactly-one-place order {u} {w} q =
      let p = earlier-place times order u in
      let there : Parts (λ s. Smaller s w) lines p.0 = (same-place q p.0).0 p.1 in
      (p.0, there, λ other o. one-place (λ s. Smaller s w) lines other p.0 [] o there)

-- ---- the texts of any instants of these years are a log
pub texts-log : (times : List ℤ) → All InYears0To9999 times → Log times (map iso_text times)
texts-log times y =
    record {
      as-many = sym (length-map times iso_text);
      each = λ k t line h.
          let l : k < length times = subst (λ n. k < n) (length-map times iso_text) h in
          subst (Line (get_or times k t)) (sym (get_or-map iso_text times k t) ∙ same-entry (map iso_text times) k (iso_text t) line h)
          (each-line (get_or times k t) (y k t l));
    }
