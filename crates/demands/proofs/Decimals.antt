-- One to three decimals: which texts are new, that the old ones denote what they did, and that zeros written in behind one or two decimals
-- change nothing; so two texts that differ in these zeros rewrite to equal bytes. Assumes nothing.
use mathlib.Core.Path.{◌≡◌, refl, sym, ap, ◌∙◌, subst}
use mathlib.Core.Bool.{Bool, true, false, cond}
use mathlib.Core.List.{List, [], ◌∷◌, ◌++◌}
use mathlib.Core.Logic.{◌↔◌, ◌⊎◌, inl, inr}
use Prim.Native.Nat.{ℕ, zero, suc, ◌+◌, ◌-◌, ◌*◌, ◌≤◌}
use native.Mathlib.Omega.{arith}
use native.Mathlib.Decide.{dec_le}
use lib.Dec.{leb, eqb}
use lib.IntN.{ℤ}
use borrow.Author.Tests.{eqb-true, eq-eqb, ne_eqb, leb-true}
use Rattle.ecma262.specs.Format.{Year, Date, Time, Form, Bounds, TimeBounds, Writes, prints, thousandths, time_fields, form_fields}
use Rattle.ecma262.specs.Digits.{digits}
use Rattle.ecma262.specs.Format.Time.{toSecond, toDecimals}
use Rattle.ecma262.specs.Format.Form.{date, timed}
use Rattle.ecma262.proofs.Decimals.{three-decimals, ms_below}
use Rattle.zone.specs.Zone.{records}
use Rattle.parser.specs.declared.Fault.{Fault}
use Rattle.parser.specs.declared.Fault.TheVariants.{Bad}
use Rattle.parser.specs.Reading.{Out, ok, fault, Number, number, bind, after, give, choose, is_digit, digits_after, digits_upto, no_digit, all_of, all_digits, decimals_of, read_zone, ending}
use Rattle.parser.specs.Inner.{NotDigit}
use Rattle.parser.proofs.Stages.{decimals-written}
use Rattle.parser.proofs.Accepts.{form-unique}
use Rattle.reader.specs.Denotes.{instant_of, Denotes, AcceptedText}
use Rattle.demands.specs.Terms.{ThreeOrNone, Short, DenotesBy, with_three, digits_before}

-- ---- old texts and new ones

-- a form within its bounds has three decimals or none, or one or two
by-decimals : (f : Form) → Bounds f → ThreeOrNone f ⊎ Short f
by-decimals (date y d) b = inl tt
by-decimals (timed y d (Time.toMinute h m) z) b = inl tt
by-decimals (timed y d (toSecond h m s) z) b = inl tt
by-decimals (timed y d (toDecimals h m s places decimals) z) b = go (dec_le places 2)
  where
    go : Dec (places ≤ 2) → ThreeOrNone (timed y d (toDecimals h m s places decimals) z) ⊎ Short (timed y d (toDecimals h m s places decimals) z)
    go (yes l) = inr (b.2.decimals-ok.0, omega (arith, l))
    go (no n) = inl (omega (arith, n, b.2.decimals-ok.1))

not-both : (f : Form) → ThreeOrNone f → Short f → ⊥
not-both (date y d) e l = l
not-both (timed y d (Time.toMinute h m) z) e l = l
not-both (timed y d (toSecond h m s) z) e l = l
not-both (timed y d (toDecimals h m s places decimals) z) e l = omega (arith, l.1)

module _ (zone text : List ℕ) where
  pub new-texts : (t : ℤ) → Denotes zone text t ↔ (DenotesBy ThreeOrNone zone text t ⊎ DenotesBy Short zone text t)
  new-texts t = (λ d. to d (by-decimals d.form d.writes.bounds), from)
    where
      to : (d : Denotes zone text t) → ThreeOrNone d.form ⊎ Short d.form → DenotesBy ThreeOrNone zone text t ⊎ DenotesBy Short zone text t
      to d (inl k) = inl (record { denotes = d; kind = k })
      to d (inr k) = inr (record { denotes = d; kind = k })

      from : DenotesBy ThreeOrNone zone text t ⊎ DenotesBy Short zone text t → Denotes zone text t
      from (inl k) = k.denotes
      from (inr k) = k.denotes

  pub no-text-is-both : (t u : ℤ) → DenotesBy ThreeOrNone zone text t → DenotesBy Short zone text u → ⊥
  no-text-is-both t u a b =
      let e : b.denotes.form ≡ a.denotes.form = form-unique text b.denotes.form a.denotes.form b.denotes.writes a.denotes.writes in
      not-both a.denotes.form a.kind (subst Short e b.kind)

-- ---- three decimals as before
pub three-fields : (h m s ms : ℕ) → time_fields (toDecimals h m s 3 ms) ≡ record { hour = h; minute = m; second = s; ms = ms }
three-fields h m s ms = λ i. record { hour = h; minute = m; second = s; ms = three-decimals ms i }

pub three-bounds-as-before : (h m s ms : ℕ) → TimeBounds (toDecimals h m s 3 ms) ↔ ((h ≤ 24) × (m ≤ 59) × (s ≤ 59) × (ms ≤ 999) × (h ≡ 24 → (m ≡ 0) × (s ≡ 0) × (ms ≡ 0)))
three-bounds-as-before h m s ms = (
  λ b. (b.hour-to, b.minute-to, b.second-to, omega (arith, b.decimals-ok.2), λ q. let k = b.midnight q in (k.0, k.1, sym (three-decimals ms) ∙ k.2)),
  λ b. record {
    hour-to = b.0;
    minute-to = b.1;
    second-to = b.2;
    decimals-ok = (omega arith, omega arith, omega (arith, b.3));
    midnight = λ q. let k = b.4 q in (k.0, k.1, three-decimals ms ∙ k.2);
  },
)

-- ---- zeros written in
module _ (zone : List ℕ) where
  -- a form's text denotes its instant, and no other
  denotes-form : (f : Form) → Bounds f → (t : ℤ) → Denotes zone (prints f) t ↔ (instant_of (records zone) f ≡ t)
  denotes-form f b t = (λ d. ap (instant_of (records zone)) (form-unique (prints f) f d.form own d.writes) ∙ d.instant, λ e. record { form = f; writes = own; instant = e })
    where
      own : Writes f (prints f)
      own = record { bounds = b; printed = refl }

  same-ms : (f : Form) → (form_fields (with_three f)).ms ≡ (form_fields f).ms
  same-ms (date y d) = refl
  same-ms (timed y d (Time.toMinute h m) z) = refl
  same-ms (timed y d (toSecond h m s) z) = refl
  same-ms (timed y d (toDecimals h m s places decimals) z) = omega arith

  same-instant : (f : Form) → instant_of (records zone) (with_three f) ≡ instant_of (records zone) f
  unfolding instant_of
  same-instant (date y d) = refl
  same-instant (timed y d (Time.toMinute h m) z) = refl
  same-instant (timed y d (toSecond h m s) z) = refl
  same-instant (timed y d (toDecimals h m s places decimals) z) = rw (same-ms (timed y d (toDecimals h m s places decimals) z))

  three-bounds : (f : Form) → Bounds f → Bounds (with_three f)
  three-bounds (date y d) b = b
  three-bounds (timed y d (Time.toMinute h m) z) b = b
  three-bounds (timed y d (toSecond h m s) z) b = b
  three-bounds (timed y d (toDecimals h m s places decimals) z) b =
      let B = b.2 in
      let e = three-decimals (thousandths places decimals) in
      let l : thousandths places decimals ≤ 999 = ms_below (toDecimals h m s places decimals) B.decimals-ok in (
        b.0,
        b.1,
        record {
          hour-to = B.hour-to;
          minute-to = B.minute-to;
          second-to = B.second-to;
          decimals-ok = (omega arith, omega arith, omega (arith, l));
          midnight = λ q. let k = B.midnight q in (k.0, k.1, e ∙ k.2);
        },
        b.3,
      )

  pub with-three-denotes : (f : Form) → Bounds f → (t : ℤ) → Denotes zone (prints f) t ↔ Denotes zone (prints (with_three f)) t
  with-three-denotes f b t =
      let p = denotes-form f b t in
      let q = denotes-form (with_three f) (three-bounds f b) t in
      (λ d. q.1 (same-instant f ∙ p.0 d), λ d. p.1 (sym (same-instant f) ∙ q.0 d))

  -- and so the two are accepted together
  pub accepted-together : (f : Form) → Bounds f → AcceptedText zone (prints f) ↔ AcceptedText zone (prints (with_three f))
  accepted-together f b = (
    λ a. record { list = a.list; t = a.t; denotes = (with-three-denotes f b a.t).0 a.denotes; inside = a.inside },
    λ a. record { list = a.list; t = a.t; denotes = (with-three-denotes f b a.t).1 a.denotes; inside = a.inside },
  )

-- ---- the numbers of the other fields

-- all n digits, or the first that is missing at fault: what is read after digits that write v
as-before : (n v count m : ℕ) (s : List ℕ) → m ≡ count + n → bind (digits_after n v count s) (all_of m) ≡ digits_before n v s
unfolding digits_after all_of digits_before
as-before zero v count m s e = let c : count ≡ m = omega arith in rw (eq-eqb count m c)
as-before (suc n) v count m [] e = let c : count ≡ m → ⊥ = λ c. omega arith in rw (ne_eqb count m c)
as-before (suc n) v count m (b ∷ s) e = go (is_digit b) refl (as-before n (10 * v + (b - 48)) (count + 1) m s (omega arith))
  where
    go : {f : Fault} (x : Bool) → no_digit (b ∷ s) ≡ f → bind (digits_after n (10 * v + (b - 48)) (count + 1) s) (all_of m) ≡ digits_before n (10 * v + (b - 48)) s
        → bind (cond x (digits_after n (10 * v + (b - 48)) (count + 1) s) (ok (number v count) (b ∷ s))) (all_of m) ≡ cond x (digits_before n (10 * v + (b - 48)) s) (fault f)
    go true k more = more
    go false k more = let c : count ≡ m → ⊥ = λ c. omega arith in rw (ne_eqb count m c, k)

pub numbers-as-before : (n : ℕ) (s : List ℕ) → all_digits n s ≡ digits_before n 0 s
unfolding after
numbers-as-before n s = as-before n 0 0 n s (omega arith)

-- where three digits stood after the point, they are read as they were
pub three-digits-as-before : (h m sc : ℕ) (s : List ℕ) (v : ℕ) (t : List ℕ) → digits_before 3 0 s ≡ ok v t
    → after (digits_upto 3) (decimals_of h m sc) s ≡ ok (toDecimals h m sc 3 v) t
unfolding after all_of decimals_of
three-digits-as-before h m sc s v t e = go (digits_upto 3 s) refl (numbers-as-before 3 s ∙ e)
  where
    pick : (w count : ℕ) (u : List ℕ) → digits_upto 3 s ≡ ok (number w count) u → (x : Bool) → eqb count 3 ≡ x → cond x (ok w u) (fault (no_digit u)) ≡ ok v t
        → bind (digits_upto 3 s) (decimals_of h m sc) ≡ ok (toDecimals h m sc 3 v) t
    pick w count u h true g e =
        let c : count ≡ 3 = eqb-true count 3 g in
        let q : w ≡ v = cc in
        let r : u ≡ t = cc in
        rw (h, c, q, r)
    pick w count u h false g e = cc

    go : (o : Out Number) → digits_upto 3 s ≡ o → bind o (all_of 3) ≡ ok v t → bind (digits_upto 3 s) (decimals_of h m sc) ≡ ok (toDecimals h m sc 3 v) t
    go (ok (number w count) u) h e = pick w count u h (eqb count 3) refl e
    go (fault f) h e = cc

-- no digit after the point is at fault, as every missing digit was before
pub no-digit-after-the-point : (h m sc : ℕ) (s : List ℕ) → NotDigit s → after (digits_upto 3) (decimals_of h m sc) s ≡ fault (no_digit s)
unfolding after digits_after decimals_of
no-digit-after-the-point h m sc [] n = refl
no-digit-after-the-point h m sc (b ∷ s) n = rw n

-- a digit is none of the bytes that a zone begins with
digit-from : (b : ℕ) → is_digit b ≡ true → 48 ≤ b
digit-from b e = go (leb 48 b) refl e
  where
    go : (x : Bool) → leb 48 b ≡ x → cond x (leb b 57) false ≡ true → 48 ≤ b
    go true h e = leb-true 48 b h
    go false h e = cc

digit-upto : (b : ℕ) → is_digit b ≡ true → b ≤ 57
digit-upto b e = go (leb 48 b) e
  where
    go : (x : Bool) → cond x (leb b 57) false ≡ true → b ≤ 57
    go true e = leb-true b 57 e
    go false e = cc

-- a fourth digit is no byte that may follow three
pub fourth-digit : (y : Year) (d : Date) (h m sc ms b : ℕ) (s : List ℕ) → ms ≤ 999 → is_digit b ≡ true
    → after (after (digits_upto 3) (decimals_of h m sc)) (λ t. after read_zone (ending y d t)) (digits 3 ms ++ b ∷ s) ≡ fault Bad
unfolding after read_zone choose give ending
fourth-digit y d h m sc ms b s l e = rw (decimals-written h m sc 3 ms (b ∷ s) (omega arith, omega arith, omega arith) (λ k. absurd (omega arith)))
    (simp (ne_eqb b 90 (λ q. omega (arith, digit-upto b e, q)), ne_eqb b 43 (λ q. omega (arith, digit-from b e, q)), ne_eqb b 45 (λ q. omega (arith, digit-from b e, q))))
