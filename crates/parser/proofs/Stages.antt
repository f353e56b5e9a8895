-- Each stage reads exactly what its part of a form prints, within its bounds: what was read is printed before what is left, and what is
-- printed is read. Assumes nothing.
use mathlib.Core.Path.{◌≡◌, refl, sym, ap, ◌∙◌}
use mathlib.Core.Bool.{Bool, true, false, cond}
use mathlib.Core.List.{List, [], ◌∷◌, ◌++◌}
use Prim.Native.Nat.{ℕ, ◌^◌, ◌≤◌, ◌<◌}
use native.Mathlib.Omega.{arith}
use lib.Dec.{eqb, leb}
use borrow.Author.Tests.{eqb-true, eqb-false, eq-eqb, ne_eqb, le-leb, leb-true}
use Rattle.ecma262.specs.Digits.{digits}
use Rattle.ecma262.specs.Format.{Year, Date, Time, Zone, sign, prints_year, prints_date, prints_time, prints_zone, time_fields, YearBounds, DateBounds, DecimalsBounds, ZoneBounds}
use Rattle.ecma262.specs.Format.Year.{four, six}
use Rattle.ecma262.specs.Format.Date.{toYear, toMonth, toDay}
use Rattle.ecma262.specs.Format.Time.{toSecond, toDecimals}
use Rattle.ecma262.specs.Format.Zone.{absent, zulu, toHour}
use Rattle.parser.specs.declared.Fault.TheVariants.{Bad, Range}
use Rattle.parser.specs.Reading.{Out, ok, fault, Reader, Number, number, bind, after, give, choose, byte, digits_upto, no_digit, all_digits, within, field, signed_year, read_year, read_day, read_date, decimals_of, read_decimals, read_second, read_time, read_offset_minute, read_offset, read_zone}
use Rattle.parser.specs.Inner.{NotDigit}
use Rattle.parser.proofs.Numbers.{IsNumber, upto_read, upto-written, number_read, number-written, Field, field-written}

-- ---- what a step read. Each takes what follows of it to any conclusion C

module _ {A B C : Type 0} {s u : List ℕ} {b : B} where
  pub on-after : (p : Reader A) (k : A → Reader B) → after p k s ≡ ok b u → ((a : A) (t : List ℕ) → p s ≡ ok a t → k a t ≡ ok b u → C) → C
  unfolding after
  on-after p k e then = go (p s) refl e
    where
      go : (o : Out A) → p s ≡ o → bind o k ≡ ok b u → C
      go (ok a t) h e = then a t h e
      go (fault f) h e = cc

within-read : (low high w : ℕ) {t u : List ℕ} {v : ℕ} → within low high w t ≡ ok v u → (low ≤ v) × (v ≤ high) × (v ≡ w) × (t ≡ u)
unfolding within
within-read low high w {t} {u} {v} e = go (leb low w) (leb w high) refl refl e
  where
    go : (x y : Bool) → leb low w ≡ x → leb w high ≡ y → cond x (cond y (ok w t) (fault Range)) (fault Range) ≡ ok v u → (low ≤ v) × (v ≤ high) × (v ≡ w) × (t ≡ u)
    go true true h g e =
        let q : v ≡ w = cc in
        let r : t ≡ u = cc in
        (omega (arith, leb-true low w h), omega (arith, leb-true w high g), q, r)
    go true false h g e = cc
    go false y h g e = cc

module _ {A C : Type 0} {s u : List ℕ} {a : A} where
  on-choose : (b : ℕ) (p q : Reader A) → choose b p q s ≡ ok a u → ((t : List ℕ) → s ≡ b ∷ t → p t ≡ ok a u → C) → (q s ≡ ok a u → C) → C
  unfolding choose
  on-choose b p q e hit miss = go s refl e
    where
      pick : (c : ℕ) (t : List ℕ) → s ≡ c ∷ t → (x : Bool) → eqb c b ≡ x → cond x (p t) (q (c ∷ t)) ≡ ok a u → C
      pick c t h true g e = hit t (h ∙ ap (λ d. d ∷ t) (eqb-true c b g)) e
      pick c t h false g e = miss (rw h e)

      go : (t : List ℕ) → s ≡ t → choose b p q t ≡ ok a u → C
      go [] h e = miss (rw h e)
      go (c ∷ t) h e = pick c t h (eqb c b) refl e

  on-give : (x : A) → give x s ≡ ok a u → (a ≡ x → s ≡ u → C) → C
  unfolding give
  on-give x e then = then (cc) (cc)

  on-byte : (b : ℕ) (k : ℕ → Reader A) → after (byte b) k s ≡ ok a u → ((t : List ℕ) → s ≡ b ∷ t → k b t ≡ ok a u → C) → C
  unfolding after byte
  on-byte b k e then = go s refl e
    where
      pick : (c : ℕ) (t : List ℕ) → s ≡ c ∷ t → (x : Bool) → eqb c b ≡ x → bind (cond x (ok c t) (fault Bad)) k ≡ ok a u → C
      pick c t h true g e = let q = eqb-true c b g in then t (h ∙ ap (λ d. d ∷ t) q) (rw q at e)
      pick c t h false g e = cc

      go : (t : List ℕ) → s ≡ t → after (byte b) k t ≡ ok a u → C
      go [] h e = cc
      go (c ∷ t) h e = pick c t h (eqb c b) refl e

  on-number : (n : ℕ) (k : ℕ → Reader A) → after (all_digits n) k s ≡ ok a u → ((v : ℕ) (t : List ℕ) → IsNumber n v s t → k v t ≡ ok a u → C) → C
  on-number n k e then = on-after (all_digits n) k e (λ v t h g. then v t (number_read n h) g)

field-read : (low high : ℕ) {s t : List ℕ} {v : ℕ} → field low high s ≡ ok v t → Field low high v s t
field-read low high {s} {t} {v} e =
    on-number 2 (within low high) e λ w r n g.
    let x = within-read low high w g in
    record { from = x.0; to = x.1; word = n.word ∙ rw (x.2, x.3) }

on-field : {A C : Type 0} {s u : List ℕ} {a : A} (low high : ℕ) (k : ℕ → Reader A) → after (field low high) k s ≡ ok a u
    → ((v : ℕ) (t : List ℕ) → low ≤ v → v ≤ high → s ≡ digits 2 v ++ t → k v t ≡ ok a u → C) → C
on-field low high k e then = on-after (field low high) k e λ v t h g. let f = field-read low high h in then v t f.from f.to f.word g

-- ---- what a stage read is printed

pub record Part {A : Type 0} (prints : A → List ℕ) (Bounds : A → Type 0) (s : List ℕ) (a : A) (t : List ℕ) : Type 0 where
  pub bounds : Bounds a
  pub printed : s ≡ prints a ++ t

part : {A : Type 0} (prints : A → List ℕ) (Bounds : A → Type 0) {s t : List ℕ} {a : A} (x : A) → a ≡ x → Bounds x → s ≡ prints x ++ t → Part prints Bounds s a t
part prints Bounds x e b p = rw e (record { bounds = b; printed = p })

signed-read : (n : Bool) (y : ℕ) {s t : List ℕ} {Y : Year} → y < 1000000 → signed_year n y s ≡ ok Y t → (Y ≡ six n y) × YearBounds (six n y) × (s ≡ t)
unfolding signed_year
signed-read true y {s} {t} {Y} l e = go (eqb y 0) refl e
  where
    go : (x : Bool) → eqb y 0 ≡ x → cond x (fault Range) (ok (six true y) s) ≡ ok Y t → (Y ≡ six true y) × YearBounds (six true y) × (s ≡ t)
    go true h e = cc
    go false h e = let z = eqb-false y 0 h in (cc, (omega (arith, z), omega arith), cc)
signed-read false y l e = (cc, omega arith, cc)

pub year-read : (s : List ℕ) (y : Year) (t : List ℕ) → read_year s ≡ ok y t → Part prints_year YearBounds s y t
unfolding read_year
year-read s y t e =
    on-choose 43 _ _ e (λ r q e₁. go false r q e₁)
    (λ e₁. on-choose 45 _ _ e₁ (λ r q e₂. go true r q e₂)
    (λ e₂. on-number 4 _ e₂ λ v r n e₃. on-give (four v) e₃ λ p q. part prints_year YearBounds (four v) p (omega (arith, n.small)) (n.word ∙ rw q)))
  where
    go : (n : Bool) (r : List ℕ) → s ≡ sign n ∷ r → after (all_digits 6) (signed_year n) r ≡ ok y t → Part prints_year YearBounds s y t
    go n r q e =
        on-number 6 _ e λ v u m e₁.
        let x = signed-read n v m.small e₁ in
        part prints_year YearBounds (six n v) x.0 x.1 (q ∙ ap (λ l. sign n ∷ l) (m.word ∙ rw x.2))

pub date-read : (s : List ℕ) (d : Date) (t : List ℕ) → read_date s ≡ ok d t → Part prints_date DateBounds s d t
unfolding read_date read_day
date-read s d t e =
    on-choose 45 _ _ e
    (λ r q e₁. on-field 1 12 _ e₁ λ m r₁ a b q₁ e₂.
    on-choose 45 _ _ e₂
    (λ r₂ q₂ e₃. on-field 1 _ _ e₃ λ v r₃ c g q₃ e₄. on-give (toDay m v) e₄ λ p q₄.
    part prints_date DateBounds (toDay m v) p (a, b, c, omega (arith, g)) (rw (q, q₁, q₂, q₃, q₄)))
    (λ e₃. on-give (toMonth m) e₃ λ p q₂. part prints_date DateBounds (toMonth m) p (a, b) (rw (q, q₁, q₂))))
    (λ e₁. on-give toYear e₁ λ p q. part prints_date DateBounds toYear p tt q)

-- the bounds of a time but for hour 24's, which is judged at the end of the text
pub record Clock (t : Time) : Type 0 where
  pub hour-to : (time_fields t).hour ≤ 24
  pub minute-to : (time_fields t).minute ≤ 59
  pub second-to : (time_fields t).second ≤ 59
  pub decimals-ok : DecimalsBounds t

-- after the point: at least one digit, and at most three
on-decimals : {C : Type 0} (n h m sc : ℕ) {s t : List ℕ} {x : Time} → after (digits_upto n) (decimals_of h m sc) s ≡ ok x t → n ≤ 3
    → ((places d : ℕ) → DecimalsBounds (toDecimals h m sc places d) → x ≡ toDecimals h m sc places d → s ≡ digits places d ++ t → C) → C
unfolding decimals_of
on-decimals {C} n h m sc {s} {t} {x} e l then = on-after (digits_upto n) (decimals_of h m sc) e read
  where
    pick : (v count : ℕ) (u : List ℕ) {least : ℕ} (z : Bool) → cond z (ok (toDecimals h m sc count v) u) (fault (no_digit u)) ≡ ok x t → leb least count ≡ z → 1 ≤ least
        → (count ≤ n) × IsNumber count v s u → C
    pick v count u {least} true e g k r =
        let q : u ≡ t = cc in
        then count v (omega (arith, leb-true least count g), omega (arith, r.0), r.1.small) (cc) (r.1.word ∙ rw q)
    pick v count u false e g k r = cc

    read : (r : Number) (u : List ℕ) → digits_upto n s ≡ ok r u → decimals_of h m sc r u ≡ ok x t → C
    read (number v count) u h e = pick v count u _ e refl (omega arith) (upto_read n h)

pub time-read : (s : List ℕ) (x : Time) (t : List ℕ) → read_time s ≡ ok x t → Part prints_time Clock s x t
unfolding read_time read_second read_decimals
time-read s x t e =
    on-field 0 24 _ e λ h r _ lh q e₁.
    on-byte 58 _ e₁ λ r₁ q₁ e₂.
    on-field 0 59 _ e₂ λ m r₂ _ lm q₂ e₃.
    on-choose 58 _ _ e₃
    (λ r₃ q₃ e₄. on-field 0 59 _ e₄ λ sc r₄ _ ls q₄ e₅.
    on-choose 46 _ _ e₅
    (λ r₅ q₅ e₆. on-decimals _ h m sc e₆ (omega arith) λ places d b p w.
    part prints_time Clock (toDecimals h m sc places d) p (record { hour-to = lh; minute-to = lm; second-to = ls; decimals-ok = b })
    (rw (q, q₁, q₂, q₃, q₄, q₅, w)))
    (λ e₆. on-give (toSecond h m sc) e₆ λ p q₅.
    part prints_time Clock (toSecond h m sc) p (record { hour-to = lh; minute-to = lm; second-to = ls; decimals-ok = tt }) (rw (q, q₁, q₂, q₃, q₄, q₅))))
    (λ e₄. on-give (Time.toMinute h m) e₄ λ p q₃.
    part prints_time Clock (Time.toMinute h m) p (record { hour-to = lh; minute-to = lm; second-to = omega arith; decimals-ok = tt }) (rw (q, q₁, q₂, q₃)))

-- the decimals of a time that was read are one to three digits
pub decimals_read : (s : List ℕ) (x : Time) (t : List ℕ) → ok x t ≡ read_time s → DecimalsBounds x
decimals_read s x t e = (time-read s x t (sym e)).bounds.decimals-ok

pub zone-read : (s : List ℕ) (z : Zone) (t : List ℕ) → read_zone s ≡ ok z t → Part prints_zone ZoneBounds s z t
unfolding read_zone read_offset read_offset_minute
zone-read s z t e =
    on-choose 90 _ _ e (λ r q e₁. on-give zulu e₁ λ p q₁. part prints_zone ZoneBounds zulu p tt (rw (q, q₁)))
    (λ e₁. on-choose 43 _ _ e₁ (λ r q e₂. go false r q e₂)
    (λ e₂. on-choose 45 _ _ e₂ (λ r q e₃. go true r q e₃)
    (λ e₃. on-give absent e₃ λ p q. part prints_zone ZoneBounds absent p tt q)))
  where
    go : (n : Bool) (r : List ℕ) → s ≡ sign n ∷ r → read_offset n r ≡ ok z t → Part prints_zone ZoneBounds s z t
    go n r q e =
        on-field 0 23 _ e λ h r₁ _ lh q₁ e₁.
        on-choose 58 _ _ e₁
        (λ r₂ q₂ e₂. on-field 0 59 _ e₂ λ m r₃ _ lm q₃ e₃. on-give (Zone.toMinute n h m) e₃ λ p q₄.
        part prints_zone ZoneBounds (Zone.toMinute n h m) p (lh, lm) (rw (q, q₁, q₂, q₃, q₄)))
        (λ e₂. on-give (toHour n h) e₂ λ p q₂. part prints_zone ZoneBounds (toHour n h) p lh (rw (q, q₁, q₂)))

-- ---- what a stage prints is read

-- the text t does not begin with the byte b
abbrev pub Not : ℕ → List ℕ → Type 0
Not b [] = Unit
Not b (c ∷ t) = c ≡ b → ⊥

skip : {A : Type 0} (b : ℕ) (p q : Reader A) (t : List ℕ) → Not b t → choose b p q t ≡ q t
unfolding choose
skip b p q [] h = refl
skip b p q (c ∷ t) h = rw (ne_eqb c b h)

field-then : {A : Type 0} (low high : ℕ) (k : ℕ → Reader A) (v : ℕ) (t : List ℕ) → low ≤ v → v ≤ high → high ≤ 99 → after (field low high) k (digits 2 v ++ t) ≡ k v t
unfolding after
field-then low high k v t a b c = rw (field-written low high v t a b c)

number-then : {A : Type 0} (n : ℕ) (k : ℕ → Reader A) (v : ℕ) (t : List ℕ) → v < 10 ^ n → after (all_digits n) k (digits n v ++ t) ≡ k v t
unfolding after
number-then n k v t h = rw (number-written n v t h)

-- the byte b, and then what p reads
chosen : {A : Type 0} (b : ℕ) (p q : Reader A) (t : List ℕ) → choose b p q (b ∷ t) ≡ p t
unfolding choose
chosen b p q t = rw (eq-eqb b b refl)

byte-then : {A : Type 0} (b : ℕ) (k : ℕ → Reader A) (t : List ℕ) → after (byte b) k (b ∷ t) ≡ k b t
unfolding after byte
byte-then b k t = rw (eq-eqb b b refl)

pub year-written : (y : Year) (t : List ℕ) → YearBounds y → read_year (prints_year y ++ t) ≡ ok y t
unfolding read_year signed_year give
year-written (four y) t h =
    skip 43 _ _ (digits 4 y ++ t) (λ e. omega arith) ∙ skip 45 _ _ (digits 4 y ++ t) (λ e. omega arith) ∙ number-then 4 (λ y. give (four y)) y t (omega arith)
year-written (six true y) t h =
    skip 43 _ _ (45 ∷ digits 6 y ++ t) (λ e. omega arith) ∙ chosen 45 _ _ (digits 6 y ++ t) ∙ number-then 6 (signed_year true) y t (omega arith)
    ∙ rw (ne_eqb y 0 (λ e. omega arith))
year-written (six false y) t h = chosen 43 _ _ (digits 6 y ++ t) ∙ number-then 6 (signed_year false) y t (omega arith)

pub date-written : (d : Date) (t : List ℕ) → DateBounds d → Not 45 t → read_date (prints_date d ++ t) ≡ ok d t
unfolding read_date read_day give
date-written toYear t h n = skip 45 _ _ t n
date-written (toMonth m) t h n =
    chosen 45 _ _ (digits 2 m ++ t) ∙ field-then 1 12 read_day m t h.0 h.1 (omega arith) ∙ skip 45 _ _ t n
date-written (toDay m d) t h n =
    chosen 45 _ _ (digits 2 m ++ 45 ∷ digits 2 d ++ t) ∙ field-then 1 12 read_day m (45 ∷ digits 2 d ++ t) h.0 h.1 (omega arith)
    ∙ chosen 45 _ _ (digits 2 d ++ t) ∙ field-then 1 31 (λ d. give (toDay m d)) d t h.2 h.3 (omega arith)

-- hour, `:` and minute
minute-written : (h m : ℕ) (t : List ℕ) → h ≤ 24 → m ≤ 59 → read_time (digits 2 h ++ 58 ∷ digits 2 m ++ t) ≡ read_second h m t
unfolding read_time
minute-written h m t a b =
    field-then 0 24 _ h (58 ∷ digits 2 m ++ t) (omega arith) a (omega arith) ∙ byte-then 58 _ (digits 2 m ++ t)
    ∙ field-then 0 59 (read_second h) m t (omega arith) b (omega arith)

-- one to three digits, behind which no digit stands where they are fewer than three
pub decimals-written : (h m s places d : ℕ) (t : List ℕ) → DecimalsBounds (toDecimals h m s places d) → (places < 3 → NotDigit t)
    → after (digits_upto 3) (decimals_of h m s) (digits places d ++ t) ≡ ok (toDecimals h m s places d) t
unfolding after decimals_of
decimals-written h m s places d t b n = rw (upto-written 3 places d t b.1 b.2 n) (simp (le-leb 1 places b.0))

pub time-written : (x : Time) (t : List ℕ) → Clock x → Not 58 t → Not 46 t → NotDigit t → read_time (prints_time x ++ t) ≡ ok x t
unfolding read_second read_decimals give
time-written (Time.toMinute h m) t c n k g = minute-written h m t c.hour-to c.minute-to ∙ skip 58 _ _ t n
time-written (toSecond h m s) t c n k g =
    minute-written h m (58 ∷ digits 2 s ++ t) c.hour-to c.minute-to ∙ chosen 58 _ _ (digits 2 s ++ t)
    ∙ field-then 0 59 (read_decimals h m) s t (omega arith) c.second-to (omega arith) ∙ skip 46 _ _ t k
time-written (toDecimals h m s places d) t c n k g =
    minute-written h m (58 ∷ digits 2 s ++ 46 ∷ digits places d ++ t) c.hour-to c.minute-to ∙ chosen 58 _ _ (digits 2 s ++ 46 ∷ digits places d ++ t)
    ∙ field-then 0 59 (read_decimals h m) s (46 ∷ digits places d ++ t) (omega arith) c.second-to (omega arith)
    ∙ chosen 46 _ _ (digits places d ++ t) ∙ decimals-written h m s places d t c.decimals-ok (λ l. g)

-- a zone ends the text
offset-written : (n : Bool) (h : ℕ) (t : List ℕ) → h ≤ 23 → read_zone (sign n ∷ digits 2 h ++ t) ≡ read_offset_minute n h t
unfolding read_zone read_offset
offset-written true h t l =
    skip 90 _ _ (45 ∷ digits 2 h ++ t) (λ e. omega arith) ∙ skip 43 _ _ (45 ∷ digits 2 h ++ t) (λ e. omega arith) ∙ chosen 45 _ _ (digits 2 h ++ t)
    ∙ field-then 0 23 (read_offset_minute true) h t (omega arith) l (omega arith)
offset-written false h t l =
    skip 90 _ _ (43 ∷ digits 2 h ++ t) (λ e. omega arith) ∙ chosen 43 _ _ (digits 2 h ++ t) ∙ field-then 0 23 (read_offset_minute false) h t (omega arith) l (omega arith)

pub zone-written : (z : Zone) → ZoneBounds z → read_zone (prints_zone z) ≡ ok z []
unfolding read_zone read_offset_minute choose give
zone-written absent b = refl
zone-written zulu b = refl
zone-written (toHour n h) b = offset-written n h [] b
zone-written (Zone.toMinute n h m) b =
    offset-written n h (58 ∷ digits 2 m) b.0 ∙ field-then 0 59 (λ m. give (Zone.toMinute n h m)) m [] (omega arith) b.1 (omega arith)

-- a zone begins with no byte that a second or decimals begin with, and with no digit
pub zone-start : (z : Zone) → Not 58 (prints_zone z) × Not 46 (prints_zone z) × NotDigit (prints_zone z)
zone-start absent = (tt, tt, tt)
zone-start zulu = ((λ e. omega arith), (λ e. omega arith), refl)
zone-start (toHour true h) = ((λ e. omega arith), (λ e. omega arith), refl)
zone-start (toHour false h) = ((λ e. omega arith), (λ e. omega arith), refl)
zone-start (Zone.toMinute true h m) = ((λ e. omega arith), (λ e. omega arith), refl)
zone-start (Zone.toMinute false h m) = ((λ e. omega arith), (λ e. omega arith), refl)
