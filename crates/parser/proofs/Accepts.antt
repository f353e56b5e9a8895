-- The accepted set: a text is read as a form exactly when the form, within its bounds, prints the text; so the form is unique, and no
-- accepted text is longer than 32 bytes. Assumes nothing.
use mathlib.Core.Path.{◌≡◌, refl, sym, ap}
use mathlib.Core.Logic.{◌↔◌}
use mathlib.Core.Bool.{Bool, true, false, cond}
use mathlib.Core.List.{List, [], ◌∷◌, ◌++◌, append-nil}
use Prim.Native.Nat.{ℕ, ◌≤◌}
use native.Mathlib.Omega.{arith}
use lib.Dec.{eqb}
use lib.ListN.{length, length-append}
use borrow.Author.Tests.{eqb-true, eq-eqb}
use Rattle.ecma262.specs.Format.{Year, Date, Time, Zone, Form, prints, prints_year, prints_date, prints_time, prints_zone, time_fields, DecimalsBounds, TimeBounds, Bounds, Writes}
use Rattle.ecma262.specs.Format.Year.{four, six}
use Rattle.ecma262.specs.Format.Date.{toYear, toMonth, toDay}
use Rattle.ecma262.specs.Format.Time.{toSecond, toDecimals}
use Rattle.ecma262.specs.Format.Zone.{absent, zulu, toHour}
use Rattle.ecma262.specs.Format.Form.{date, timed}
use Rattle.ecma262.proofs.Digits.{length_digits}
use Rattle.parser.specs.declared.Fault.TheVariants.{Range}
use Rattle.parser.specs.Reading.{ok, fault, after, read_year, read_date, read_time, read_zone, time_allowed, after_date, ending, time_part, rest, read}
use Rattle.parser.proofs.Stages.{on-after, Clock, year-read, date-read, time-read, zone-read, year-written, date-written, time-written, zone-written, zone-start}

-- ---- hour 24

module _ (t : Time) where
  midnight-read : time_allowed t ≡ true → (time_fields t).hour ≡ 24 → ((time_fields t).minute ≡ 0) × ((time_fields t).second ≡ 0) × ((time_fields t).ms ≡ 0)
  midnight-read e q = go (eqb (time_fields t).minute 0) (eqb (time_fields t).second 0) (eqb (time_fields t).ms 0) refl refl refl (simp (eq-eqb (time_fields t).hour 24 q) at e)
    where
      go : (x y z : Bool) → eqb (time_fields t).minute 0 ≡ x → eqb (time_fields t).second 0 ≡ y → eqb (time_fields t).ms 0 ≡ z
          → cond x (cond y z false) false ≡ true → ((time_fields t).minute ≡ 0) × ((time_fields t).second ≡ 0) × ((time_fields t).ms ≡ 0)
      go true true true a b c e = (eqb-true _ 0 a, eqb-true _ 0 b, eqb-true _ 0 c)
      go true true false a b c e = cc
      go true false z a b c e = cc
      go false y z a b c e = cc

  midnight-written : ((time_fields t).hour ≡ 24 → ((time_fields t).minute ≡ 0) × ((time_fields t).second ≡ 0) × ((time_fields t).ms ≡ 0)) → time_allowed t ≡ true
  midnight-written q = go (eqb (time_fields t).hour 24) refl
    where
      go : (x : Bool) → eqb (time_fields t).hour 24 ≡ x → time_allowed t ≡ true
      go true e = let z = q (eqb-true (time_fields t).hour 24 e) in rw (e, z.0, z.1, z.2)
      go false e = rw e

-- ---- a text that is read is printed by its form

-- the end of a text with a time
ending-read : (y : Year) (d : Date) (t : Time) (z : Zone) (s : List ℕ) {f : Form} {u : List ℕ} → ending y d t z s ≡ ok f u → (s ≡ []) × (time_allowed t ≡ true) × (f ≡ timed y d t z)
unfolding ending
ending-read y d t z [] {f} {u} e = go (time_allowed t) refl e
  where
    go : (x : Bool) → time_allowed t ≡ x → cond x (ok (timed y d t z) []) (fault Range) ≡ ok f u → (◌≡◌ {A = List ℕ} [] []) × (time_allowed t ≡ true) × (f ≡ timed y d t z)
    go true h e = (refl, h, cc)
    go false h e = cc
ending-read y d t z (b ∷ s) e = cc

-- the end after a date, or `T`
rest_read : {C : Type 0} (y : Year) (d : Date) (s : List ℕ) {f : Form} {u : List ℕ} → rest y d s ≡ ok f u → (s ≡ [] → f ≡ date y d → C) → ((t : List ℕ) → s ≡ 84 ∷ t → time_part y d t ≡ ok f u → C) → C
unfolding rest
rest_read y d [] e end time = end refl (cc)
rest_read {C} y d (b ∷ s) {f} {u} e end time = go (eqb b 84) refl e
  where
    go : (x : Bool) → eqb b 84 ≡ x → cond x (time_part y d s) (fault (after_date d)) ≡ ok f u → C
    go true h e = time s (ap (λ c. c ∷ s) (eqb-true b 84 h)) e
    go false h e = cc

time-bounds : (t : Time) → Clock t → time_allowed t ≡ true → TimeBounds t
time-bounds t c e = record {
  hour-to = c.hour-to;
  minute-to = c.minute-to;
  second-to = c.second-to;
  decimals-ok = c.decimals-ok;
  midnight = midnight-read t e;
}

writes : (f : Form) {g : Form} {text : List ℕ} → g ≡ f → Bounds f → text ≡ prints f → Writes g text
writes f e b p = rw e (record { bounds = b; printed = sym p })

pub read-printed : (text : List ℕ) (f : Form) {left : List ℕ} → read text ≡ ok f left → Writes f text
unfolding read time_part
read-printed text f e =
    on-after read_year _ e λ y s h e₁.
    on-after read_date _ e₁ λ d r g e₂.
    let Y = year-read text y s h in
    let D = date-read s d r g in
    rest_read y d r e₂
    (λ q p. writes (date y d) p (Y.bounds, D.bounds) (rw (Y.printed, D.printed, q, append-nil (prints_date d))))
    (λ t q e₃.
    on-after read_time _ e₃ λ x u k e₄.
    on-after read_zone _ e₄ λ z v l e₅.
    let T = time-read t x u k in
    let Z = zone-read u z v l in
    let E = ending-read y d x z v e₅ in
    writes (timed y d x z) E.2 (Y.bounds, D.bounds, time-bounds x T.bounds E.1, Z.bounds)
    (rw (Y.printed, D.printed, q, T.printed, Z.printed, E.0, append-nil (prints_zone z))))

-- ---- a text that a form prints is read as that form

clock : (t : Time) → TimeBounds t → Clock t
clock t b = record { hour-to = b.hour-to; minute-to = b.minute-to; second-to = b.second-to; decimals-ok = b.decimals-ok }

printed-form : (f : Form) → Bounds f → read (prints f) ≡ ok f []
unfolding after read rest time_part ending
printed-form (date y d) b =
    rw (year-written y (prints_date d) b.0) (rw (sym (append-nil (prints_date d))) (rw (date-written d [] b.1 tt)))
printed-form (timed y d t z) b =
    let n = zone-start z in
    let B = b.2 in
    rw (
      year-written y (prints_date d ++ (84 ∷ (prints_time t ++ prints_zone z))) b.0,
      date-written d (84 ∷ (prints_time t ++ prints_zone z)) b.1 (λ e. omega arith),
      time-written t (prints_zone z) (clock t B) n.0 n.1 n.2,
      zone-written z b.3,
      midnight-written t B.midnight,
    )

pub printed-read : (text : List ℕ) (f : Form) → Writes f text → read text ≡ ok f []
printed-read text f w = rw (sym w.printed) (printed-form f w.bounds)

-- ---- the theorems

-- a text is read as the form f exactly when f, within its bounds, prints it
pub accepts : (text : List ℕ) (f : Form) → (read text ≡ ok f []) ↔ Writes f text
accepts text f = (read-printed text f, printed-read text f)

-- a text that is read is read to its end
pub nothing_left : (text : List ℕ) (f : Form) {left : List ℕ} → read text ≡ ok f left → left ≡ []
nothing_left text f e = let w = printed-read text f (read-printed text f e) in cc

-- no two forms print one text
pub form-unique : (text : List ℕ) (f g : Form) → Writes f text → Writes g text → f ≡ g
form-unique text f g a b =
    let p = printed-read text f a in
    let q = printed-read text g b in
    cc

-- ---- how long a text can be

year-length : (y : Year) → length (prints_year y) ≤ 7
year-length (four y) = omega arith
year-length (six n y) = omega arith

date-length : (d : Date) → length (prints_date d) ≤ 6
date-length toYear = omega arith
date-length (toMonth m) = omega arith
date-length (toDay m d) = omega arith

time-length : (t : Time) → DecimalsBounds t → length (prints_time t) ≤ 12
time-length (Time.toMinute h m) b = omega arith
time-length (toSecond h m s) b = omega arith
time-length (toDecimals h m s places d) b = omega (arith, length_digits places d, b.1)

zone-length : (z : Zone) → length (prints_zone z) ≤ 6
zone-length absent = omega arith
zone-length zulu = omega arith
zone-length (toHour n h) = omega arith
zone-length (Zone.toMinute n h m) = omega arith

pub prints-length : (f : Form) → Bounds f → length (prints f) ≤ 32
prints-length (date y d) b = simp length-append (omega (arith, year-length y, date-length d))
prints-length (timed y d t z) b = simp length-append (omega (arith, year-length y, date-length d, time-length t b.2.decimals-ok, zone-length z))

-- no accepted text is longer than 32 bytes
pub accepted-length : (text : List ℕ) (f : Form) {left : List ℕ} → read text ≡ ok f left → length text ≤ 32
accepted-length text f e = let w = read-printed text f e in rw (sym w.printed) (prints-length f w.bounds)

-- and one is as long: +000000-01-01T00:00:00.000+00:00
longest : length (prints (timed (six false 0) (toDay 1 1) (toDecimals 0 0 0 3 0) (Zone.toMinute false 0 0))) ≡ 32
longest = refl
