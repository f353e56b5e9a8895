-- The whole part of a field, also one that was tested, and the month that a month gives. Of a finite field, whatever its size, the whole part is the whole number
-- `trunc_z`, nothing rounded; so the month of the year is the remainder by 12, below 12. Assumes nothing.
use Rattle.std.proofs.Common.{Some, None, Less, Equal, Greater}
use Rattle.std.specs.Ordering.{is_some_and, is_le, partial_le, partial_lt, float_partial_cmp}
use mathlib.Core.Path.{◌≡◌, refl, sym, ◌∙◌, subst}
use mathlib.Core.Bool.{Bool, true, false, cond, ◌&&◌, ◌||◌, false≢true}
use Prim.Native.Nat.{ℕ, ◌<◌, ◌≤◌, ◌^◌}
use native.Mathlib.Omega.{arith}
use lib.Dec.{T, lit<, lit≤}
use lib.IntN.{ℤ, nat_abs}
use lib.Signed.{◌≤ℤ◌}
use lib.Ieee.{Float, binary64, fits, lt, le, eq, of_int}
use lib.Ieee.Fits.{of_int-fits}
use lib.Ieee.Scale.{finite}
use Rattle.integers.specs.Whole.{floor_mod}
use Rattle.float.specs.Whole.{IsWhole, trunc_z, WholeWithin}
use Rattle.float.specs.Rounding.{trunc_f}
use Rattle.float.proofs.Rounding.{trunc-whole, trunc-by-floor, whole-finite, trunc_z-whole}
use Rattle.float.proofs.Whole.{of_int-whole}
use Rattle.float.proofs.Order.{le_yes}
use Rattle.float.proofs.Modulo.{rem-euclid-whole}
use Rattle.integers.proofs.Floor.{floor_mod-lt}
use Rattle.integers.proofs.Machine.{true-T}
use Rattle.float.proofs.Casts.{to_unsigned-whole}
use Rattle.calendar.proofs.Whole.{num-whole}
use Rattle.make.specs.Make.{whole_part, month_of_year, IsField}
use Rattle.make.proofs.Finite.{uncut, between}

-- "fields finite and truncated": `x.abs().floor().copysign(x)` is the whole part
pub part-trunc : (x : Float) → whole_part x ≡ trunc_f x
part-trunc x = trunc-by-floor x

pub part-whole : (x : Float) → T (fits binary64 x) → T (finite x) → IsWhole (whole_part x) (trunc_z x)
part-whole x h F = subst (λ (v : Float). IsWhole v (trunc_z x)) (sym (part-trunc x)) (trunc-whole x h F)

-- ---- a field: "fields finite and truncated"
pub field : (x : Float) → T (fits binary64 x) → T (finite x) → IsField x (trunc_z x)
field x h F = record { format = h; number = F; cut = refl }

pub field-whole : {x : Float} {z : ℤ} → T (fits binary64 x) → IsWhole x z → IsField x z
field-whole h w = record { format = h; number = whole-finite w; cut = trunc_z-whole w }

-- an integer `as f64`
pub field-int : (z : ℤ) → nat_abs z ≤ 2 ^ 53 → IsField (of_int binary64 z) z
field-int z h = field-whole (of_int-fits binary64 z) (of_int-whole binary64 z h)

pub field-part : {x : Float} {z : ℤ} → IsField x z → IsWhole (whole_part x) z
field-part {x} f = subst (IsWhole (whole_part x)) f.cut (part-whole x f.format f.number)

-- ---- what a range of two values that it was made of contains
le-as : (l e g : Bool) → is_some_and is_le (cond l (Some Less) (cond e (Some Equal) (cond g (Some Greater) None))) ≡ (l || e)
le-as true e g = refl
le-as false true g = refl
le-as false false true = refl
le-as false false false = refl

partial-le : (x y : Float) → partial_le float_partial_cmp x y ≡ le x y
unfolding le
partial-le x y = le-as (lt x y) (eq x y) (lt y x)

-- the range's two ends and whether it is spent, as `contains` reads them
pub in-range : (x : Float) {s e a b : Float} {d r : Bool} → s ≡ a → e ≡ b → d ≡ false
    → r ≡ (partial_le float_partial_cmp s x && cond d (partial_lt float_partial_cmp x e) (partial_le float_partial_cmp x e)) → r ≡ (le a x && le x b)
in-range x {s} {e} {a} {b} f g h k =
    k
    ∙ (λ i. partial_le float_partial_cmp (f i) x && cond (h i) (partial_lt float_partial_cmp x (g i)) (partial_le float_partial_cmp x (g i)))
    ∙ (λ i. partial-le a x i && partial-le x b i)

-- ---- a field whose whole part was found to lie between two whole numbers
pub record Within (x : Float) (least most : ℤ) : Type 0 where
  pub field : IsField x (trunc_z x)
  pub from : least ≤ℤ trunc_z x
  pub upto : trunc_z x ≤ℤ most

pub within : (x : Float) → T (fits binary64 x) → {a b : Float} {z w : ℤ} → IsWhole a z → IsWhole b w → (le a (whole_part x) && le (whole_part x) b) ≡ true → Within x z w
within x h {a} {b} {z} {w} u v e = go (le a (whole_part x)) (le (whole_part x) b) refl refl e
  where
    go : (l m : Bool) → le a (whole_part x) ≡ l → le (whole_part x) b ≡ m → (l && m) ≡ true → Within x z w
    go true true l m e =
        let f = field x h (true-T (finite x) (uncut x (between a (whole_part x) b (whole-finite u) (whole-finite v) l m))) in
        record { field = f; from = le_yes u (field-part f) l; upto = le_yes (field-part f) v m }
    go true false l m e = absurd (false≢true e)
    go false m l n e = absurd (false≢true e)

-- and as an integer
pub part-within : {x : Float} {z : ℤ} {n : ℕ} → IsField x z → nat_abs z ≤ n → WholeWithin n (whole_part x) × (trunc_z (whole_part x) ≡ z)
part-within {x} {z} {n} f h =
    let w = field-part f in
    let e = trunc_z-whole w in
    (record { whole = subst (IsWhole (whole_part x)) (sym e) w; size = subst (λ (i : ℤ). nat_abs i ≤ n) (sym e) h }, e)

-- ---- the month of the year, of a month of any size
pub month-whole : {x : Float} {z : ℤ} → IsWhole x z → month_of_year x ≡ floor_mod z 12
unfolding month_of_year
month-whole {x} {z} w = to_unsigned-whole 8 (rem-euclid-whole w (num-whole 12 (lit≤ tt)) (lit< tt) (lit≤ tt)) (omega (arith, floor_mod-lt z 12 (lit< tt)))

pub month-small : {x : Float} {z : ℤ} → IsWhole x z → month_of_year x < 12
month-small {x} {z} w = omega (arith, month-whole w, floor_mod-lt z 12 (lit< tt))
