-- The years 0000 to 9999 in milliseconds, over one law: a year has begun by a time's year exactly when it has begun by the time. Assumes nothing.
use mathlib.Core.Path.{◌≡◌, refl, sym, subst}
use mathlib.Core.Logic.{◌↔◌}
use lib.IntN.{ℤ, pos, negsuc, neg_ℤ}
use lib.Signed.{lt_z, ◌≤ℤ◌, ◌<ℤ◌, lt_z_yes, lt_z_no}
use Rattle.integers.proofs.Int.{ints, by-test, abs-out, at, ◌*ᵗ◌, read}
use Rattle.ecma262.specs.Date.{InRange, day_from_year, time_from_year, year_from_time}
use Rattle.ecma262.proofs.Year.{day-mono, year-is, year-start}
use Rattle.log_order.specs.Log.{InYears0To9999}

pub year-begun : (t y : ℤ) → (y ≤ℤ year_from_time t) ↔ (time_from_year y ≤ℤ t)
year-begun t y = (to, (year-is t).largest y)
  where
    to : y ≤ℤ year_from_time t → time_from_year y ≤ℤ t
    to h =
        by-test (lt_z y (year_from_time t))
        (λ c. let m : day_from_year y <ℤ day_from_year (year_from_time t) = day-mono y (year_from_time t) (lt_z_yes c) in
        omega (ints, year-start t, read (86400000 *ᵗ at (day_from_year y)), read (86400000 *ᵗ at (day_from_year (year_from_time t)))))
        (λ c. let k : year_from_time t ≤ℤ y = lt_z_no c in
        let e : year_from_time t ≡ y = omega ints in subst (λ z. time_from_year z ≤ℤ t) e (year-start t))

-- the earlier of two times is in no later year
pub year-not-later : {t u : ℤ} → t <ℤ u → year_from_time t ≤ℤ year_from_time u
year-not-later {t} {u} h = (year-is u).largest (year_from_time t) (omega (ints, year-start t))

begins : (time_from_year (pos 0) ≡ negsuc 62_167_219_199_999) × (time_from_year (pos 10000) ≡ pos 253_402_300_800_000)
unfolding day_from_year
begins = (refl, refl)

pub in-milliseconds : (t : ℤ) → InYears0To9999 t ↔ ((neg_ℤ (pos 62_167_219_200_000) ≤ℤ t) × (t ≤ℤ pos 253_402_300_799_999))
in-milliseconds t = (to, from)
  where
    to : InYears0To9999 t → (neg_ℤ (pos 62_167_219_200_000) ≤ℤ t) × (t ≤ℤ pos 253_402_300_799_999)
    to h = (
      subst (λ z. z ≤ℤ t) begins.0 ((year-begun t (pos 0)).0 (omega (ints, h.0))),
      by-test (lt_z t (pos 253_402_300_800_000)) (λ c. let l : t <ℤ pos 253_402_300_800_000 = lt_z_yes c in omega ints)
          (λ c. absurd (let y : pos 10000 ≤ℤ year_from_time t = (year-begun t (pos 10000)).1 (subst (λ z. z ≤ℤ t) (sym begins.1) (lt_z_no c)) in omega ints)),
    )

    from : (neg_ℤ (pos 62_167_219_200_000) ≤ℤ t) × (t ≤ℤ pos 253_402_300_799_999) → InYears0To9999 t
    from h = (
      (year-begun t (pos 0)).1 (subst (λ z. z ≤ℤ t) (sym begins.0) h.0),
      by-test (lt_z (year_from_time t) (pos 10000)) (λ c. let l : year_from_time t <ℤ pos 10000 = lt_z_yes c in omega ints)
          (λ c. absurd (let y : pos 253_402_300_800_000 ≤ℤ t = subst (λ z. z ≤ℤ t) begins.1 ((year-begun t (pos 10000)).0 (lt_z_no c)) in omega ints)),
    )

-- all of them lie in the range
pub years-in-range : (t : ℤ) → InYears0To9999 t → InRange t
years-in-range t h = let b = (in-milliseconds t).0 h in abs-out t (omega (ints, b.0, b.1))
