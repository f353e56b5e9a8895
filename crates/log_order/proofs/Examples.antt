-- Why the years are 0000 to 9999, at written times that the checker computes: the first milliseconds of the years -2 and -1, and the last of
-- 9999 with the first of 10000. Both times the earlier has the larger text. Assumes nothing.
use mathlib.Core.Path.{◌≡◌, refl}
use lib.IntN.{pos, neg_ℤ}
use lib.Signed.{◌<ℤ◌, lt_z_yes}
use Rattle.ecma262.specs.Date.{days_in_year, day_from_year, year_from_time, month_of, date_of, days_before}
use Rattle.ecma262.specs.Texts.{ascii, iso_year, iso_text}
use Rattle.log_order.specs.Smaller.{Smaller}
use Rattle.log_order.proofs.Smaller.{computed}

pub below-0 : (neg_ℤ (pos 62_230_291_200_000) <ℤ neg_ℤ (pos 62_198_755_200_000))
    × (iso_text (neg_ℤ (pos 62_230_291_200_000)) ≡ ascii "-000002-01-01T00:00:00.000Z")
    × (iso_text (neg_ℤ (pos 62_198_755_200_000)) ≡ ascii "-000001-01-01T00:00:00.000Z")
    × Smaller (ascii "-000001-01-01T00:00:00.000Z") (ascii "-000002-01-01T00:00:00.000Z")
unfolding iso_year year_from_time day_from_year days_in_year month_of date_of days_before
below-0 = (lt_z_yes tt, refl, refl, (computed (ascii "-000001-01-01T00:00:00.000Z") (ascii "-000002-01-01T00:00:00.000Z")).0 refl)

pub above-9999 : (pos 253_402_300_799_999 <ℤ pos 253_402_300_800_000)
    × (iso_text (pos 253_402_300_799_999) ≡ ascii "9999-12-31T23:59:59.999Z")
    × (iso_text (pos 253_402_300_800_000) ≡ ascii "+010000-01-01T00:00:00.000Z")
    × Smaller (ascii "+010000-01-01T00:00:00.000Z") (ascii "9999-12-31T23:59:59.999Z")
unfolding iso_year year_from_time day_from_year days_in_year month_of date_of days_before
above-9999 = (lt_z_yes tt, refl, refl, (computed (ascii "+010000-01-01T00:00:00.000Z") (ascii "9999-12-31T23:59:59.999Z")).0 refl)
