-- What `utc_t`'s test decides: NaN of a time that is not finite. Assumes nothing.
use mathlib.Core.Path.{◌≡◌, sym, ap, ◌∙◌}
use mathlib.Core.Bool.{true, false, cond}
use mathlib.Core.List.{List}
use lib.Ieee.{Float, nan, binary64, sub}
use lib.Ieee.Scale.{finite}
use Rattle.std.specs.Float.{float_is_finite}
use Rattle.float.proofs.Special.{finite_is}
use Rattle.zone.specs.Zone.{Record}
use Rattle.local.specs.Local.{shift_f, utc_f}

module _ (list : List Record) (t : Float) where
  pub utc_not_finite : float_is_finite t ≡ false → utc_f list t ≡ nan
  unfolding utc_f
  utc_not_finite e = ap (λ b. cond b (sub binary64 t (shift_f list t)) nan) (sym (finite_is t) ∙ e)

  pub utc-finite : finite t ≡ true → utc_f list t ≡ sub binary64 t (shift_f list t)
  unfolding utc_f
  utc-finite e = ap (λ b. cond b (sub binary64 t (shift_f list t)) nan) e

  pub utc_of_finite : float_is_finite t ≡ true → utc_f list t ≡ sub binary64 t (shift_f list t)
  utc_of_finite e = utc-finite (sym (finite_is t) ∙ e)
