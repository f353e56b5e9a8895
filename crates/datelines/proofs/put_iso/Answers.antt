-- `datelines::put_iso` meets its contract: the ISO writer writes the text of a time of the range. Assumes nothing.
use mathlib.Core.Path.{ap, refl}
use native.Mathlib.Omega.{arith}
use Rattle.std.specs.Prelude.{is_ok}
use Rattle.datelines.proofs.Streams.{iso_length}
use Rattle.datelines.proofs.Isos.{reply-is-text, text-length, iso-puts}
use Rattle.datelines.proofs.put_iso.Goals as goal

pub unwrap-written-requires : goal.unwrap-written-requires
unwrap-written-requires c = ap is_ok (reply-is-text c.requires.0 c.args.output.now c.requires.1 c.to_iso_string.ensures)

pub overflow_add-output : goal.overflow_add-output
overflow_add-output c =
    omega (arith, text-length c.requires.0 c.args.output.now c.requires.1 c.to_iso_string.ensures c.unwrap-written.ensures, iso_length c.args.bits, c.requires.1, c.well_formed)

pub returns : goal.returns
returns c =
    iso-puts c.requires.0 c.args.output.now c.requires.1 c.to_iso_string.ensures c.unwrap-written.ensures refl refl refl
