-- `text::Output::put_all` meets its contract: the copy stands where it was put. Assumes nothing.
use mathlib.Core.Path.{refl}
use native.Mathlib.Omega.{arith}
use Rattle.text.proofs.Runs.{part-copied, part-long}
use Rattle.text.proofs.output.Output.put_all.Goals as goal

pub returns : goal.returns
returns c =
    let out = c.args.self.now in
    record {
      puts = record { stored = rw c.copy_from_slice.ensures.after (part-copied out.bytes.now c.args.text.now out.at _ c.requires (omega arith)); long = refl };
      next = refl;
      size = rw c.copy_from_slice.ensures.after (part-long out.bytes.now c.args.text.now out.at _ c.requires (omega arith));
      same_reference = refl;
    }
