-- `text::writing::Writer::word` meets its contract. Assumes nothing.
use native.Mathlib.Omega.{arith}
use mathlib.Core.Path.{refl}
use Rattle.text.proofs.Spliced.{spliced_over}
use Rattle.text.proofs.writing.Writer.word.Goals as goal

pub returns-clause-bytes : goal.returns-clause-bytes
returns-clause-bytes c =
    let w = c.args.self.now in
    record {
      at_after = refl;
      out_after = spliced_over w.out.now w.at _ c.args.w.now _ c.copy_from_slice.ensures.after (omega arith);
    }
