-- `text::writing::Writer::fields` meets its contract. The invariant: the fields of the numbers so far are written.
-- Assumes nothing.
use mathlib.Core.Path.{◌≡◌}
use lib.ListN.{take}
use Rattle.text.specs.Writing.{fields_of, Writes}
use Rattle.text.proofs.writing.Writer.fields.Given as goal

abbrev pub invariant-loop-n : goal.invariant-loop-n
invariant-loop-n l =
    record {
      same_buffer : l.self.out.ghost_name ≡ l.initial.self.out.ghost_name;
      bytes : Writes l.initial.self (fields_of (take l.n-index l.numbers)) l.self;
    }
