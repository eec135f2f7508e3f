-- `text::writing::Writer::fields` meets its contract. Assumes nothing.
use mathlib.Core.Path.{◌≡◌, refl, ◌∙◌}
use native.Mathlib.Omega.{arith}
use lib.ListN.{take}
use lib.Seq.{take_all}
use Rattle.text.proofs.Fields.{fields_next, fields_room}
use Rattle.text.proofs.Spliced.{writes_none, writes_room, writes_more}
use Rattle.text.specs.Writing.{fields_of}
use Rattle.text.proofs.writing.Writer.fields.Goals as goal

pub loop-n-init : goal.loop-n-init
unfolding fields_of
loop-n-init c = record { same_buffer = refl; bytes = writes_none c.args.self.now }

pub field-requires : goal.field-requires
field-requires c =
    writes_room c.loop-n.invariant.bytes (fields_room c.args.numbers.now c.loop-n.n-index (omega arith) c.requires)

pub loop-n-preserved : goal.loop-n-preserved
loop-n-preserved c =
    let ns = c.args.numbers.now in
    let i = c.loop-n.n-index in
    record {
      same_buffer = c.field.ensures.same_buffer ∙ c.loop-n.invariant.same_buffer;
      bytes =
          rw (fields_next ns i (omega arith)) (writes_more c.loop-n.invariant.bytes (fields_room ns i (omega arith) c.requires) c.field.ensures.bytes);
    }

pub returns-clause-bytes : goal.returns-clause-bytes
returns-clause-bytes c =
    let ns = c.args.numbers.now in
    let all : take c.loop-n.n-index ns ≡ ns = take_all c.loop-n.n-index ns (omega arith) in
    rw all at c.loop-n.invariant.bytes
