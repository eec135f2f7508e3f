-- `text::writing::Writer::line` meets its contract. Assumes nothing.
use mathlib.Core.List.{◌++◌}
use Rattle.text.proofs.Spliced.{room_first, writes_room, writes_more}
use Rattle.text.specs.Line.{lf}
use Rattle.text.specs.Writing.{fields_of, laid_out}
use Rattle.text.proofs.writing.Writer.line.Goals as goal

pub word-requires : goal.word-requires
unfolding laid_out
word-requires c = room_first c.args.w.now (fields_of c.args.numbers.now ++ lf) c.requires

pub fields-requires : goal.fields-requires
unfolding laid_out
fields-requires c = room_first (fields_of c.args.numbers.now) lf (writes_room c.word.ensures.bytes c.requires)

pub word-requires-2 : goal.word-requires-2
unfolding laid_out
word-requires-2 c = writes_room {b = lf} c.fields.ensures.bytes (writes_room c.word.ensures.bytes c.requires)

pub returns-clause-bytes : goal.returns-clause-bytes
unfolding laid_out
returns-clause-bytes c =
    writes_more c.word.ensures.bytes c.requires (writes_more {b = lf} c.fields.ensures.bytes (writes_room c.word.ensures.bytes c.requires) c.word-2.ensures.bytes)
