-- `text::writing::Writer::field` meets its contract. Assumes nothing.
use Rattle.text.proofs.Spliced.{room_first, writes_room, writes_more}
use Rattle.text.specs.Line.{tab}
use Rattle.text.specs.Writing.{decimal, field_of}
use Rattle.text.proofs.writing.Writer.field.Goals as goal

pub word-requires : goal.word-requires
unfolding field_of
word-requires c = room_first tab (decimal c.args.n) c.requires

pub decimal-requires : goal.decimal-requires
unfolding field_of
decimal-requires c = writes_room {a = tab} {b = decimal c.args.n} c.word.ensures.bytes c.requires

pub returns-clause-bytes : goal.returns-clause-bytes
unfolding field_of
returns-clause-bytes c = writes_more {a = tab} {b = decimal c.args.n} c.word.ensures.bytes c.requires c.decimal.ensures.bytes
