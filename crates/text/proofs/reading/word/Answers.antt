-- `text::reading::word` meets its contract. Assumes nothing.
use Rattle.text.proofs.Words.{word_stripped}
use Rattle.text.proofs.reading.word.Goals as goal

pub returns : goal.returns
returns c = word_stripped c.args.w.now c.args.s.now _ c.strip_prefix.ensures.cases
