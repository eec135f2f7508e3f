-- `whole::columns::line` meets its contract. Assumes nothing.
use borrow.Author.Rules.{rules}
use Rattle.whole.specs.Rounding.{down}
use Rattle.whole.proofs.columns.line.Goals as goal

pub returns : goal.returns
unfolding down
returns c = rw (c.from-a.ensures, c.from-b.ensures, c.from-v.ensures, c.from-w.ensures) (search rules)
