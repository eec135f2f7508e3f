-- `whole::quotients::down` meets its contract. Assumes nothing.
use borrow.Author.Rules.{rules}
use Rattle.whole.specs.Rounding.{down}
use Rattle.whole.proofs.quotients.down.Goals as goal

pub returns : goal.returns
unfolding down
returns c = search rules
