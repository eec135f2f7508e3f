-- `rows::Numbers::row_of` meets its contract: each turn fills one cell. Assumes nothing.
use Rattle.rows.specs.Numbers.{Row}
use Rattle.rows.proofs.Numbers.row_of.Given as goal

abbrev pub invariant-loop-value : goal.invariant-loop-value
invariant-loop-value g l = Row l.initial.self.rest.now l.value-index l.count l.value-items l.self.rest.now
