-- `changed::change` meets its contract. Assumes nothing.
use Rattle.cases.proofs.Changing.{change_made, change_none}
use Rattle.cases.proofs.changed.change.Goals as goal

pub returns-then-at-fields : goal.returns-then-at-fields
returns-then-at-fields c = change_made _ _ c.number-at.ensures c.number-value.ensures c.if-at-fields.true

pub returns-else-at-fields : goal.returns-else-at-fields
returns-else-at-fields c = change_none _ _ c.number-at.ensures c.number-value.ensures c.if-at-fields.false
