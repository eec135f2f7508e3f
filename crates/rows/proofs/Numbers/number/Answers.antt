-- `rows::Numbers::number` meets its contract. Assumes nothing.
use Rattle.std.proofs.Common.{◌∙◌, sym}
use Rattle.rows.proofs.Reading.{number_more, number_stops, number_ends}
use Rattle.rows.proofs.Numbers.number.Goals as goal

pub loop-byte-preserved : goal.loop-byte-preserved
loop-byte-preserved c = c.loop-byte.invariant ∙ number_more _ _ _ _ c.in-Some.ensures.cases.0 c.in-Some-with_digit.ensures

pub returns-in_default-with_digit : goal.returns-in_default-with_digit
returns-in_default-with_digit c = sym (c.loop-byte.invariant ∙ number_stops _ _ _ _ c.in-Some.ensures.cases.0 c.in_default-with_digit.ensures)

pub returns-in_default : goal.returns-in_default
returns-in_default c = sym (c.loop-byte.invariant ∙ number_ends _ _ c.in_default.ensures.cases)
