-- `sheet::reader::two_pairs_line` meets its contract. Assumes nothing.
use mathlib.Core.Path.{ap, ◌∙◌}
use mathlib.Core.List.{[]}
use Rattle.text.proofs.Readings.{value_missed, value_went}
use Rattle.text.specs.Reading.{and_rest}
use Rattle.sheet.proofs.GroundLine.{others_left, none_left, two_pairs_found}
use Rattle.sheet.specs.Sheet.{two_pairs_layout}
use Rattle.sheet.proofs.reader.two_pairs_line.Goals as goal

pub returns-in_err-n : goal.returns-in_err-n
returns-in_err-n c =
    ap and_rest c.from_residual.ensures ∙ others_left two_pairs_layout [] _ (value_missed _ _ _ c.line.ensures c.in_err-n.was) (none_left _)

pub returns : goal.returns
returns c = two_pairs_found _ [] (value_went _ _ _ _ c.line.ensures c.in_ok-n.was) c.of.ensures
