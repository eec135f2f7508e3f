-- `sheet::reader::basin_line` meets its contract. Assumes nothing.
use mathlib.Core.Path.{ap, ◌∙◌}
use mathlib.Core.List.{[]}
use Rattle.text.proofs.Readings.{value_missed, value_went}
use Rattle.text.specs.Reading.{and_rest}
use Rattle.sheet.proofs.GroundLine.{others_left, none_left, basin_found}
use Rattle.sheet.specs.Sheet.{basin_layout}
use Rattle.sheet.proofs.reader.basin_line.Goals as goal

pub returns-in_err-n : goal.returns-in_err-n
returns-in_err-n c =
    ap and_rest c.from_residual.ensures ∙ others_left basin_layout [] _ (value_missed _ _ _ c.line.ensures c.in_err-n.was) (none_left _)

pub returns : goal.returns
returns c = basin_found _ [] (value_went _ _ _ _ c.line.ensures c.in_ok-n.was)
