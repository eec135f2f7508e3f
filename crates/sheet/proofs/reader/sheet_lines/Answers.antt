-- `sheet::reader::sheet_lines` meets its contract: the stages of the code are the lines of `sheet_lines`. Assumes nothing.
use mathlib.Core.Path.{ap, ◌∙◌}
use Rattle.std.specs.Prelude.{Err}
use Rattle.limits.proofs.Exit.{handed_on}
use Rattle.text.proofs.Readings.{value_missed, value_went}
use Rattle.sheet.proofs.GroundLine.{ground_found, ground_missed}
use Rattle.sheet.proofs.HandedOn.{or_missed, or_found}
use Rattle.sheet.proofs.Stages.{refusal_read, levels_refused, levels_taken, lines_first, lines_second, lines_later, lines_all}
use Rattle.sheet.specs.Layouts.{first_of}
use Rattle.sheet.specs.Sheet.{sheet_form}
use Rattle.sheet.proofs.reader.sheet_lines.Goals as goal

pub returns-in_err-ground : goal.returns-in_err-ground
returns-in_err-ground c =
    let s = c.args.s.now in
    let t = or_missed _ _ c.ok_or.ensures.value c.in_err-ground.was c.from_residual.result c.from_residual.ensures.1 in
    t.1 ∙ ap Err c.at.ensures ∙ refusal_read (lines_first s (ground_missed (first_of sheet_form) s c.ground_line.ensures t.0))

pub returns-in_err-n : goal.returns-in_err-n
returns-in_err-n c =
    let s = c.args.s.now in
    let first = ground_found (first_of sheet_form) s c.ground_line.ensures (or_found _ _ c.ok_or.ensures.value c.in_ok-ground.was) in
    let t = or_missed _ _ c.ok_or-2.ensures.value c.in_err-n.was c.from_residual-in_err-n.result c.from_residual-in_err-n.ensures.1 in
    t.1 ∙ ap Err c.at-2.ensures ∙ refusal_read (lines_second s first (value_missed _ _ _ c.line.ensures t.0))

pub returns-in_err-levels : goal.returns-in_err-levels
returns-in_err-levels c =
    let s = c.args.s.now in
    let first = ground_found (first_of sheet_form) s c.ground_line.ensures (or_found _ _ c.ok_or.ensures.value c.in_ok-ground.was) in
    let middle = value_went _ _ _ _ c.line.ensures (or_found _ _ c.ok_or-2.ensures.value c.in_ok-n.was) in
    handed_on c.from_residual-in_err-levels.result _ c.from_residual-in_err-levels.ensures.1
    ∙ refusal_read (lines_later s first middle _ _ (levels_refused _ _ _ c.level_lines.ensures c.in_err-levels.was))

pub returns : goal.returns
returns c =
    let s = c.args.s.now in
    let first = ground_found (first_of sheet_form) s c.ground_line.ensures (or_found _ _ c.ok_or.ensures.value c.in_ok-ground.was) in
    let middle = value_went _ _ _ _ c.line.ensures (or_found _ _ c.ok_or-2.ensures.value c.in_ok-n.was) in
    lines_all s first middle (levels_taken _ _ _ c.level_lines.ensures c.in_ok-levels.was) c.of.ensures
