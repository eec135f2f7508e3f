-- `sheet::reader::ground_line` meets its contract: the first of the layouts that fits. Assumes nothing.
use borrow.Author.Rules.{rules}
use mathlib.Core.List.{[], ◌∷◌}
use Rattle.sheet.proofs.GroundLine.{or_answers, three_others}
use Rattle.sheet.specs.Lines.{line_in}
use Rattle.sheet.specs.Reading.{ground_line_answer}
use Rattle.sheet.specs.Sheet.{one_pair_layout, two_pairs_layout, basin_layout}
use Rattle.sheet.proofs.reader.ground_line.Goals as goal

pub returns : goal.returns
returns c =
    let s = c.args.s.now in
    let second = or_answers _ _ (ground_line_answer (line_in 1 (two_pairs_layout ∷ []) s)) c.or_else.ensures (λ q. search rules) in
    let third = or_answers _ _ (ground_line_answer (line_in 1 (basin_layout ∷ []) s)) c.or_else-2.ensures (λ q. search rules) in
    three_others one_pair_layout two_pairs_layout basin_layout s c.one_pair_line.ensures second third
