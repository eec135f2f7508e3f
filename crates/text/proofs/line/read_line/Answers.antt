-- `text::line::read_line` meets its contract: its stages are those of `line`. Assumes nothing.
use mathlib.Core.Path.{ap, ◌∙◌}
use lib.ListN.{length}
use Rattle.text.proofs.Lines.{line_first, line_middle, line_ended}
use Rattle.text.proofs.Readings.{word_missed, beside_missed, word_went, beside_went, no_answer}
use Rattle.text.specs.Reading.{beside}
use Rattle.text.proofs.line.read_line.Goals as goal

pub returns-in_err-begin : goal.returns-in_err-begin
returns-in_err-begin c =
    let a = c.args in
    let first = word_missed _ _ _ c.word.ensures c.in_err-begin.was in
    ap (beside _) c.from_residual.ensures ∙ no_answer a.s.now _ (line_first a.s.now a.w.now (length a.cells.now) first)

pub returns-in_err-end : goal.returns-in_err-end
returns-in_err-end c =
    let a = c.args in
    let first = word_went _ _ _ _ c.word.ensures c.in_ok-begin.was in
    let middle = beside_missed _ _ _ _ c.read_fields.ensures c.in_err-end.was in
    ap (beside _) c.from_residual-in_err-end.ensures
    ∙ no_answer a.s.now _ (line_middle a.s.now a.w.now (length a.cells.now) _ first middle)

pub returns : goal.returns
returns c =
    let a = c.args in
    let first = word_went _ _ _ _ c.word.ensures c.in_ok-begin.was in
    let middle = beside_went _ _ _ _ _ c.read_fields.ensures c.in_ok-end.was in
    line_ended a.s.now a.w.now (length a.cells.now) _ first _ _ middle _ c.word-2.ensures
