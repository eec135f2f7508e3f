-- `text::line::read_fields` meets its contract. Assumes nothing.
use mathlib.Core.Path.{◌≡◌, sym, ap, ◌∙◌}
use Prim.Native.Nat.{◌+◌, ◌-◌}
use native.Mathlib.Nat.{sub-zero}
use native.Mathlib.Omega.{arith}
use lib.ListN.{length, take}
use lib.Seq.{take_all}
use Rattle.text.proofs.Lines.{gathered_none, fields_stop, fields_more, fields_none}
use Rattle.text.proofs.Readings.{value_missed, value_went}
use Rattle.text.proofs.Stored.{set_more}
use Rattle.text.specs.Reading.{beside}
use Rattle.text.proofs.line.read_fields.Goals as goal

pub loop-cell-init : goal.loop-cell-init
loop-cell-init c = rw (sub-zero (length c.args.cells.now), gathered_none)

pub returns-in_err-n : goal.returns-in_err-n
returns-in_err-n c =
    let at = c.loop-cell in
    let k = length c.args.cells.now in
    let missed = value_missed _ _ _ c.field.ensures c.in_err-n.was in
    ap (beside _) c.from_residual.ensures
    ∙ fields_stop at.left.now (take at.cell-index at.cells) (k - at.cell-index) (k - (at.cell-index + 1)) (omega arith) missed
    ∙ sym at.invariant

pub loop-cell-preserved : goal.loop-cell-preserved
loop-cell-preserved c =
    let at = c.loop-cell in
    let k = length c.args.cells.now in
    let went = value_went _ _ _ _ c.field.ensures c.in_ok-n.was in
    let step = fields_more at.left.now (take at.cell-index at.cells) (k - at.cell-index) (k - (at.cell-index + 1)) (omega arith) _ _ went in
    rw (set_more at.cells at.cell-index _ (omega arith)) (at.invariant ∙ step)

pub returns : goal.returns
returns c =
    let at = c.loop-cell in
    let k = length c.args.cells.now in
    let all : take at.cell-index at.cells ≡ at.cells = take_all at.cell-index at.cells (omega arith) in
    sym (at.invariant ∙ rw all (fields_none at.cells at.left.now (k - at.cell-index) (omega arith)))
