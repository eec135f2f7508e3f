-- `sheet::levels::level_lines` meets its contract. Assumes nothing.
use mathlib.Core.Path.{sym, ap, ◌∙◌}
use Prim.Native.Nat.{◌<◌}
use native.Mathlib.Omega.{arith}
use lib.ListN.{length}
use borrow.Author.Tests.{eqb-true, eqb-false}
use Rattle.std.specs.Prelude.{Err}
use Rattle.text.proofs.Readings.{value_missed, value_went}
use Rattle.sheet.proofs.HandedOn.{or_missed, or_found}
use Rattle.sheet.proofs.Gathering.{gathered_all, gathered_stop, gathered_less, gathered_more, gathered_past}
use Rattle.sheet.proofs.levels.level_lines.Goals as goal
use Rattle.sheet.proofs.levels.level_lines.Goals.{then-n-lt-KEPT, else-n-lt-KEPT}

pub returns-in_err-numbers : goal.returns-in_err-numbers
returns-in_err-numbers c =
    let t = or_missed _ _ c.ok_or.ensures.value c.in_err-numbers.was c.from_residual.result c.from_residual.ensures.1 in
    let other = eqb-false _ _ (sym c.is_empty.ensures ∙ c.loop-left-test.true) in
    t.1 ∙ ap Err c.at.ensures ∙ sym (gathered_stop c.loop-left.invariant (omega arith) (value_missed _ _ _ c.line.ensures t.0))

pub loop-left-smaller : goal.loop-left-smaller
loop-left-smaller c =
    let w = value_went _ _ _ _ c.line.ensures (or_found _ _ c.ok_or.ensures.value c.in_ok-numbers.was) in
    let other = eqb-false _ _ (sym c.is_empty.ensures ∙ c.loop-left-test.true) in
    gathered_less c.loop-left.invariant (omega arith) w

pub loop-left-preserved : goal.loop-left-preserved
loop-left-preserved c =
    let w = value_went _ _ _ _ c.line.ensures (or_found _ _ c.ok_or.ensures.value c.in_ok-numbers.was) in
    let other = eqb-false _ _ (sym c.is_empty.ensures ∙ c.loop-left-test.true) in
    let some : 0 < length c.loop-left.left.now = omega arith in
    elim c.if-n-lt-KEPT.branch [
      | then-n-lt-KEPT b ↦ rw (b.weights-is, b.heights-is) (gathered_more c.loop-left.invariant some w)
      | else-n-lt-KEPT b ↦ rw (b.weights-is, b.heights-is) (gathered_past c.loop-left.invariant some w b.if-n-lt-KEPT.false)
    ]

pub returns : goal.returns
returns c =
    let end = eqb-true _ _ (sym c.is_empty.ensures ∙ c.loop-left-test.false) in
    gathered_all c.loop-left.invariant end (c.min.ensures ∙ omega arith)
