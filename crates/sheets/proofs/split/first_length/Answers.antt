-- `sheets::split::first_length` meets its contract. Assumes nothing.
use mathlib.Core.Path.{◌≡◌, sym, ◌∙◌}
use mathlib.Core.Bool.{false, ◌&&◌}
use native.Mathlib.Omega.{arith}
use lib.ListN.{get_or}
use borrow.Author.Tests.{eq-eqb, ne_eqb}
use Rattle.sheets.specs.Split.{is_lf}
use Rattle.sheets.proofs.Parts.{first_past, first_ends, first_goes}
use Rattle.sheets.proofs.split.first_length.Goals as goal
use Rattle.sheets.proofs.split.first_length.Goals.{else-fresh-via-then-fresh+else-lf, else-fresh-via-else-fresh}

pub returns-then-lf : goal.returns-then-lf
returns-then-lf c =
    sym (c.loop-i.invariant ∙ omega (arith, first_ends c.args.s.now c.loop-i.i c.loop-i.fresh (omega arith) c.if-fresh.true (eq-eqb _ _ c.if-lf.true)))

pub loop-i-preserved : goal.loop-i-preserved
loop-i-preserved c =
    let s = c.args.s.now in
    let other : (c.loop-i.fresh && is_lf (get_or s c.loop-i.i 0)) ≡ false =
    elim c.else-fresh.branch [
      | else-fresh-via-then-fresh+else-lf w ↦ rw (w.if-fresh.true, ne_eqb _ _ w.if-lf.false)
      | else-fresh-via-else-fresh w ↦ rw w.if-fresh.false
    ] in
    c.loop-i.invariant ∙ omega (arith, first_goes s c.loop-i.i c.loop-i.fresh (omega arith) other)

pub returns : goal.returns
returns c =
    sym (c.loop-i.invariant ∙ omega (arith, first_past c.args.s.now c.loop-i.i c.loop-i.fresh (omega arith)))
