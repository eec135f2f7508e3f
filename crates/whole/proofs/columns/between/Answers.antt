-- `whole::columns::between` meets its contract. The invariant: x is past the column p, and what the whole table gives at x is what p and the columns
-- behind it give. Assumes nothing.
use borrow.Author.Rules.{rules}
use mathlib.Core.Path.{sym, ap, ◌∙◌}
use mathlib.Core.List.{List}
use lib.Seq.{drop-cons}
use native.Mathlib.Omega.{arith}
use Rattle.whole.specs.declared.Column.{Column}
use Rattle.whole.specs.Fraction.{down_in}
use Rattle.whole.specs.Line.{column, between}
use Rattle.whole.proofs.Line.{at_first, at_line, at_past, at_last, whole_down}
use Rattle.whole.proofs.columns.between.Goals as goal

pub returns-then-x-from : goal.returns-then-x-from
returns-then-x-from c =
    let e = drop-cons c.args.t 0 (column 0 0) (search rules) in
    c.from-then-x-from.ensures
    ∙ whole_down _
    ∙ sym (ap (down_in 1) (ap (λ (m : List Column). between m c.args.x) e ∙ at_first _ _ c.args.x (omega (arith, c.from.ensures, c.if-x-from.true))))

pub returns-then-x-from-2 : goal.returns-then-x-from-2
returns-then-x-from-2 c =
    let l = c.loop-q in
    c.line.ensures
    ∙ sym (ap (down_in 1) (l.invariant.1 ∙ at_line l.p _ c.args.x l.q-index (search rules) l.invariant.0 (omega (arith, c.from-in-loop-q.ensures, c.if-x-from-2.true))))

pub loop-q-preserved : goal.loop-q-preserved
loop-q-preserved c =
    let l = c.loop-q in
    (omega (arith, c.from-in-loop-q.ensures, c.if-x-from-2.false), l.invariant.1 ∙ at_past l.p _ c.args.x l.q-index (search rules) l.invariant.0 (omega (arith, c.from-in-loop-q.ensures, c.if-x-from-2.false)))

pub returns : goal.returns
returns c =
    let l = c.loop-q in
    c.from-2.ensures ∙ whole_down _ ∙ sym (ap (down_in 1) (l.invariant.1 ∙ at_last l.p _ c.args.x l.q-index (search rules)))
