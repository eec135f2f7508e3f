-- `next` of `sheets::split::Sheets` meets its contract. Assumes nothing.
use mathlib.Core.Path.{sym, ap, ◌∙◌}
use native.Mathlib.Omega.{arith}
use lib.ListN.{length}
use lib.Seq.{length-take-le}
use borrow.Author.Rules.{rules}
use borrow.Author.Tests.{eqb-true, eqb-false}
use Rattle.sheets.proofs.Parts.{first_fits, sheets_none, sheets_next}
use Rattle.sheets.proofs.split.SheetsIterator.next.Goals as goal

pub returns-then-is_empty-clause-steps : goal.returns-then-is_empty-clause-steps
returns-then-is_empty-clause-steps c =
    let none = sheets_none c.args.self.now.0.now (eqb-true _ _ (sym c.is_empty.ensures ∙ c.if-is_empty.true)) in
    (none, none)

pub overflow_add-n : goal.overflow_add-n
overflow_add-n c = omega (arith, first_fits c.args.self.now.0.now c.first_length-n.ensures)

pub slice_bounds-result-end : goal.slice_bounds-result-end
slice_bounds-result-end c =
    sym (length-take-le c.first_length-n.result c.args.self.now.0.now (first_fits c.args.self.now.0.now c.first_length-n.ensures))

pub returns-clause-steps : goal.returns-clause-steps
returns-clause-steps c =
    let other = eqb-false _ _ (sym c.is_empty.ensures ∙ c.if-is_empty.false) in
    sheets_next c.args.self.now.0.now c.first_length-n.ensures (omega arith) c.min.ensures

pub returns-clause-goes : goal.returns-clause-goes
returns-clause-goes c =
    let other = eqb-false _ _ (sym c.is_empty.ensures ∙ c.if-is_empty.false) in
    let next = sheets_next c.args.self.now.0.now c.first_length-n.ensures (omega arith) c.min.ensures in
    record {
      on = λ _. (search rules, search rules, omega (arith, ap length next));
      keeps = search rules;
      rests = search rules;
    }
