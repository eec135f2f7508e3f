-- `district_call::fill_rows` meets its contract. Assumes nothing.
use native.Mathlib.Omega.{arith}
use Rattle.district_call.proofs.Filled.{filled_none, here_sorted, filled_small, filled_low, filled_more, filled_all}
use Rattle.district_call.proofs.fill_rows.Goals as goal

pub loop-i-init : goal.loop-i-init
loop-i-init c =
    let a = c.args in
    filled_none a.weights.now a.heights.now a.jobs.now a.rows.now _ c.default-totals.ensures

pub with_answer-totals-requires : goal.with_answer-totals-requires
with_answer-totals-requires c =
    let a = c.args in
    (filled_small _ _ _ c.loop-i.invariant c.requires.0, here_sorted a.weights.now a.heights.now a.jobs.now c.loop-i.i c.answer_to-a.ensures)

pub count_in-requires : goal.count_in-requires
count_in-requires c =
    let a = c.args in
    (here_sorted a.weights.now a.heights.now a.jobs.now c.loop-i.i c.answer_to-a.ensures, filled_low _ _ _ c.loop-i.invariant c.requires.0)

pub loop-i-preserved : goal.loop-i-preserved
loop-i-preserved c =
    rw (c.with_answer-totals.ensures, c.count_in.ensures)
    (filled_more _ _ _ c.loop-i.invariant _ _ (omega arith) (omega arith) c.answer_to-a.ensures c.row_of.ensures)

pub returns : goal.returns
returns c =
    let r = filled_all _ _ _ c.loop-i.invariant (omega arith) (omega arith) in
    record { value = r.0; rows_after = r.1 }
