-- `sheets::rows::put_rows` meets its contract. Assumes nothing.
use mathlib.Core.Path.{refl, ◌∙◌}
use native.Mathlib.Omega.{arith}
use Rattle.district_call.proofs.Tallied.{zero_totals}
use Rattle.sheets.proofs.Answering.{answering_none, answering_small, answering_low, answering_all, answering_few, answering_sorted, answering_room, answering_more}
use Rattle.sheets.proofs.rows.put_rows.Goals as goal

pub loop-s-init : goal.loop-s-init
loop-s-init c =
    let from = c.into_iter-s-iterator.ensures.into_iter_gives in
    (tt, tt, refl, rw from (answering_none c.args.file.now c.args.w.now (zero_totals _ c.default-totals.ensures)))

pub overflow_add-number : goal.overflow_add-number
overflow_add-number c = omega (arith, answering_few c.loop-s.invariant.3 c.requires.0 c.in-Some.ensures.steps)

pub put_row-requires : goal.put_row-requires
put_row-requires c = answering_room c.loop-s.invariant.3 c.requires.0 c.in-Some.ensures.steps c.sheet_answer-a.ensures c.requires.1

pub with_answer-totals-requires : goal.with_answer-totals-requires
with_answer-totals-requires c = (
  answering_small c.loop-s.invariant.3 c.requires.0,
  answering_sorted c.loop-s.invariant.3 c.requires.0 c.in-Some.ensures.steps c.sheet_answer-a.ensures,
)

pub count_in-requires : goal.count_in-requires
count_in-requires c = (
  answering_sorted c.loop-s.invariant.3 c.requires.0 c.in-Some.ensures.steps c.sheet_answer-a.ensures,
  answering_low c.loop-s.invariant.3 c.requires.0,
)

pub loop-s-preserved : goal.loop-s-preserved
loop-s-preserved c = (
  tt,
  tt,
  c.put_row.ensures.same_buffer ∙ c.loop-s.invariant.2,
  answering_more c.loop-s.invariant.3 c.requires.0 c.in-Some.ensures.steps c.sheet_answer-a.ensures c.requires.1 c.put_row.ensures.bytes c.with_answer-totals.ensures c.count_in.ensures,
)

pub returns : goal.returns
returns c =
    let all = answering_all c.loop-s.invariant.3 c.requires.0 c.in-None.ensures.steps.0 in
    record { report_value = all.0; same_buffer = c.loop-s.invariant.2; bytes = all.1 }
