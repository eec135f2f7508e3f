-- `district_call::fill_rows` meets its contract. The invariant: totals, cells and rows are those of the answers so far. Assumes nothing.
use Rattle.district_call.proofs.Filled.{Filled}
use Rattle.district_call.proofs.fill_rows.Given as goal

abbrev pub invariant-loop-i : goal.invariant-loop-i
invariant-loop-i l = Filled l.weights l.heights l.jobs l.initial.rows l.i l.totals l.cells l.rows
