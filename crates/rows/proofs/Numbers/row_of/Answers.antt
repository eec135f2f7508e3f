-- `rows::Numbers::row_of` meets its contract. Assumes nothing.
use Rattle.std.proofs.Common.{arith, ◌≤◌, ℕ}
use Rattle.std.proofs.lemmas.List.{take-replicate}
use Rattle.rows.proofs.Filling.{row_none, row_more}
use Rattle.rows.proofs.Numbers.row_of.Goals as goal

pub loop-value-init : goal.loop-value-init
loop-value-init g c = let fits : c.args.count ≤ g.row.N = omega arith in rw (take-replicate {X = ℕ} c.args.count g.row.N 0 fits) (row_none _ _)

pub loop-value-preserved : goal.loop-value-preserved
loop-value-preserved g c = row_more _ c.loop-value.invariant (omega (arith, c.loop-value.invariant.size)) c.number.ensures
