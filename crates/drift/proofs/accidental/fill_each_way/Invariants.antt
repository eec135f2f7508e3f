-- `drift::accidental::fill_each_way` meets its contract: cell after cell of both buffers, and the rest untouched. Assumes nothing.
use Rattle.drift.proofs.EachWay.{Sided}
use Rattle.drift.proofs.accidental.fill_each_way.Given as goal

abbrev pub invariant-loop-x : goal.invariant-loop-x
invariant-loop-x l = Sided l.shears l.dimension l.initial.positive l.initial.negative l.x l.positive l.negative
