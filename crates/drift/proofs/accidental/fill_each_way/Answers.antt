-- `drift::accidental::fill_each_way` meets its contract: cell after cell of both buffers, and the rest untouched. Assumes nothing.
use mathlib.Core.Path.{ap, ◌∙◌}
use Prim.Native.Nat.{ℕ}
use native.Mathlib.Omega.{arith}
use Rattle.drift.specs.Accidental.{accidental_moment}
use Rattle.drift.proofs.EachWay.{both_ways, sided_none, sided_more, sided_all}
use Rattle.drift.proofs.accidental.fill_each_way.Goals as goal

pub loop-x-init : goal.loop-x-init
loop-x-init c = sided_none _ _ _ _

pub loop-x-preserved : goal.loop-x-preserved
loop-x-preserved c =
    let a = c.args in
    let l = c.loop-x in
    let m = c.accidental_moment-moment in
    let made = m.ensures ∙ ap (λ (f : ℕ). accidental_moment f a.dimension) c.level_force.ensures in
    let w = both_ways a.shears.now a.dimension l.x m.result c.requires.0 c.requires.1 c.requires.2 c.loop-x-test.true made in
    sided_more a.shears.now a.dimension _ _ l.invariant (omega arith) (omega arith) w.0 w.1

pub returns : goal.returns
returns c = sided_all c.args.shears.now c.args.dimension c.loop-x.invariant (omega arith)
