-- `job::figures::job_figures` meets its contract. Assumes nothing.
use native.Mathlib.Omega.{arith}
use Rattle.limits.proofs.AcceptedCalls.{levels_building}
use Rattle.job.proofs.Stages.{building_of, figures_of}
use Rattle.job.proofs.figures.job_figures.Goals as goal

pub total_weight-requires : goal.total_weight-requires
total_weight-requires c = (levels_building c.args.weights.now c.args.heights.now c.requires.levels).weight.1

pub top_height-requires : goal.top_height-requires
top_height-requires c = let l = c.requires.levels in omega (arith, l.same, l.some)

pub building_figures-requires : goal.building_figures-requires
building_figures-requires c =
    building_of c.args.given c.args.weights.now c.args.heights.now _ _ c.requires c.total_weight.ensures c.top_height.ensures

pub returns : goal.returns
returns c = figures_of c.args.given c.args.weights.now c.args.heights.now _ _ c.building_figures.ensures c.total_weight.ensures c.top_height.ensures
