-- `job::job` meets its contract. Assumes nothing.
use mathlib.Core.Path.{sym}
use native.Mathlib.Omega.{arith}
use Rattle.limits.proofs.Accepted.{given_allowed}
use Rattle.limits.proofs.Exit.{handed_on}
use Rattle.job.proofs.Stages.{refused_answers, accepted_answers}
use Rattle.job.proofs.GivenReached.{figures_load, standing}
use Rattle.job.proofs.job.Goals as goal

pub returns-in_err-given : goal.returns-in_err-given
returns-in_err-given c =
    let a = c.args in
    rw (handed_on _ _ c.from_residual.ensures.1)
    (refused_answers a.given.ground a.given.frame a.weights.now a.heights.now _ _ c.shortest-room.ensures _ (sym c.in_err-given.ensures))

pub job_figures-f-requires : goal.job_figures-f-requires
job_figures-f-requires c =
    let a = c.args in
    (given_allowed a.given.ground a.given.frame a.weights.now a.heights.now _ _ (sym c.in_ok-given.ensures)).0

pub fill_storeys-requires : goal.fill_storeys-requires
fill_storeys-requires c =
    let a = c.args in
    let all = given_allowed a.given.ground a.given.frame a.weights.now a.heights.now _ _ (sym c.in_ok-given.ensures) in
    let short = c.shortest-room.ensures in
    let l = figures_load a.weights.now a.heights.now _ all.0 c.job_figures-f.ensures in (
      record { part = l.part; shear = omega (arith, l.shear) },
      standing a.weights.now a.heights.now all.0.levels,
      omega (arith, all.1),
      omega (arith, all.1),
      omega (arith, all.1),
    )

pub returns : goal.returns
returns c =
    let a = c.args in
    let cells = c.fill_storeys.ensures in
    accepted_answers a.given.ground a.given.frame a.weights.now a.heights.now _ _ c.shortest-room.ensures _ _ (sym c.in_ok-given.ensures) c.job_figures-f.ensures cells.0 cells.1 cells.2
