-- `job::distribution::distribution` meets its contract. Assumes nothing.
use mathlib.Core.Path.{sym, ap, ◌∙◌}
use native.Mathlib.Omega.{arith}
use Rattle.limits.proofs.AcceptedCalls.{distribution_allowed}
use Rattle.limits.proofs.Exit.{handed_on}
use Rattle.limits.specs.Outcome.{outcome}
use Rattle.job.proofs.Distributed.{refused_distributed, passed_distributed}
use Rattle.storeys.proofs.Roof.{roof_at_most_one}
use Rattle.job.proofs.GivenReached.{standing}
use Rattle.job.proofs.distribution.distribution.Goals as goal

pub returns-in_err-judged_distribution : goal.returns-in_err-judged_distribution
returns-in_err-judged_distribution c =
    let a = c.args in
    refused_distributed a.handed.shear a.handed.period a.weights.now a.heights.now _ _ c.shortest-room.ensures _ _ (handed_on _ _ c.from_residual.ensures.1) (ap outcome (handed_on _ _ c.from_residual.ensures.1) ∙ c.in_err-judged_distribution.ensures)

pub fill_storeys-requires : goal.fill_storeys-requires
fill_storeys-requires c =
    let a = c.args in
    let short = c.shortest-room.ensures in
    let all = distribution_allowed a.handed.shear a.handed.period a.weights.now a.heights.now _ (sym c.in_ok-judged_distribution.ensures) in
    let shear = all.2.shear.1 in (
      record { part = roof_at_most_one a.handed.period; shear = omega (arith, shear) },
      standing a.weights.now a.heights.now all.0,
      omega (arith, all.1),
      omega (arith, all.1),
      omega (arith, all.1),
    )

pub returns : goal.returns
returns c =
    let a = c.args in
    let cells = c.fill_storeys.ensures in
    passed_distributed a.handed.shear a.handed.period a.weights.now a.heights.now _ _ c.shortest-room.ensures (sym c.in_ok-judged_distribution.ensures) cells.0 cells.1 cells.2
