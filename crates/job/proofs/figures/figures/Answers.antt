-- `job::figures::figures` meets its contract. Assumes nothing.
use mathlib.Core.Path.{sym, ap, ◌∙◌}
use lib.ListN.{length}
use Rattle.limits.proofs.Accepted.{given_allowed}
use Rattle.limits.proofs.Exit.{handed_on}
use Rattle.limits.specs.Outcome.{accepted, outcome}
use Rattle.job.proofs.Stages.{job_refused, job_accepted}
use Rattle.job.specs.Job.{figures_only}
use Rattle.job.proofs.figures.figures.Goals as goal

pub returns-in_err-given : goal.returns-in_err-given
returns-in_err-given c =
    let a = c.args in
    ap outcome (handed_on _ _ c.from_residual.ensures.1)
    ∙ sym (ap figures_only (job_refused a.given.ground a.given.frame a.weights.now a.heights.now (length a.weights.now) (sym c.in_err-given.ensures)))

pub job_figures-requires : goal.job_figures-requires
job_figures-requires c =
    let a = c.args in
    (given_allowed a.given.ground a.given.frame a.weights.now a.heights.now (length a.weights.now) _ (sym c.in_ok-given.ensures)).0

pub returns : goal.returns
returns c =
    let a = c.args in
    ap accepted c.job_figures.ensures
    ∙ sym (ap figures_only (job_accepted a.given.ground a.given.frame a.weights.now a.heights.now (length a.weights.now) (sym c.in_ok-given.ensures)))
