-- `linked::job_on` meets its contract. Assumes nothing.
use mathlib.Core.Path.{ap}
use Rattle.limits.specs.declared.judging.GivenValues.{GivenValues}
use Rattle.linked.proofs.Replies.{job_replies}
use Rattle.linked.proofs.job_on.Goals as goal

pub returns : goal.returns
returns c = let a = c.args in
    job_replies a.ground a.frame.now a.weights.now a.heights.now _ _ (record { forces = a.forces.now; shears = a.shears.now; overturnings = a.overturnings.now }) c.job-a.result _ (ap (λ (g : GivenValues). g.ground) c.given_on-given.ensures) (ap (λ (g : GivenValues). g.frame) c.given_on-given.ensures) c.job-a.ensures.0 c.job-a.ensures.1 c.put_figures.ensures
