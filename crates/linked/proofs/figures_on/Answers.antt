-- `linked::figures_on` meets its contract. Assumes nothing.
use mathlib.Core.Path.{ap}
use Rattle.limits.specs.declared.judging.GivenValues.{GivenValues}
use Rattle.linked.proofs.Replies.{figures_replies}
use Rattle.linked.proofs.figures_on.Goals as goal

pub returns : goal.returns
returns c = let a = c.args in
    figures_replies a.ground a.frame.now a.weights.now a.heights.now _ _ c.figures-a.result (ap (λ (g : GivenValues). g.ground) c.given_on-given.ensures) (ap (λ (g : GivenValues). g.frame) c.given_on-given.ensures) c.figures-a.ensures c.put_figures.ensures
