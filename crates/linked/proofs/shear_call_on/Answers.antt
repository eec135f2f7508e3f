-- `linked::shear_call_on` meets its contract. Assumes nothing.
use mathlib.Core.Path.{ap}
use Rattle.limits.specs.declared.judging.GivenValues.{GivenValues}
use Rattle.linked.proofs.CallReplies.{shear_call_replies}
use Rattle.linked.proofs.shear_call_on.Goals as goal

pub returns : goal.returns
returns c = let a = c.args in
    shear_call_replies a.ground a.frame.now a.weight a.height _ _ c.shear_call-a.result (ap (λ (g : GivenValues). g.ground) c.given_on-given.ensures) (ap (λ (g : GivenValues). g.frame) c.given_on-given.ensures) c.shear_call-a.ensures c.put_figures.ensures
