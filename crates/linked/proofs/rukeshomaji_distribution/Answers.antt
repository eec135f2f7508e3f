-- `linked::rukeshomaji_distribution` meets its contract. Assumes nothing.
use mathlib.Core.Path.{ap, ◌∙◌}
use Rattle.linked.specs.Linked.{said}
use Rattle.linked.proofs.CallReplies.{distribution_replies}
use Rattle.linked.proofs.rukeshomaji_distribution.Goals as goal

pub returns : goal.returns
returns c = let a = c.args in
    distribution_replies a.base_shear a.period a.weights.now a.heights.now (record { forces = a.forces.now; shears = a.shears.now; overturnings = a.overturnings.now }) c.distribution-a.result _ c.distribution-a.ensures
    (c.said-number.ensures ∙ ap said c.err.ensures.value)
