-- `limits::ranges::among` meets its contract. Assumes nothing.
use mathlib.Core.Path.{◌∙◌}
use Rattle.limits.proofs.Listed.{any_among}
use Rattle.limits.proofs.ranges.among.Goals as goal

pub returns : goal.returns
returns c = c.contains.ensures.value ∙ any_among c.args.values.now c.args.x
