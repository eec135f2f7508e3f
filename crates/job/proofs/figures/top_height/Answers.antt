-- `job::figures::top_height` meets its contract. Assumes nothing.
use mathlib.Core.Path.{sym}
use Rattle.limits.proofs.AcceptedLevels.{top_last}
use Rattle.job.proofs.figures.top_height.Goals as goal

pub returns : goal.returns
returns c = sym (top_last c.args.heights.now c.requires)
