-- Number 26: the plan of a building, for its accidental moments.
--   judged_dimension d    26: a plan dimension that is not 1 to 5,000 dm
use Rattle.std.specs.Prelude.{ℕ}
use Rattle.limits.specs.Outcome.{Outcome, Done}
use Rattle.limits.specs.Ranges.{within}

abbrev pub judged_dimension : ℕ → Outcome Done
judged_dimension d = within 1 5_000 d 26 0
