-- Number 24: the limit by which drift is judged.
--   judged_drift_limit m    24: a limit of the drift angle, in ten-thousandths, that is 0 or above 10,000
use Rattle.std.specs.Prelude.{ℕ}
use Rattle.limits.specs.Outcome.{Outcome, Done}
use Rattle.limits.specs.Ranges.{within}

abbrev pub judged_drift_limit : ℕ → Outcome Done
judged_drift_limit m = within 1 10_000 m 24 0
