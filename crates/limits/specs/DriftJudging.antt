-- All that is judged of drift and of accidental moments, in order; of torsion `judged_floor` is all. room is the length of the shortest result buffer.
--   judged_drift hs zs m room            of drift: 1, on the heights as it has no weights, 2, heights (4), displacements (23), limit (24)
--   judged_moments v t ws hs d room      of accidental moments: as of the distribution (1 to 4, 19, 20), then the plan dimension (26)
use Rattle.std.specs.Prelude.{List, ℕ, ℤ, length}
use Rattle.limits.specs.Displacement.{displaced}
use Rattle.limits.specs.DriftLimit.{judged_drift_limit}
use Rattle.limits.specs.Judging.{judged_distribution}
use Rattle.limits.specs.Lengths.{same_length, roomy}
use Rattle.limits.specs.Levels.{counted, raised}
use Rattle.limits.specs.Outcome.{Outcome, Done, ◌>>◌}
use Rattle.limits.specs.Plan.{judged_dimension}

unfoldable pub judged_drift : List ℕ → List ℤ → ℕ → ℕ → Outcome Done
judged_drift hs zs m room = do
  counted (length hs)
  same_length (length hs) (length zs)
  roomy (length hs) room
  raised 0 1 hs
  displaced 1 zs
  judged_drift_limit m

unfoldable pub judged_moments : ℕ → ℕ → List ℕ → List ℕ → ℕ → ℕ → Outcome Done
judged_moments v t ws hs d room = do
  judged_distribution v t ws hs room
  judged_dimension d
