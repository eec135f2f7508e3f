-- Numbers 19 and 20: what is handed to the distribution beside the levels.
--   judged_base_shear v       19: a base shear that is not 1 to 1,200,000,000 N
--   judged_handed_period t    20: a period that is not 0 to 9,999 ms
--   judged_handed v t         19, then 20
use Rattle.std.specs.Prelude.{ℕ}
use Rattle.limits.specs.Outcome.{Outcome, Done, ◌>>◌}
use Rattle.limits.specs.Ranges.{within}

abbrev pub judged_base_shear : ℕ → Outcome Done
judged_base_shear v = within 1 1_200_000_000 v 19 0

abbrev pub judged_handed_period : ℕ → Outcome Done
judged_handed_period t = within 0 9_999 t 20 0

unfoldable pub judged_handed : ℕ → ℕ → Outcome Done
judged_handed v t = do
  judged_base_shear v
  judged_handed_period t
