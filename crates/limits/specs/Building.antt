-- Numbers 3 and 4 of the shear call: a building without levels. 'In the shear call a weight or height out of range is 3 or 4 at place 0.'
--   total_most             the largest total weight, in kN: 50 levels of 20,000
--   judged_total W         3: a total weight that is not 1 to 1,000,000 kN
--   judged_top h           4: a top height that is not 1 to 2,000 dm, as of any level
--   judged_building W h    3, then 4
use Rattle.std.specs.Prelude.{ℕ}
use Rattle.limits.specs.Outcome.{Outcome, Done, ◌>>◌}
use Rattle.limits.specs.Ranges.{within}

abbrev pub total_most : ℕ
total_most = 1_000_000

abbrev pub judged_total : ℕ → Outcome Done
judged_total W = within 1 total_most W 3 0

abbrev pub judged_top : ℕ → Outcome Done
judged_top h = within 1 2_000 h 4 0

unfoldable pub judged_building : ℕ → ℕ → Outcome Done
judged_building W h = do
  judged_total W
  judged_top h
