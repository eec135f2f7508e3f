-- Numbers 21 and 22: what is judged of a district beside its jobs.
--   stretch start count l    the levels that a job names: `count` of the list l, from the one at `start` on, counted from 0
--   judged_stretch store start count    21: a stretch outside a store of so many levels. The sum of two whole numbers does not wrap
--   judged_district jobs weights heights rows    22: over 256 jobs, lists of the store of unequal length, a row buffer with fewer rows than jobs
use Rattle.std.specs.Prelude.{List, ℕ, ◌+◌, leb, eqb, take, drop}
use Rattle.limits.specs.Outcome.{Outcome, Done, require, ◌>>◌}

abbrev pub stretch : ℕ → ℕ → List ℕ → List ℕ
stretch start count l = take count (drop start l)

unfoldable pub judged_stretch : ℕ → ℕ → ℕ → Outcome Done
judged_stretch store start count = require (leb (start + count) store) 21 0

unfoldable pub judged_district : ℕ → ℕ → ℕ → ℕ → Outcome Done
judged_district jobs weights heights rows = do
  require (leb jobs 256) 22 0
  require (eqb heights weights) 22 0
  require (leb jobs rows) 22 0
