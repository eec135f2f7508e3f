-- Number 2: lists and result buffers beside one another, at place 0.
--   same_length n m     a list of another length, m, beside one of n: heights beside weights; of drift displacements beside heights; in a soil log
--                      kinds and values beside thicknesses
--   roomy n cells      a result buffer of fewer cells than levels
use Rattle.std.specs.Prelude.{ℕ, leb, eqb}
use Rattle.limits.specs.Outcome.{Outcome, Done, require}

abbrev pub same_length : ℕ → ℕ → Outcome Done
same_length n m = require (eqb m n) 2 0

abbrev pub roomy : ℕ → ℕ → Outcome Done
roomy n cells = require (leb n cells) 2 0
