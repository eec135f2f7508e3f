-- Numbers 23 and 25 of a floor: its largest and its average displacement, without a sign, in 0.01 mm.
--   judged_unsigned d    23: a displacement above a million, at 0
--   judged_average l a   25: an average a that is 0 or above the largest l
--   judged_floor l a     23 of either, then 25
use Rattle.std.specs.Prelude.{ℕ}
use Rattle.limits.specs.Displacement.{displacement_most}
use Rattle.limits.specs.Outcome.{Outcome, Done, ◌>>◌}
use Rattle.limits.specs.Ranges.{within}

abbrev pub judged_unsigned : ℕ → Outcome Done
judged_unsigned d = within 0 displacement_most d 23 0

abbrev pub judged_average : ℕ → ℕ → Outcome Done
judged_average l a = within 1 l a 25 0

unfoldable pub judged_floor : ℕ → ℕ → Outcome Done
judged_floor l a = do
  judged_unsigned l
  judged_unsigned a
  judged_average l a
