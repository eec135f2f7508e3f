-- The distribution: a base shear v in N over the storeys, at a period T in ms, whoever worked them out. Weights ws in kN and heights hs in dm,
-- lowest level first.
--   Columns                           per level, lowest first, force, shear and overturning
--   columns_at T v ws hs              those of the base shear v at the period T
--   distribution_of v T ws hs room    the three columns, or the first refusal; room is the length of the shortest result buffer
--   Buffers, shortest b               what three lent buffers hold, and the length of the shortest
--   laid_over c b                     what they hold with each level's cell written, the rest as it was
--   filled o b                        what they hold after: so where data is accepted; where it is refused, all as it was
--   Distributed v T ws hs b a b'      a is the answer, and b' what the buffers hold that held b
use Rattle.std.specs.Prelude.{◌≡◌, List, ℕ, min, length}
use Rattle.whole.specs.Cells.{laid}
use Rattle.limits.specs.Judging.{judged_distribution}
use Rattle.limits.specs.Outcome.{Outcome, Answer, accepted, refused, Done, outcome, done_only, ◌>>=◌, ◌>>◌}
use Rattle.storeys.specs.Storeys.{shears, forces, overturnings}

pub record Columns : Type 0 where
  pub forces : List ℕ
  pub shears : List ℕ
  pub overturnings : List ℕ

abbrev pub columns_at : ℕ → ℕ → List ℕ → List ℕ → Columns
columns_at T v ws hs =
    let us = shears T v ws hs in
    record { forces = forces us; shears = us; overturnings = overturnings (forces us) hs }

unfoldable pub distribution_of : ℕ → ℕ → List ℕ → List ℕ → ℕ → Outcome Columns
distribution_of v T ws hs room = do
  judged_distribution v T ws hs room
  accepted (columns_at T v ws hs)

pub record Buffers : Type 0 where
  pub forces : List ℕ
  pub shears : List ℕ
  pub overturnings : List ℕ

abbrev pub shortest : Buffers → ℕ
shortest b = min (min (length b.forces) (length b.shears)) (length b.overturnings)

abbrev pub laid_over : Columns → Buffers → Buffers
laid_over c b =
    record {
      forces = laid c.forces b.forces;
      shears = laid c.shears b.shears;
      overturnings = laid c.overturnings b.overturnings;
    }

abbrev pub filled : Outcome Columns → Buffers → Buffers
filled (accepted c) b = laid_over c b
filled (refused n p) b = b

abbrev pub Distributed : ℕ → ℕ → List ℕ → List ℕ → Buffers → Answer Done → Buffers → Type 0
Distributed v T ws hs b a b' =
    let o = distribution_of v T ws hs (shortest b) in
    (outcome a ≡ done_only o) × (b' ≡ filled o b)
