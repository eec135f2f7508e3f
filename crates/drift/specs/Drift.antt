-- Drift (2.5.4): 'the ratio of the difference of deflections at the top and bottom of the story under consideration divided by the story height'. Heights hs
-- above the base in dm, displacements zs in 0.01 mm with their signs, lowest level first. Storey x, from 0, has level x at its top.
--   storey_height hs x        its own height in dm: that of its top less that of its bottom, which is level x − 1, or the base
--   top zs x, under zs x     the displacements of its top and of its bottom, 'the base at 0'
--   drift_angle hs zs x       'the difference between its ends over its height', exact, with its sign: 1 dm is 10,000 times 0.01 mm
--   apart zs x               the size of that difference, in 0.01 mm
--   within_limit hs zs m x    'yes exactly when the exact quotient's size is at most the limit', m ten-thousandths
--   verdict_of hs zs m x      the verdict as a cell: 1 yes, 0 no
--   verdicts hs zs m         those of all storeys, lowest first
--   drift_of hs zs m room     the verdicts, or the first refusal; room is the length of the result buffer
--   DriftAnswers hs zs m old a held    a is the answer, and held what the buffer holds that held old: each storey's cell written, the rest as it
--                            was; where data is refused, all as it was
-- ℕ's subtraction stops at 0; heights rise, and no storey height is 0 (`storey_high` of proofs/).
use Rattle.std.specs.Prelude.{Bool, List, ◌∷◌, ℕ, ◌-◌, ◌*◌, ℤ, pos, ◌-ℤ◌, length, get_or}
use Rattle.whole.specs.Cells.{cells, laid}
use Rattle.whole.specs.Choice.{pick}
use Rattle.whole.specs.Fraction.{over, at_most}
use Rattle.whole.specs.Signed.{Signed, size, size_of}
use Rattle.limits.specs.DriftJudging.{judged_drift}
use Rattle.limits.specs.Outcome.{Outcome, Answer, accepted, Done, ◌>>◌}
use Rattle.storeys.specs.Storeys.{bottom}
use Rattle.drift.specs.Answering.{Answered}

abbrev pub storey_height : List ℕ → ℕ → ℕ
storey_height hs x = get_or hs x 0 - bottom hs x

abbrev pub top : List ℤ → ℕ → ℤ
top zs x = get_or zs x (pos 0)

abbrev pub under : List ℤ → ℕ → ℤ
under zs x = get_or (pos 0 ∷ zs) x (pos 0)

abbrev pub apart : List ℤ → ℕ → ℕ
apart zs x = size (top zs x -ℤ under zs x)

abbrev pub drift_angle : List ℕ → List ℤ → ℕ → Signed
drift_angle hs zs x = record { num = top zs x -ℤ under zs x; den = 10_000 * storey_height hs x }

unfoldable pub within_limit : List ℕ → List ℤ → ℕ → ℕ → Bool
within_limit hs zs m x = at_most (size_of (drift_angle hs zs x)) (over m 10_000)

abbrev pub verdict_of : List ℕ → List ℤ → ℕ → ℕ → ℕ
verdict_of hs zs m x = pick (within_limit hs zs m x) 1 0

abbrev pub verdicts : List ℕ → List ℤ → ℕ → List ℕ
verdicts hs zs m = cells (verdict_of hs zs m) (length hs)

unfoldable pub drift_of : List ℕ → List ℤ → ℕ → ℕ → Outcome (List ℕ)
drift_of hs zs m room = do
  judged_drift hs zs m room
  accepted (verdicts hs zs m)

abbrev pub DriftAnswers : List ℕ → List ℤ → ℕ → List ℕ → Answer Done → List ℕ → Type 0
DriftAnswers hs zs m old a held = Answered laid (drift_of hs zs m (length old)) old a held
