-- The job: one building, one horizontal direction. The ground G, the frame f, weights ws in kN and heights hs in dm, lowest level first. It is
-- what the shear call and the distribution make together (InTurn.antt), judged once.
--   Results                    V, V_M, V*, V_D and T, and the columns of the levels
--   results_at n ws hs          those of five figures: the storeys at V_D and T
--   job_figures g ws hs         the five figures of a judged ground and frame: W is the sum of the weights, h the last height
--   results_of g ws hs          the results of these
--   job_of G f ws hs room       the results, or the first refusal; room is the length of the shortest result buffer
--   figures_only o, columns_only o    what is left of an outcome without the levels, and without the figures
--   written o b                what three lent buffers hold after that held b: each level's cell written, the rest as it was; where data is refused,
--                              all as it was
--   Figured G f ws hs a        a is the answer without buffers
--   Answers G f ws hs b a b'   a is the answer, and b' what the buffers hold that held b
use Rattle.std.specs.Prelude.{◌≡◌, List, ℕ, length}
use Rattle.whole.specs.Cells.{sum}
use Rattle.limits.specs.declared.frame.FrameValues.{FrameValues}
use Rattle.limits.specs.declared.ground.GroundValues.{GroundValues}
use Rattle.limits.specs.declared.judging.Given.{Given}
use Rattle.limits.specs.Judging.{judged_job}
use Rattle.limits.specs.Levels.{top_height}
use Rattle.limits.specs.Outcome.{Outcome, Answer, accepted, outcome, ◌>>=◌}
use Rattle.base_shear.specs.declared.Figures.{Figures}
use Rattle.job.specs.Distribution.{Columns, columns_at, Buffers, shortest, filled}
use Rattle.job.specs.ShearCall.{building_figures}

pub record Results : Type 0 where
  pub figures : Figures
  pub columns : Columns

abbrev pub results_at : Figures → List ℕ → List ℕ → Results
results_at n ws hs = record { figures = n; columns = columns_at n.t n.vd ws hs }

abbrev pub job_figures : Given → List ℕ → List ℕ → Figures
job_figures g ws hs = building_figures g (sum ws) (top_height hs)

abbrev pub results_of : Given → List ℕ → List ℕ → Results
results_of g ws hs = results_at (job_figures g ws hs) ws hs

unfoldable pub job_of : GroundValues → FrameValues → List ℕ → List ℕ → ℕ → Outcome Results
job_of G f ws hs room = do
  g ← judged_job G f ws hs room
  accepted (results_of g ws hs)

abbrev pub figures_only : Outcome Results → Outcome Figures
figures_only o = do
  r ← o
  accepted r.figures

abbrev pub columns_only : Outcome Results → Outcome Columns
columns_only o = do
  r ← o
  accepted r.columns

abbrev pub written : Outcome Results → Buffers → Buffers
written o b = filled (columns_only o) b

abbrev pub Figured : GroundValues → FrameValues → List ℕ → List ℕ → Answer Figures → Type 0
Figured G f ws hs a = outcome a ≡ figures_only (job_of G f ws hs (length ws))

abbrev pub Answers : GroundValues → FrameValues → List ℕ → List ℕ → Buffers → Answer Figures → Buffers → Type 0
Answers G f ws hs b a b' =
    let o = job_of G f ws hs (shortest b) in
    (outcome a ≡ figures_only o) × (b' ≡ written o b)
