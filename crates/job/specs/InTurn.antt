-- 'The single call becomes two': the two entries one after the other, on one building. That a job is this: `job_in_turn`
-- (proofs/InTurn.antt).
--   in_turn G f ws hs room    the levels are judged first, so that what a later level is refused for still comes before the ground and the
--                            frame; then the shear call of the sum of the weights and the last height; then the distribution of V_D at T
use Rattle.std.specs.Prelude.{List, ℕ}
use Rattle.whole.specs.Cells.{sum}
use Rattle.limits.specs.declared.frame.FrameValues.{FrameValues}
use Rattle.limits.specs.declared.ground.GroundValues.{GroundValues}
use Rattle.limits.specs.Levels.{judged_levels, top_height}
use Rattle.limits.specs.Outcome.{Outcome, accepted, ◌>>=◌, ◌>>◌}
use Rattle.job.specs.Distribution.{distribution_of}
use Rattle.job.specs.Job.{Results}
use Rattle.job.specs.ShearCall.{shear_call_of}

unfoldable pub in_turn : GroundValues → FrameValues → List ℕ → List ℕ → ℕ → Outcome Results
in_turn G f ws hs room = do
  judged_levels ws hs room
  n ← shear_call_of G f (sum ws) (top_height hs)
  c ← distribution_of n.vd n.t ws hs room
  accepted (record { figures = n; columns = c })
