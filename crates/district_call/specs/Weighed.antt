-- The five figures of a job with its total weight, by which the report sorts it. The ground G, the frame f, weights ws in kN and heights hs in dm.
--   weighed_job G f ws hs    the figures of the job without buffers, and W, the sum of the weights; or the job's refusal
use Rattle.std.specs.Prelude.{List, ℕ, length}
use Rattle.whole.specs.Cells.{sum}
use Rattle.limits.specs.declared.frame.FrameValues.{FrameValues}
use Rattle.limits.specs.declared.ground.GroundValues.{GroundValues}
use Rattle.limits.specs.Outcome.{Outcome, accepted, ◌>>=◌}
use Rattle.job.specs.Job.{job_of, figures_only}
use Rattle.district_call.specs.declared.weighed.Weighed.{Weighed}

unfoldable pub weighed_job : GroundValues → FrameValues → List ℕ → List ℕ → Outcome Weighed
weighed_job G f ws hs = do
  n ← figures_only (job_of G f ws hs (length ws))
  accepted (record { figures = n; weight = sum ws })
