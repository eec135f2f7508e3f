-- All that is judged of a job, of the two calls that it is parted into and of a row of a district, in order. room is the length of the shortest result buffer.
--   given_values G f                       a ground and a frame as they come
--   judged_given o G f                    after a first judgment o: ground (5 to 7 of a site, 18 of a zone), frame (8 to 12); the judged ones, or
--                                        the first refusal
--   judged_job G f ws hs room              of a job: levels (1 to 4), ground, frame
--   judged_shear_call G f W h              of the shear call: total weight (3), top height (4), ground, frame
--   judged_distribution v t ws hs room     of the distribution: levels (1 to 4), base shear (19), period (20)
--   judged_row_levels start count ws hs    of the levels that a row of a district names in the store ws and hs: its stretch (21), then 1 to 4, with no buffer
--   judged_row G f start count ws hs       of such a row: these, ground, frame
use Rattle.std.specs.Prelude.{List, ℕ, length}
use Rattle.limits.specs.declared.frame.FrameValues.{FrameValues}
use Rattle.limits.specs.declared.ground.GroundValues.{GroundValues}
use Rattle.limits.specs.declared.judging.Given.{Given}
use Rattle.limits.specs.declared.judging.GivenValues.{GivenValues}
use Rattle.limits.specs.Building.{judged_building}
use Rattle.limits.specs.District.{stretch, judged_stretch}
use Rattle.limits.specs.Frame.{judged_frame}
use Rattle.limits.specs.Ground.{judged_ground}
use Rattle.limits.specs.Handed.{judged_handed}
use Rattle.limits.specs.Levels.{judged_levels}
use Rattle.limits.specs.Outcome.{Outcome, accepted, Done, ◌>>=◌, ◌>>◌}

abbrev pub given_values : (ground : GroundValues) → FrameValues → GivenValues
given_values G f = record { ground = G; frame = f }

abbrev pub judged_given : Outcome Done → (ground : GroundValues) → FrameValues → Outcome Given
judged_given o G f = do
  o
  g ← judged_ground G
  frame ← judged_frame f
  accepted (record { ground = g; frame = frame })

unfoldable pub judged_job : GroundValues → FrameValues → List ℕ → List ℕ → ℕ → Outcome Given
judged_job G f ws hs room = judged_given (judged_levels ws hs room) G f

unfoldable pub judged_shear_call : GroundValues → FrameValues → ℕ → ℕ → Outcome Given
judged_shear_call G f W h = judged_given (judged_building W h) G f

unfoldable pub judged_distribution : ℕ → ℕ → List ℕ → List ℕ → ℕ → Outcome Done
judged_distribution v t ws hs room = do
  judged_levels ws hs room
  judged_handed v t

unfoldable pub judged_row_levels : ℕ → ℕ → List ℕ → List ℕ → Outcome Done
judged_row_levels start count ws hs = do
  judged_stretch (length ws) start count
  judged_levels (stretch start count ws) (stretch start count hs) (length (stretch start count ws))

unfoldable pub judged_row : GroundValues → FrameValues → ℕ → ℕ → List ℕ → List ℕ → Outcome Given
judged_row G f start count ws hs = judged_given (judged_row_levels start count ws hs) G f
