-- The storeys of every accepted job, in the cells that `job` wrote: forces that add up to V_D to the newton, shears that never fall
-- on the way down, so that no force is below zero, and a lowest shear that is V_D. They are what is said of columns of any base shear.
-- Assumes nothing.
use Rattle.std.specs.Prelude.{Ok}
use Rattle.limits.specs.Outcome.{Answer}
use mathlib.Core.Path.{◌≡◌}
use mathlib.Core.List.{List}
use Prim.Native.Nat.{ℕ, ◌+◌, ◌≤◌, ◌<◌}
use lib.ListN.{length, take, get_or}
use Rattle.whole.specs.Cells.{sum}
use Rattle.limits.specs.declared.frame.FrameValues.{FrameValues}
use Rattle.limits.specs.declared.ground.GroundValues.{GroundValues}
use Rattle.limits.proofs.Accepted.{given_allowed}
use Rattle.base_shear.specs.declared.Figures.{Figures}
use Rattle.storeys.specs.Reach.{Standing}
use Rattle.storeys.specs.Storeys.{shear_under, force, overturning}
use Rattle.job.specs.Distribution.{columns_at, Buffers, shortest, laid_over}
use Rattle.job.specs.Job.{Answers}
use Rattle.job.proofs.Answered.{taken_accepted}
use Rattle.job.proofs.Columns as columns
use Rattle.job.proofs.GivenReached.{standing}

module _ (G : GroundValues) (f : FrameValues) (ws hs : List ℕ) (b : Buffers) (n : Figures) (b' : Buffers) (a : Answers G f ws hs b (Ok n) b') where
  -- the cells that were written
  abbrev pub forces_out : List ℕ
  forces_out = take (length ws) b'.forces

  abbrev pub shears_out : List ℕ
  shears_out = take (length ws) b'.shears

  stands : Standing ws hs
  stands =
      let t = taken_accepted G f ws hs b n b' a in
      standing ws hs (given_allowed G f ws hs (shortest b) t.given t.judged).0.levels

  laid : b' ≡ laid_over (columns_at n.t n.vd ws hs) b
  laid = (taken_accepted G f ws hs b n b' a).cells

  pub forces_add_up : sum forces_out ≡ n.vd
  forces_add_up = columns.forces_add_up n.t n.vd ws hs b b' laid stands.some stands.positive

  pub shears_never_fall : (x : ℕ) → get_or shears_out (x + 1) 0 ≤ get_or shears_out x 0
  shears_never_fall = columns.shears_never_fall n.t n.vd ws hs b b' laid stands.some stands.positive

  pub lowest_shear : get_or shears_out 0 0 ≡ n.vd
  lowest_shear = columns.lowest_shear n.t n.vd ws hs b b' laid stands.some stands.positive

  pub force_is_difference : (x : ℕ) → x < length ws → get_or forces_out x 0 + get_or shears_out (x + 1) 0 ≡ get_or shears_out x 0
  force_is_difference = columns.force_is_difference n.t n.vd ws hs b b' laid stands.some stands.positive

  -- the cell of level x is the shear under it
  pub shear_cell : (x : ℕ) → x < length ws → get_or b'.shears x 0 ≡ shear_under n.t n.vd ws hs x
  shear_cell = columns.shear_cell n.t n.vd ws hs b b' laid

  -- that of a force is the level's, and that of an overturning moment the one about the bottom of storey x
  pub force_cell : (x : ℕ) → x < length ws → get_or b'.forces x 0 ≡ force (columns_at n.t n.vd ws hs).shears x
  force_cell = columns.force_cell n.t n.vd ws hs b b' laid

  pub overturning_cell : (x : ℕ) → x < length ws
      → get_or b'.overturnings x 0 ≡ overturning (columns_at n.t n.vd ws hs).forces hs x
  overturning_cell = columns.overturning_cell n.t n.vd ws hs b b' laid
