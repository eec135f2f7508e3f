-- Past one cell for each level, the length of the buffers says nothing to the judgments.
-- Assumes nothing.
use mathlib.Core.Path.{◌≡◌}
use mathlib.Core.List.{List}
use Prim.Native.Nat.{ℕ, ◌≤◌}
use lib.ListN.{length}
use borrow.Author.Tests.{le-leb}
use Rattle.limits.specs.declared.frame.FrameValues.{FrameValues}
use Rattle.limits.specs.declared.ground.GroundValues.{GroundValues}
use Rattle.limits.specs.Judging.{judged_job}
use Rattle.limits.specs.Levels.{judged_levels}

pub room_for_levels : (ws hs : List ℕ) (room room' : ℕ) → length ws ≤ room → length ws ≤ room'
    → judged_levels ws hs room ≡ judged_levels ws hs room'
unfolding judged_levels
room_for_levels ws hs room room' h h' = rw (le-leb _ _ h, le-leb _ _ h')

pub room_enough : (G : GroundValues) (f : FrameValues) (ws hs : List ℕ) (room room' : ℕ) → length ws ≤ room → length ws ≤ room'
    → judged_job G f ws hs room ≡ judged_job G f ws hs room'
unfolding judged_job
room_enough G f ws hs room room' h h' = rw (room_for_levels ws hs room room' h h')
