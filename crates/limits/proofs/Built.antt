-- The levels of an accepted job are levels that `Level::judged` builds.
-- Assumes nothing.
use mathlib.Core.Path.{◌≡◌}
use mathlib.Core.List.{List}
use Prim.Native.Nat.{ℕ, zero, suc, ◌+◌, ◌≤◌, ◌<◌}
use native.Mathlib.Numerals.{add-one}
use native.Mathlib.Omega.{arith}
use lib.ListN.{length, get_or}
use borrow.Author.Tests.{le-leb, lt-ltb}
use Rattle.whole.specs.Cells.{below}
use Rattle.limits.specs.Allowed.{AllowedLevels}
use Rattle.limits.specs.Levels.{judged_level}
use Rattle.limits.specs.Outcome.{accepted}
use Rattle.limits.specs.Ranges.{in_range, within}

pub range_passes : (least most x n p : ℕ) → (least ≤ x) × (x ≤ most) → within least most x n p ≡ accepted tt
unfolding within in_range
range_passes least most x n p h = simp (le-leb least x h.0, le-leb x most h.1)

module _ (ws hs : List ℕ) (a : AllowedLevels ws hs) where
  rises : (x : ℕ) → x < length hs → below 0 hs x < get_or hs x 0
  rises zero h = (a.heights 0 h).0
  rises (suc x) h = rw (← add-one x) (a.rising x (omega arith))

  pub levels_built : (x : ℕ) → x < length ws
      → judged_level (below 0 hs x) (get_or ws x 0) (get_or hs x 0) (1 + x) ≡ accepted (record { weight = get_or ws x 0; height = get_or hs x 0 })
  levels_built x h =
      let l : x < length hs = omega (arith, a.same) in
      simp (
        range_passes 1 20_000 (get_or ws x 0) 3 (1 + x) (a.weights x h),
        range_passes 1 2_000 (get_or hs x 0) 4 (1 + x) (a.heights x l),
        lt-ltb _ _ (rises x l),
      )
