-- `storeys::shear::fill_shears` meets its contract: cell after cell. The invariant: px is P_x, the sum of what stands from level x on.
-- Assumes nothing.
use mathlib.Core.Path.{◌≡◌}
use Prim.Native.Nat.{ℕ, ◌<◌}
use lib.ListN.{drop, get_or}
use Rattle.storeys.specs.Storeys.{weight_height, shear_under}
use Rattle.storeys.proofs.shear.fill_shears.Given as goal

abbrev pub invariant-loop-x : goal.invariant-loop-x
invariant-loop-x l =
    record {
      rest : l.px ≡ weight_height (drop l.x l.weights) (drop l.x l.heights);
      written : (k : ℕ) → k < l.x → get_or l.cell-items k 0 ≡ shear_under l.t l.v l.weights l.heights k;
    }
