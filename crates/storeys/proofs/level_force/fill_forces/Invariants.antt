-- `storeys::level_force::fill_forces` meets its contract: cell after cell. Assumes nothing.
use mathlib.Core.Path.{◌≡◌}
use Prim.Native.Nat.{ℕ, ◌<◌}
use lib.ListN.{get_or}
use Rattle.storeys.specs.Storeys.{force}
use Rattle.storeys.proofs.level_force.fill_forces.Given as goal

abbrev pub invariant-loop-x : goal.invariant-loop-x
invariant-loop-x l = (k : ℕ) → k < l.x → get_or l.cell-items k 0 ≡ force l.shears k
