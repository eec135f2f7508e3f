-- `drift::storey_drift::Storeys::fill_verdicts` meets its contract: cell after cell. Assumes nothing.
use mathlib.Core.Path.{◌≡◌}
use Prim.Native.Nat.{ℕ, ◌<◌}
use lib.ListN.{get_or}
use Rattle.drift.specs.Drift.{verdict_of}
use Rattle.drift.proofs.storey_drift.Storeys.fill_verdicts.Given as goal

abbrev pub invariant-loop-x : goal.invariant-loop-x
invariant-loop-x l =
    (k : ℕ) → k < l.x → get_or l.cell-items k 0 ≡ verdict_of l.self.heights.now l.self.displacements.now l.self.limit k
