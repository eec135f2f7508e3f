-- `limits::displacement::displaced` meets its contract. The invariant: the whole list is judged as what is left of it from the i-th on.
-- Assumes nothing.
use mathlib.Core.Path.{◌≡◌}
use Prim.Native.Nat.{◌+◌}
use lib.ListN.{drop}
use Rattle.limits.specs.Displacement.{displaced}
use Rattle.limits.proofs.displacement.displaced.Given as goal

abbrev pub invariant-loop-i : goal.invariant-loop-i
invariant-loop-i l = displaced 1 l.displacements ≡ displaced (l.i + 1) (drop l.i l.displacements)
