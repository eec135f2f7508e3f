-- `limits::levels::raised` meets its contract. The invariant: the whole list is judged as what is left of it from the i-th on.
-- Assumes nothing.
use mathlib.Core.Path.{◌≡◌}
use Prim.Native.Nat.{◌+◌}
use lib.ListN.{drop}
use Rattle.limits.specs.Levels.{raised}
use Rattle.limits.proofs.levels.raised.Given as goal

abbrev pub invariant-loop-i : goal.invariant-loop-i
invariant-loop-i l = raised 0 1 l.heights ≡ raised l.below (l.i + 1) (drop l.i l.heights)
