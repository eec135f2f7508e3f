-- `limits::levels::weighed` meets its contract. The invariant: the whole list is judged as what is left of it from the i-th on.
-- Assumes nothing.
use mathlib.Core.Path.{◌≡◌}
use Prim.Native.Nat.{◌+◌}
use lib.ListN.{drop}
use Rattle.limits.specs.Levels.{weighed}
use Rattle.limits.proofs.levels.weighed.Given as goal

abbrev pub invariant-loop-i : goal.invariant-loop-i
invariant-loop-i l = weighed 1 l.weights ≡ weighed (l.i + 1) (drop l.i l.weights)
