-- `soil::log::thick` meets its contract. The invariant: the whole list is judged as what is left of it from the i-th on.
-- Assumes nothing.
use mathlib.Core.Path.{◌≡◌}
use Prim.Native.Nat.{◌+◌}
use lib.ListN.{drop}
use Rattle.soil.specs.Log.{thick}
use Rattle.soil.proofs.log.thick.Given as goal

abbrev pub invariant-loop-i : goal.invariant-loop-i
invariant-loop-i l = thick 1 l.thicknesses ≡ thick (l.i + 1) (drop l.i l.thicknesses)
