-- `soil::log::deep` meets its contract. The invariant: what the thicknesses add up to and what is left of the depth are the depth
-- and what the thicknesses from the next one on add up to. Assumes nothing.
use mathlib.Core.Path.{◌≡◌}
use Prim.Native.Nat.{◌+◌}
use lib.ListN.{drop}
use Rattle.whole.specs.Cells.{sum}
use Rattle.soil.proofs.log.deep.Given as goal

abbrev pub invariant-loop-d : goal.invariant-loop-d
invariant-loop-d l = sum l.thicknesses + l.left ≡ 3_000 + sum (drop l.d-index l.thicknesses)
