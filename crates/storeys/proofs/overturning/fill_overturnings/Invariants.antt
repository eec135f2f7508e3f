-- `storeys::overturning::fill_overturnings` meets its contract: cell after cell, and the rest untouched. The invariant: what is
-- borne is the forces from level x on, together and about the bottom of storey x. Assumes nothing.
use mathlib.Core.Path.{◌≡◌}
use lib.ListN.{length, drop}
use Rattle.storeys.specs.Storeys.{bottom, borne, overturning}
use Rattle.whole.proofs.Cells.{Sinking}
use Rattle.storeys.proofs.overturning.fill_overturnings.Given as goal

abbrev pub invariant-loop-x : goal.invariant-loop-x
invariant-loop-x l =
    record {
      above : l.all ≡ borne (bottom l.heights l.x) (drop l.x l.forces) (drop l.x l.heights);
      written : Sinking (overturning l.forces l.heights) l.initial.out (length l.forces) l.x l.out;
    }
