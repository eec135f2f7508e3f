-- `sheet::levels::level_lines` meets its contract. The invariant: the levels are those before and what is left of the sheet.
-- Assumes nothing.
use lib.ListN.{length}
use Rattle.sheet.proofs.Gathering.{Gathered}
use Rattle.sheet.proofs.levels.level_lines.Given as goal

abbrev pub invariant-loop-left : goal.invariant-loop-left
invariant-loop-left l = Gathered l.s l.weights l.heights l.n l.left

abbrev pub decreases-loop-left : goal.decreases-loop-left
decreases-loop-left l = length l.left
