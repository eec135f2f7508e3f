-- `sheets::split::first_length` meets its contract. The invariant: what is left of the first sheet begins where the code is.
-- Assumes nothing.
use mathlib.Core.Path.{◌≡◌}
use mathlib.Core.Bool.{true}
use Prim.Native.Nat.{◌+◌}
use lib.ListN.{length, drop}
use Rattle.sheets.specs.Split.{first_in}
use Rattle.sheets.proofs.split.first_length.Given as goal

abbrev pub invariant-loop-i : goal.invariant-loop-i
invariant-loop-i l = length (first_in true l.s) ≡ l.i + length (first_in l.fresh (drop l.i l.s))
