-- `text::line::read_fields` meets its contract. The invariant: all fields are read as those in the first cells and what is left of them.
-- Assumes nothing.
use mathlib.Core.Path.{◌≡◌}
use Prim.Native.Nat.{◌-◌}
use lib.ListN.{length, take}
use Rattle.text.proofs.Lines.{gathered}
use Rattle.text.specs.Line.{fields}
use Rattle.text.specs.Reading.{left}
use Rattle.text.proofs.line.read_fields.Given as goal

abbrev pub invariant-loop-cell : goal.invariant-loop-cell
invariant-loop-cell l =
    let k = length l.initial.cells in
    left (fields k l.s) l.s ≡ left (gathered (take l.cell-index l.cells) (fields (k - l.cell-index) l.left)) l.left
