-- `sheets::listing::put_cells` meets its contract. The invariant: the lines of the cells below cell k are written.
-- Assumes nothing.
use mathlib.Core.Path.{◌≡◌}
use lib.ListN.{drop}
use Rattle.sheets.specs.Listing.{cell_line, cell_lines}
use Rattle.sheets.proofs.Numbered.{Lined}
use Rattle.sheets.proofs.listing.put_cells.Given as goal

abbrev pub invariant-loop-k : goal.invariant-loop-k
invariant-loop-k l =
    record {
      same_buffer : l.w.out.ghost_name ≡ l.initial.w.out.ghost_name;
      bytes : Lined cell_line l.initial.w l.w (cell_lines l.cells) l.k (drop l.k l.cells);
    }
