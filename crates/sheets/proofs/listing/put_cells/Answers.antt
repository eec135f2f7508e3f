-- `sheets::listing::put_cells` meets its contract. Assumes nothing.
use mathlib.Core.Path.{refl, ◌∙◌}
use native.Mathlib.Omega.{arith}
use lib.ListN.{drop_of_length-le}
use Rattle.sheets.specs.Listing.{cell_line}
use Rattle.sheets.proofs.Numbered.{drop_next, lined_none, lined_all, lined_room, lined_more}
use Rattle.sheets.proofs.listing.put_cells.Goals as goal

pub loop-k-init : goal.loop-k-init
loop-k-init c = record { same_buffer = refl; bytes = lined_none cell_line c.args.w.now 0 _ }

pub line-requires : goal.line-requires
unfolding cell_line
line-requires c = lined_room cell_line c.loop-k.invariant.bytes c.requires.1 (drop_next _ _ c.loop-k-test.true)

pub loop-k-preserved : goal.loop-k-preserved
unfolding cell_line
loop-k-preserved c =
    record {
      same_buffer = c.line.ensures.same_buffer ∙ c.loop-k.invariant.same_buffer;
      bytes = lined_more cell_line c.loop-k.invariant.bytes c.requires.1 (drop_next _ _ c.loop-k-test.true) c.line.ensures.bytes;
    }

pub returns-clause-bytes : goal.returns-clause-bytes
returns-clause-bytes c =
    lined_all cell_line c.loop-k.invariant.bytes (drop_of_length-le c.args.cells.now {i = c.loop-k.k} (omega arith))
