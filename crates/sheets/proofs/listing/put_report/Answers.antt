-- `sheets::listing::put_report` meets its contract. Assumes nothing.
use native.Mathlib.Omega.{arith}
use Rattle.text.proofs.Spliced.{room_first, writes_room, writes_more}
use Rattle.sheets.specs.Listing.{totals_line, cell_lines}
use Rattle.sheets.proofs.listing.put_report.Goals as goal

pub put_totals-requires : goal.put_totals-requires
put_totals-requires c = room_first (totals_line c.args.r.totals) (cell_lines c.args.r.cells) c.requires.1

pub put_cells-requires : goal.put_cells-requires
put_cells-requires c = (omega (arith, c.requires.0), writes_room c.put_totals.ensures.bytes c.requires.1)

pub returns-clause-bytes : goal.returns-clause-bytes
returns-clause-bytes c = writes_more c.put_totals.ensures.bytes c.requires.1 c.put_cells.ensures.bytes
