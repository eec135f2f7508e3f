-- `sheets::listing::put_row` meets its contract. Assumes nothing.
use Rattle.sheets.proofs.Lines.{row_is}
use Rattle.sheets.proofs.listing.put_row.Goals as goal

pub line-requires : goal.line-requires
line-requires c = rw (row_is c.args.number _ _ c.row_of.ensures) c.requires

pub returns-clause-bytes : goal.returns-clause-bytes
returns-clause-bytes c = rw (row_is c.args.number _ _ c.row_of.ensures) at c.line.ensures.bytes
