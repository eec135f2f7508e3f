-- `sheets::listing::put_totals` meets its contract. Assumes nothing.
use Rattle.sheets.specs.Listing.{totals_line}
use Rattle.sheets.proofs.listing.put_totals.Goals as goal

pub line-requires : goal.line-requires
unfolding totals_line
line-requires c = c.requires

pub returns-clause-bytes : goal.returns-clause-bytes
unfolding totals_line
returns-clause-bytes c = c.line.ensures.bytes
