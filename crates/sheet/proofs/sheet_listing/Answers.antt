-- `sheet::sheet_listing` meets its contract: an array of zeros is written. Assumes nothing.
use Rattle.sheet.proofs.Listings.{printed_is}
use Rattle.sheet.proofs.sheet_listing.Goals as goal

pub returns : goal.returns
returns c = printed_is c.args.s.now c.put_sheet-put.ensures
