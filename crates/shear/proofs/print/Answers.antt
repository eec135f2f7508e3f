-- `shear::print` is safe: the bytes of a listing are among those that `sheet_listing` hands on. Assumes nothing.
use Rattle.std.proofs.Common.{sym, length-take-le}
use Rattle.sheet.proofs.Length.{listing_part}
use Rattle.shear.proofs.print.Goals as goal

pub slice_bounds-bytes-end : goal.slice_bounds-bytes-end
slice_bounds-bytes-end g c = (listing_part _ _ c.sheet_listing-length.ensures).0

pub slice_bounds-write_all-end : goal.slice_bounds-write_all-end
slice_bounds-write_all-end g c = sym (length-take-le _ _ (listing_part _ _ c.sheet_listing-length.ensures).0)
