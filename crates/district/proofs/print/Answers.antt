-- `district::print` is safe: what is printed is among the bytes that `put_district` writes. Assumes nothing.
use Rattle.std.proofs.Common.{sym, length-take-le}
use Rattle.sheets.proofs.Listed.{puts_part}
use Rattle.district.proofs.print.Goals as goal

pub slice_bounds-bytes-end : goal.slice_bounds-bytes-end
slice_bounds-bytes-end g c = (puts_part _ _ _ _ c.put_district-put.ensures).0

pub slice_bounds-write_all-end : goal.slice_bounds-write_all-end
slice_bounds-write_all-end g c = sym (length-take-le _ _ (puts_part _ _ _ _ c.put_district-put.ensures).0)
