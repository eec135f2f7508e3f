-- `district::main` is safe: what is handed on are the cells that were filled. Assumes nothing.
use Rattle.std.proofs.Common.{ℕ, sym}
use Rattle.std.proofs.lemmas.List.{length-replicate}
use Rattle.district.proofs.main.Goals as goal

pub slice_bounds-fill-end : goal.slice_bounds-fill-end
slice_bounds-fill-end c = sym (length-replicate {A = ℕ} 1048833 0)

pub slice_bounds-input-end : goal.slice_bounds-input-end
slice_bounds-input-end c = c.in-Ok.ensures.within.0

pub slice_bounds-print-end : goal.slice_bounds-print-end
slice_bounds-print-end c = c.in-Ok.ensures.within.1
