-- `soil::times::timed` meets its contract. The invariant: the whole log is timed as what is added and what is left of it, and no time is
-- more than its ns at 1 dm/s. Assumes nothing.
use Rattle.std.specs.Iterator.Adapters.{enumerate_source, enumerate_count, zip_first, zip_second}
use Rattle.std.specs.Slice.Iter.{iter_rest}
use Rattle.soil.proofs.Adding.{Timing}
use Rattle.soil.proofs.times.timed.Given as goal

abbrev pub invariant-loop-i : goal.invariant-loop-i
invariant-loop-i l =
    let it = l.i-iterator in
    let layers = zip_first it in
    (goal.iterator-loop-i).can_next it × (goal.iterator-loop-i).is_finite it
    × Timing l.thicknesses l.kinds l.values l.up l.down (enumerate_count (zip_first layers)) (iter_rest (enumerate_source (zip_first layers))) (iter_rest (zip_second layers)) (iter_rest (zip_second it))
