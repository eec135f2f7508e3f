-- `drift::accidental::accidental_moments` meets its contract: the array of shears has a cell for each of at most 50 levels. Assumes nothing.
use mathlib.Core.Path.{sym}
use Prim.Native.Nat.{ℕ}
use native.Mathlib.Omega.{arith}
use lib.ListN.{length-take}
use Rattle.storeys.proofs.Chain.{shears_length, shears_whole}
use Rattle.storeys.proofs.Telescope.{shears_fall}
use Rattle.drift.proofs.EachWay.{shears_carried}
use Rattle.drift.proofs.Moments.{moments_asked, passed_moments}
use Rattle.drift.proofs.accidental.accidental_moments.Goals as goal

pub slice_bounds-room_for_shears-end : goal.slice_bounds-room_for_shears-end
slice_bounds-room_for_shears-end c = (moments_asked _ _ _ _ _ _ c.in_ok-judged_moments.ensures).3

pub slice_bounds-shears-end : goal.slice_bounds-shears-end
slice_bounds-shears-end c =
    let asked = moments_asked _ _ _ _ _ _ c.in_ok-judged_moments.ensures in
    omega (arith, length-take {A = ℕ}, asked.3)

pub fill_shears-requires : goal.fill_shears-requires
fill_shears-requires c =
    let asked = moments_asked _ _ _ _ _ _ c.in_ok-judged_moments.ensures in
    (asked.0, asked.1.weighing, asked.1.positive, omega (arith, length-take {A = ℕ}, asked.3))

pub fill_each_way-requires : goal.fill_each_way-requires
fill_each_way-requires c =
    let a = c.args in
    let asked = moments_asked _ _ _ _ _ _ c.in_ok-judged_moments.ensures in
    let size = shears_length a.handed.period a.handed.shear a.weights.now a.heights.now in
    rw (shears_whole _ _ _ _ _ (omega (arith, length-take {A = ℕ})) c.fill_shears.ensures) (
      shears_fall a.handed.period a.handed.shear a.weights.now a.heights.now asked.1.positive,
      shears_carried a.handed.period a.handed.shear a.weights.now a.heights.now asked.0 asked.1.positive,
      asked.2,
      omega (arith, size, asked.4, c.min-room.ensures),
      omega (arith, size, asked.4, c.min-room.ensures),
    )

pub returns : goal.returns
returns c =
    let a = c.args in
    let laid = rw (shears_whole _ _ _ _ _ (omega (arith, length-take {A = ℕ})) c.fill_shears.ensures) at c.fill_each_way.ensures in
    passed_moments a.handed.shear a.handed.period a.weights.now a.heights.now a.dimension _ c.min-room.ensures (sym c.in_ok-judged_moments.ensures) laid.0 laid.1
