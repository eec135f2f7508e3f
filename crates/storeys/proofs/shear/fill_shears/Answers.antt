-- `storeys::shear::fill_shears` meets its contract: each of the first cells is written, and the rest untouched. Assumes nothing.
use mathlib.Core.Path.{ap₂, ◌∙◌}
use Prim.Native.Nat.{ℕ, ◌<◌}
use native.Mathlib.Omega.{arith}
use lib.ListN.{length, drop, length-take, length-drop}
use lib.Seq.{drop-drop}
use Rattle.storeys.proofs.Laying.{written_more, laid_by_place}
use Rattle.storeys.proofs.Roof.{roof_most}
use Rattle.storeys.proofs.Sums.{part_sum, weighing_from}
use Rattle.storeys.specs.Storeys.{weight_height, shear_under}
use Rattle.whole.proofs.Cells.{part_tail}
use Rattle.storeys.proofs.shear.fill_shears.Goals as goal

pub shared-requires : goal.shared-requires
shared-requires c = grind (arith, roof_most, part_sum)

pub above_lowest-px-requires : goal.above_lowest-px-requires
above_lowest-px-requires c =
    let ws = c.args.weights.now in
    let hs = c.args.heights.now in
    let l = c.loop-x in
    let some : 0 < length (drop l.x ws) = omega (arith, length-take {A = ℕ}, length-drop {A = ℕ}) in
    simp part_tail (weighing_from ws hs l.x c.requires.1, some, l.invariant.rest)

pub loop-x-preserved : goal.loop-x-preserved
loop-x-preserved c =
    let a = c.args in
    let l = c.loop-x in
    let ft = c.roof_force-ft in
    let whole = c.weight_height-p in
    let shared = c.shared in
    let next = simp part_tail at c.above_lowest-px.ensures in
    let one_more = ap₂ weight_height (drop-drop 1 l.x a.weights.now) (drop-drop 1 l.x a.heights.now) in
    record {
      rest = next ∙ one_more;
      written = written_more (shear_under a.t a.v a.weights.now a.heights.now) l.cell-items l.x shared.result (omega arith) (cc) l.invariant.written;
    }

pub returns : goal.returns
returns c =
    let a = c.args in
    let l = c.loop-x in
    laid_by_place (shear_under a.t a.v a.weights.now a.heights.now) _ _ _ l.x c.requires.3 l.auto.cell-items c.loop-x-test.false l.invariant.written
