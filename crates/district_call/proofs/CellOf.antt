-- The cell of an accepted job: V_D over W is at most 1,125 thousandths, so 113 cells are enough.
-- Assumes nothing.
use Prim.Native.Nat.{◌≤◌, ◌<◌}
use native.Mathlib.Omega.{arith}
use Rattle.whole.specs.Rounding.{down}
use Rattle.whole.proofs.Rounding.{down_most}
use Rattle.district_call.specs.declared.weighed.Weighed.{Weighed}
use Rattle.district_call.specs.Report.{thousandths, cell_of, cells_most}
use Rattle.district_call.specs.Tally.{Ratio}

module _ (w : Weighed) (r : Ratio w) where
  pub thousandths_most : thousandths w ≤ 1_125
  unfolding thousandths
  thousandths_most = down_most w.figures.vd w.weight 1_125 r.weight (omega (arith, r.most))

  pub cell_low : cell_of w < cells_most
  unfolding cell_of down
  cell_low = omega (arith, thousandths_most)
