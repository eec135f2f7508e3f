-- The capacities of every R from 100 to 600 are within reach, in the unit in use: those of a site, of the Taipei Basin, and of the MCE
-- level.
--   capped c q R    the upper root of the square q of R is not above the capacity c of R
-- Assumes nothing.
use mathlib.Core.Path.{refl}
use mathlib.Core.Bool.{Bool}
use Prim.Native.Nat.{ℕ, ◌+◌, ◌-◌, ◌*◌, ◌≤◌}
use native.Mathlib.Omega.{arith}
use lib.Dec.{T, leb, leb→le}
use Rattle.whole.specs.declared.Fraction.{Fraction}
use Rattle.whole.specs.Root.{upper_root}
use Rattle.whole.specs.Search.{largest, smallest, bits_from}
use Rattle.whole.proofs.Range.{all_below, all_from}
use Rattle.site.specs.Capacity.{design_capacity, design_square, basin_capacity, basin_square, mce_capacity, mce_square}
use Rattle.response.specs.Reach.{Ductile}
use Rattle.response.specs.Unit.{unit}
use Rattle.response.proofs.Reached.{ductile_of}

capped : (ℕ → Fraction) → (ℕ → Fraction) → ℕ → Bool
capped c q R = leb (upper_root unit (q R) * (c R).den) (unit * (c R).num)

-- ---- for every R: 1,503 roots computed
design_tested : T (all_below (λ i. capped design_capacity design_square (100 + i)) 501)
unfolding all_below capped upper_root smallest largest bits_from
design_tested = tt

basin_tested : T (all_below (λ i. capped basin_capacity basin_square (100 + i)) 501)
unfolding all_below capped upper_root smallest largest bits_from
basin_tested = tt

mce_tested : T (all_below (λ i. capped mce_capacity mce_square (100 + i)) 501)
unfolding all_below capped upper_root smallest largest bits_from
mce_tested = tt

module _ (R : ℕ) (lo : 100 ≤ R) (hi : R ≤ 600) where
  root_below : (c q : ℕ → Fraction) → T (all_below (λ i. capped c q (100 + i)) 501) → upper_root unit (q R) * (c R).den ≤ unit * (c R).num
  unfolding capped
  root_below c q tested = leb→le _ _ (all_from (capped c q) 100 501 tested R lo (omega arith))

  pub design_ductile : Ductile unit (design_capacity R) (design_square R)
  design_ductile = ductile_of unit (2 * R + 100) 300 (R - 25) 75 (omega arith) refl (root_below design_capacity design_square design_tested)

  pub basin_ductile : Ductile unit (basin_capacity R) (basin_square R)
  basin_ductile = ductile_of unit (R + 100) 200 R 100 (omega arith) refl (root_below basin_capacity basin_square basin_tested)

  pub mce_ductile : Ductile unit (mce_capacity R) (mce_square R)
  mce_ductile = ductile_of unit R 100 (R - 50) 50 (omega arith) refl (root_below mce_capacity mce_square mce_tested)
