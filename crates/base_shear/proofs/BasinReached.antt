-- The hazards of a zone of the Taipei Basin and an R are within reach: A of 0.6 g and 0.8 g, B of at most 1.28 g.
-- Assumes nothing.
use Prim.Native.Nat.{ℕ, ◌≤◌}
use native.Mathlib.Omega.{arith}
use Rattle.limits.specs.declared.zone.Zone.{Zone}
use Rattle.site.specs.Basin.{basin_design, basin_mce, basin_hazards}
use Rattle.site.proofs.Corners.{corner_bounds}
use Rattle.base_shear.specs.Ready.{Bounded, Reached}
use Rattle.base_shear.proofs.Ductilities.{basin_ductile, mce_ductile}
use Rattle.base_shear.proofs.HazardsReached.{Sized, three_bounded, three_reached}

module _ (z : Zone) (R : ℕ) (lo : 100 ≤ R) (hi : R ≤ 600) where
  design : Sized (basin_design z R)
  design = record { a = omega arith; b = omega (arith, corner_bounds z); ductile = basin_ductile R lo hi }

  mce : Sized (basin_mce z R)
  mce = record { a = omega arith; b = omega (arith, corner_bounds z); ductile = mce_ductile R lo hi }

  pub basin_bounded : Bounded 1_125_000_000 (basin_hazards z R)
  basin_bounded = three_bounded _ _ _ 35 design mce design _ (omega arith) (omega arith)

  pub basin_reached : Reached (basin_hazards z R)
  basin_reached = three_reached _ _ _ 35 design mce design (omega arith) (omega arith)
