-- The corner of a hazard of the Taipei Basin is T0 of Table 4 exactly, at the design level and at the MCE level; T0 is 850 to 1,600 ms.
-- Assumes nothing.
use Prim.Native.Nat.{ℕ, ◌*◌, ◌≤◌}
use native.Mathlib.Omega.{arith}
use Rattle.whole.specs.Fraction.{over, Same}
use Rattle.limits.specs.declared.zone.Zone.{Zone}
use Rattle.limits.specs.declared.zone.Zone.TheVariants.{One, Two, Three, Four}
use Rattle.site.specs.Basin.{basin_design, basin_mce}
use Rattle.site.specs.Table4.{corner_period}

-- 1000·B/A is T0: nothing is rounded
corner_exact : (a T0 : ℕ) → Same (over (1000 * (a * T0)) (a * 1000)) (over T0 1)
corner_exact a T0 = omega arith

module _ (z : Zone) (R : ℕ) where
  pub design_corner : Same (over (1000 * (basin_design z R).b) (basin_design z R).a) (over (corner_period z) 1)
  design_corner = corner_exact 60_000 (corner_period z)

  pub mce_corner : Same (over (1000 * (basin_mce z R).b) (basin_mce z R).a) (over (corner_period z) 1)
  mce_corner = corner_exact 80_000 (corner_period z)

pub corner_bounds : (z : Zone) → (850 ≤ corner_period z) × (corner_period z ≤ 1600)
corner_bounds One = omega arith
corner_bounds Two = omega arith
corner_bounds Three = omega arith
corner_bounds Four = omega arith
