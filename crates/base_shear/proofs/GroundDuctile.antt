-- The hazards of a ground with a larger R are more ductile: of a site and of a zone of the Taipei Basin.
-- Assumes nothing.
use mathlib.Core.Path.{refl}
use Prim.Native.Nat.{ℕ, ◌≤◌}
use native.Mathlib.Omega.{arith}
use Rattle.whole.specs.declared.Fraction.{Fraction}
use Rattle.whole.specs.Fraction.{AtMost}
use Rattle.limits.specs.declared.ground.Ground.{Ground}
use Rattle.limits.specs.declared.ground.Ground.TheVariants.{Site as OnSite, Basin as InBasin}
use Rattle.site.specs.Capacity.{basin_capacity, basin_square}
use Rattle.site.specs.Ground.{ground_hazards}
use Rattle.base_shear.specs.Moves.{MoreDuctile, MoreDuctileAll}

module _ (a b : ℕ) (c ρ c' ρ' : Fraction) where
  hazard_more_ductile : AtMost c c' → AtMost ρ ρ'
      → MoreDuctile (record { a = a; b = b; capacity = c; square = ρ }) (record { a = a; b = b; capacity = c'; square = ρ' })
  hazard_more_ductile hc hρ = record { a = refl; b = refl; capacity = hc; square = hρ }

pub ground_more_ductile : (g : Ground) (R R' : ℕ) → R ≤ R' → MoreDuctileAll (ground_hazards g R) (ground_hazards g R')
ground_more_ductile (OnSite s) R R' h =
    record {
      design = hazard_more_ductile _ _ _ _ _ _ (omega arith) (omega arith);
      mce = hazard_more_ductile _ _ _ _ _ _ (omega arith) (omega arith);
      star = hazard_more_ductile _ _ _ _ _ _ (omega arith) (omega arith);
      lines = refl;
      divisor = refl;
      stardivisor = refl;
    }
ground_more_ductile (InBasin z) R R' h =
    let allowable = hazard_more_ductile _ _ (basin_capacity R) (basin_square R) (basin_capacity R') (basin_square R') (omega arith) (omega arith) in
    record {
      design = allowable;
      mce = hazard_more_ductile _ _ _ _ _ _ (omega arith) (omega arith);
      star = allowable;
      lines = refl;
      divisor = refl;
      stardivisor = refl;
    }
