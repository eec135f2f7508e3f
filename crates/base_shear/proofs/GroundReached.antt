-- The hazards of an allowed ground and R are within reach: of a site, of a zone.
-- Assumes nothing.
use Prim.Native.Nat.{ℕ, ◌≤◌}
use Rattle.limits.specs.Allowed.{AllowedGround}
use Rattle.limits.specs.declared.ground.Ground.{Ground}
use Rattle.limits.specs.declared.ground.Ground.TheVariants.{Site, Basin}
use Rattle.site.specs.Ground.{ground_hazards}
use Rattle.base_shear.specs.Ready.{Bounded, Reached}
use Rattle.base_shear.proofs.BasinReached.{basin_bounded, basin_reached}
use Rattle.base_shear.proofs.SiteReached.{site_bounded, site_reached}

pub ground_reached : (g : Ground) (R : ℕ) → AllowedGround g → 100 ≤ R → R ≤ 600 → Reached (ground_hazards g R)
ground_reached (Site s) R a lo hi = site_reached s R a lo hi
ground_reached (Basin z) R a lo hi = basin_reached z R lo hi

pub ground_bounded : (g : Ground) (R : ℕ) → AllowedGround g → 100 ≤ R → R ≤ 600 → Bounded 1_125_000_000 (ground_hazards g R)
ground_bounded (Site s) R a lo hi = site_bounded s R a lo hi
ground_bounded (Basin z) R a lo hi = basin_bounded z R lo hi
