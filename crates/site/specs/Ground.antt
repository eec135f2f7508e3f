-- The three hazards of a judged ground and an R: all that is known of it from here on.
--   ground_hazards g R    those of its site, or of its zone
use Rattle.std.specs.Prelude.{ℕ}
use Rattle.limits.specs.declared.ground.Ground.{Ground}
use Rattle.limits.specs.declared.ground.Ground.TheVariants.{Site, Basin}
use Rattle.site.specs.declared.hazard.Hazards.{Hazards}
use Rattle.site.specs.Basin.{basin_hazards}
use Rattle.site.specs.SiteHazards.{site_hazards}

abbrev pub ground_hazards : Ground → ℕ → Hazards
ground_hazards (Site s) R = site_hazards s R
ground_hazards (Basin z) R = basin_hazards z R
