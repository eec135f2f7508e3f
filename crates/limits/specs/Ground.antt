-- The ground of a job: a site, or a zone of the Taipei Basin. It is one of the two by its type; a zone comes with no site class and no
-- near-fault factor.
--   judged_on_site v     5 to 7: the site of values v, as a ground
--   judged_in_basin n    18: the zone of number n, as a ground
--   judged_ground v      the one or the other: 18 stands where 5 to 7 stand
use Rattle.std.specs.Prelude.{ℕ}
use Rattle.limits.specs.declared.ground.Ground.{Ground}
use Rattle.limits.specs.declared.ground.Ground.TheVariants.{Site as OnSite, Basin as InBasin}
use Rattle.limits.specs.declared.ground.GroundValues.{GroundValues}
use Rattle.limits.specs.declared.ground.GroundValues.TheVariants.{Site, Basin}
use Rattle.limits.specs.declared.site.SiteValues.{SiteValues}
use Rattle.limits.specs.Outcome.{Outcome, accepted, ◌>>=◌}
use Rattle.limits.specs.Site.{judged_site}
use Rattle.limits.specs.Zone.{judged_zone}

abbrev pub judged_on_site : SiteValues → Outcome Ground
judged_on_site v = do
  site ← judged_site v
  accepted (OnSite site)

abbrev pub judged_in_basin : ℕ → Outcome Ground
judged_in_basin n = do
  zone ← judged_zone n
  accepted (InBasin zone)

abbrev pub judged_ground : GroundValues → Outcome Ground
judged_ground (Site v) = judged_on_site v
judged_ground (Basin n) = judged_in_basin n
