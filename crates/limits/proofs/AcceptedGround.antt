-- A site and a ground that are accepted are allowed: within the ranges that the calculation goes by.
-- Assumes nothing.
use mathlib.Core.Path.{◌≡◌, refl, subst}
use mathlib.Core.List.{[], ◌∷◌}
use Rattle.limits.specs.declared.ground.Ground.{Ground}
use Rattle.limits.specs.declared.ground.Ground.TheVariants.{Site as OnSite, Basin as InBasin}
use Rattle.limits.specs.declared.ground.GroundValues.{GroundValues}
use Rattle.limits.specs.declared.ground.GroundValues.TheVariants.{Site as SiteOf, Basin}
use Rattle.limits.specs.declared.site.Site.{Site}
use Rattle.limits.specs.declared.site.SiteValues.{SiteValues}
use Rattle.limits.specs.Allowed.{AllowedSite, AllowedGround}
use Rattle.limits.specs.Ground.{judged_ground}
use Rattle.limits.specs.Outcome.{accepted}
use Rattle.limits.specs.Ranges.{within, listed}
use Rattle.limits.proofs.Spread.{spread, listed_accepted}
use Rattle.limits.proofs.Passed.{one_value, then_passed, bind_passed, within_passed}
use Rattle.limits.specs.Class.{judged_class}
use Rattle.limits.specs.Site.{site_of, judged_mapped, judged_near_fault, judged_site}
use Rattle.limits.specs.Zone.{judged_zone}

-- ---- the site
pub site_allowed : (v : SiteValues) (s : Site) → judged_site v ≡ accepted s → AllowedSite s
unfolding judged_site judged_mapped judged_near_fault spread
site_allowed v s e =
    let mapped = then_passed (judged_mapped v) _ e in
    let near = then_passed (judged_near_fault v) _ mapped.1 in
    let class = bind_passed (judged_class v.class) (λ c. accepted (site_of v c)) near.1 in
    let m1 = then_passed (listed (50 ∷ 60 ∷ 70 ∷ 80 ∷ []) v.ssd 5 1) _ mapped.0 in
    let m2 = then_passed (listed (30 ∷ 35 ∷ 40 ∷ 45 ∷ []) v.s1d 5 2) _ m1.1 in
    let m3 = then_passed (listed (70 ∷ 80 ∷ 90 ∷ 100 ∷ []) v.ssm 5 3) _ m2.1 in
    let n1 = then_passed (within 100 150 v.nad 6 1) _ near.0 in
    let n2 = then_passed (within 100 200 v.nvd 6 2) _ n1.1 in
    let n3 = then_passed (within 100 150 v.nam 6 3) _ n2.1 in
    let same : site_of v class.0 ≡ s = one_value class.2 in
    subst AllowedSite same
    (record {
      ssd = listed_accepted 50 80 v.ssd 5 1 _ refl m1.0;
      s1d = listed_accepted 30 45 v.s1d 5 2 _ refl m2.0;
      ssm = listed_accepted 70 100 v.ssm 5 3 _ refl m3.0;
      s1m = listed_accepted 40 55 v.s1m 5 4 _ refl m3.1;
      nad = within_passed 100 150 v.nad 6 1 n1.0;
      nvd = within_passed 100 200 v.nvd 6 2 n2.0;
      nam = within_passed 100 150 v.nam 6 3 n3.0;
      nvm = within_passed 100 200 v.nvm 6 4 n3.1;
    })

-- ---- the ground
pub ground_allowed : (v : GroundValues) (g : Ground) → judged_ground v ≡ accepted g → AllowedGround g
ground_allowed (SiteOf v) g e =
    let site = bind_passed (judged_site v) (λ s. accepted (OnSite s)) e in
    let same : OnSite site.0 ≡ g = one_value site.2 in
    subst AllowedGround same (site_allowed v site.0 site.1)
ground_allowed (Basin n) g e =
    let zone = bind_passed (judged_zone n) (λ z. accepted (InBasin z)) e in
    let same : InBasin zone.0 ≡ g = one_value zone.2 in
    subst AllowedGround same tt
