-- The shears of any ground in the unit in use, in document 02's own numbers: V and V_M are I·m·W/(14000·alpha-y); V* is I·p·W/(42000·alpha-y) on a site and
-- I·p·W/(35000·alpha-y) in the Taipei Basin.
-- Assumes nothing.
use mathlib.Core.Path.{◌≡◌, refl, ap₂, ◌∙◌}
use Prim.Native.Nat.{ℕ, ◌*◌, ◌<◌}
use native.Mathlib.Omega.{arith}
use Rattle.whole.specs.Rounding.{up}
use Rattle.whole.proofs.Rounding.{up_scale}
use Rattle.limits.specs.declared.frame.Frame.{Frame}
use Rattle.limits.specs.declared.ground.Ground.{Ground}
use Rattle.limits.specs.declared.ground.Ground.TheVariants.{Site, Basin}
use Rattle.limits.specs.declared.site.Site.{Site as SiteNumbers}
use Rattle.limits.specs.declared.zone.Zone.{Zone}
use Rattle.response.specs.Unit.{unit}
use Rattle.site.specs.declared.hazard.Hazard.{Hazard}
use Rattle.site.specs.Basin.{basin_hazards}
use Rattle.site.specs.Ground.{ground_hazards}
use Rattle.site.specs.Lines.{lines}
use Rattle.site.specs.SiteHazards.{site_hazards}
use Rattle.base_shear.specs.Shears.{newtons, modified_at, blended_at, shear, star}

newtons_in_units : (n : ℕ) (f : Frame) (W x : ℕ) → 0 < n * f.alpha
    → newtons unit n f W x ≡ up (f.i * x * W) (1000 * (n * f.alpha))
unfolding newtons
newtons_in_units n f W x p =
    ap₂ up refl (omega arith)
    ∙ up_scale 10_000 (f.i * x * W) (1000 * (n * f.alpha)) (omega arith) (omega arith)

-- V and V_M, on a site and in the Taipei Basin
pub shear_in_units : (g : Ground) (R : ℕ) (h : Hazard) (f : Frame) (W T : ℕ) → 0 < f.alpha
    → shear unit (ground_hazards g R) h f W T ≡ up (f.i * modified_at unit lines h T * W) (14_000 * f.alpha)
unfolding shear
shear_in_units (Site s) R h f W T p = newtons_in_units 14 f W (modified_at unit lines h T) (omega arith) ∙ ap₂ up refl (omega arith)
shear_in_units (Basin z) R h f W T p = newtons_in_units 14 f W (modified_at unit lines h T) (omega arith) ∙ ap₂ up refl (omega arith)

-- V* on a site
pub star_in_units : (s : SiteNumbers) (R : ℕ) (f : Frame) (W T : ℕ) → 0 < f.alpha
    → star unit (site_hazards s R) f W T ≡ up (f.i * blended_at unit lines (site_hazards s R).star T * W) (42_000 * f.alpha)
unfolding star
star_in_units s R f W T p = newtons_in_units 42 f W (blended_at unit lines (site_hazards s R).star T) (omega arith) ∙ ap₂ up refl (omega arith)

-- V* in the Taipei Basin
pub basin_star_in_units : (z : Zone) (R : ℕ) (f : Frame) (W T : ℕ) → 0 < f.alpha
    → star unit (basin_hazards z R) f W T ≡ up (f.i * blended_at unit lines (basin_hazards z R).star T * W) (35_000 * f.alpha)
unfolding star
basin_star_in_units z R f W T p =
    newtons_in_units 35 f W (blended_at unit lines (basin_hazards z R).star T) (omega arith) ∙ ap₂ up refl (omega arith)
