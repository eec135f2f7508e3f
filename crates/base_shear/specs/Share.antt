-- What share of W the shears are at one period in use, before their last rounding: N for each kN.
--   newtons_share s n f x     I·x/(n/10·alpha-y), of x s-ths, in N for each kN
--   shear_share s k h f T     of V and V_M
--   star_share s k f T        of V*
--   base_share s k f T        of V_D: the largest of the three
--   share_of c W              c N for each kN, of W kN, rounded up to a newton
use Rattle.std.specs.Prelude.{ℕ, ◌*◌}
use Rattle.whole.specs.declared.Fraction.{Fraction}
use Rattle.whole.specs.Fraction.{over, larger, up_in}
use Rattle.limits.specs.declared.frame.Frame.{Frame}
use Rattle.site.specs.declared.hazard.Hazard.{Hazard}
use Rattle.site.specs.declared.hazard.Hazards.{Hazards}
use Rattle.base_shear.specs.Shears.{modified_at, blended_at}

abbrev pub newtons_share : ℕ → ℕ → Frame → ℕ → Fraction
newtons_share s n f x = over (10_000 * (f.i * x)) (n * s * f.alpha)

abbrev pub shear_share : ℕ → Hazards → Hazard → Frame → ℕ → Fraction
shear_share s k h f T = newtons_share s k.divisor f (modified_at s k.lines h T)

abbrev pub star_share : ℕ → Hazards → Frame → ℕ → Fraction
star_share s k f T = newtons_share s k.stardivisor f (blended_at s k.lines k.star T)

abbrev pub base_share : ℕ → Hazards → Frame → ℕ → Fraction
base_share s k f T = larger (larger (shear_share s k k.design f T) (shear_share s k k.mce f T)) (star_share s k f T)

abbrev pub share_of : Fraction → ℕ → ℕ
share_of c W = up_in W c
