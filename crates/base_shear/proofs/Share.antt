-- V_D at one period in use is one share of W, rounded up once: the largest of three, and the same for every W. Over any unit, hazards and frame whose
-- divisors are above 0.
-- Assumes nothing.
use mathlib.Core.Path.{◌≡◌, refl, ap₂, ◌∙◌}
use Prim.Native.Nat.{ℕ, ◌*◌, max, ◌<◌}
use native.Mathlib.Nat.{mul-pos}
use native.Mathlib.Omega.{arith}
use Rattle.whole.specs.declared.Fraction.{Fraction}
use Rattle.whole.specs.Fraction.{larger}
use Rattle.whole.specs.Rounding.{up}
use Rattle.whole.proofs.Order.{larger_positive}
use Rattle.whole.proofs.Shares.{share_of_larger}
use Rattle.limits.specs.Allowed.{AllowedFrame}
use Rattle.limits.specs.declared.frame.Frame.{Frame}
use Rattle.site.specs.declared.hazard.Hazard.{Hazard}
use Rattle.site.specs.declared.hazard.Hazards.{Hazards}
use Rattle.response.specs.Unit.{unit}
use Rattle.base_shear.specs.Ready.{Shearing, Reached}
use Rattle.base_shear.specs.Share.{newtons_share, shear_share, star_share, base_share, share_of}
use Rattle.base_shear.specs.Shears.{newtons, shear, star, base}

newtons_share_lem : (s n : ℕ) (f : Frame) (W x : ℕ) → newtons s n f W x ≡ share_of (newtons_share s n f x) W
unfolding newtons
newtons_share_lem s n f W x = ap₂ up (omega arith) refl

module _ (s : ℕ) (k : Hazards) (f : Frame) (T : ℕ) (u : 0 < s) (a : 0 < f.alpha) (d : 0 < k.divisor) (e : 0 < k.stardivisor) where
  share_positive : (n : ℕ) → 0 < n → 0 < n * s * f.alpha
  share_positive n p = mul-pos (mul-pos p u) a

  shear_share_lem : (h : Hazard) (W : ℕ) → shear s k h f W T ≡ share_of (shear_share s k h f T) W
  unfolding shear
  shear_share_lem h W = newtons_share_lem s k.divisor f W _

  star_share_lem : (W : ℕ) → star s k f W T ≡ share_of (star_share s k f T) W
  unfolding star
  star_share_lem W = newtons_share_lem s k.stardivisor f W _

  -- of V and V_M
  abbrev two : Fraction
  two = larger (shear_share s k k.design f T) (shear_share s k k.mce f T)

  two_positive : 0 < two.den
  two_positive =
      larger_positive (shear_share s k k.design f T) (shear_share s k k.mce f T) (share_positive k.divisor d) (share_positive k.divisor d)

  base_share_positive : 0 < (base_share s k f T).den
  base_share_positive = larger_positive two (star_share s k f T) two_positive (share_positive k.stardivisor e)

  pub base_share_lem : (W : ℕ) → base s k f W T ≡ share_of (base_share s k f T) W
  unfolding base
  base_share_lem W =
      ap₂ max (ap₂ max (shear_share_lem k.design W) (shear_share_lem k.mce W)) (star_share_lem W)
      ∙ ap₂ max (share_of_larger (shear_share s k k.design f T) (shear_share s k k.mce f T) W
      (share_positive k.divisor d) (share_positive k.divisor d)) refl
      ∙ share_of_larger two (star_share s k f T) W two_positive (share_positive k.stardivisor e)

-- ---- in the unit in use, of hazards within reach and an allowed frame: what divides is above 0, and it is the same at every period
module _ (k : Hazards) (f : Frame) (c : Reached k) (b : AllowedFrame f) (T : ℕ) where
  abbrev ready : Shearing unit k 0
  ready = c.shearing 0 (omega arith)

  alpha_positive : 0 < f.alpha
  alpha_positive = omega (arith, b.alpha)

  pub reached_share_positive : 0 < (base_share unit k f T).den
  reached_share_positive = base_share_positive unit k f T (omega arith) alpha_positive ready.divisor.0 ready.stardivisor.0

  pub reached_share : (W : ℕ) → base unit k f W T ≡ share_of (base_share unit k f T) W
  reached_share W = base_share_lem unit k f T (omega arith) alpha_positive ready.divisor.0 ready.stardivisor.0 W
