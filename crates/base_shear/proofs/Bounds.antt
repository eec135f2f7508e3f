-- Between which numbers the base shear comes, of hazards within reach: at least 1 N, and at most what `Bounded` says, of the largest weight and for each
-- kN of any. The ratio is at most 2.
-- Assumes nothing.
use Prim.Native.Nat.{ℕ, ◌*◌, ◌≤◌, ◌<◌}
use native.Mathlib.Nat.{le_refl, le_trans, mul-le-mul, mul-le-mul_right, mul-pos, le-max_left, max-le}
use native.Mathlib.Omega.{arith}
use Rattle.whole.proofs.Rounding.{up_most}
use Rattle.limits.specs.Allowed.{AllowedFrame}
use Rattle.limits.specs.Building.{total_most}
use Rattle.limits.specs.declared.frame.Frame.{Frame}
use Rattle.site.specs.declared.hazard.Hazard.{Hazard}
use Rattle.site.specs.declared.hazard.Hazards.{Hazards}
use Rattle.response.specs.Period.{period_most}
use Rattle.response.specs.Reach.{FineUnit}
use Rattle.response.specs.Spectrum.{spectrum}
use Rattle.response.specs.Unit.{unit}
use Rattle.response.proofs.Least.{up_some, spectrum_some, ratio_some, modified_some}
use Rattle.response.proofs.Most.{spectrum_below, spectrum_most_lem, ratio_most, modified_rises, blended_within}
use Rattle.base_shear.specs.Ready.{Ready, Shearing, Within, Bounded, Reached}
use Rattle.base_shear.specs.Shears.{newtons, ratio_at, shear, star, base}
use Rattle.base_shear.proofs.LowerSome.{lower_least, lower_some}

-- ---- the ratio of a hazard within reach
module _ (s : ℕ) (h : Hazard) (t : ℕ) (u : FineUnit s) (r : Ready s h t) where
  ratio_within : ratio_at s h t ≤ spectrum s h.a h.b t
  ratio_within = ratio_most s _ _ (lower_some s h t u r) (lower_least s h t u r)

  pub ratio_at_most : ratio_at s h t ≤ 2 * s
  ratio_at_most = le_trans ratio_within (spectrum_most_lem s h.a h.b t r.shape.b_positive r.shape.a_most)

  ratio_at_some : 0 < ratio_at s h t
  ratio_at_some =
      ratio_some s _ _ u.positive
      (spectrum_some s h.a h.b t u.positive r.shape.a_positive r.shape.b_positive)
      (lower_some s h t u r)

module _ (k : Hazards) (f : Frame) (W T : ℕ) (c : Reached k) (b : AllowedFrame f) (t : T ≤ period_most) where
  abbrev g : Shearing unit k T
  g = c.shearing T t

  -- ---- at most u, of a weight of up to w, where what is within v at the largest weight is within u at w
  module _
      (v : ℕ) (e : Bounded v k) (w u : ℕ) (l : W ≤ w)
      (carried : (n x : ℕ) → Within v n x → 10_000 * (150 * x * w) ≤ n * unit * 100 * u)
    where
      newtons_most : (n x y : ℕ) → 0 < n → x ≤ y → Within v n y → newtons unit n f W x ≤ u
      unfolding newtons
      newtons_most n x y p l' h =
          let ix : f.i * x ≤ 150 * y = mul-le-mul b.i.1 l' in
          let ixw : f.i * x * W ≤ 150 * y * w = mul-le-mul ix l in
          let small : 100 * (n * u) ≤ f.alpha * (n * u) = mul-le-mul_right (n * u) b.alpha.0 in
          up_most (10_000 * (f.i * x * W)) (n * unit * f.alpha) u (mul-pos (mul-pos p (omega arith)) (omega (arith, b.alpha)))
          (omega (arith, ixw, small, carried n y h))

      shear_most : (h : Hazard) → Ready unit h T → unit * h.a ≤ 100_000_000 * e.most → shear unit k h f W T ≤ u
      unfolding shear
      shear_most h y a =
          let x = spectrum_below unit h.a h.b T e.most y.shape.b_positive a in
          let q = le_trans (ratio_within unit h T g.unit y) x in
          newtons_most k.divisor _ _ g.divisor.0 (modified_rises k.lines c.meeting unit _ _ q) e.shears_within

      star_most : star unit k f W T ≤ u
      unfolding star
      star_most =
          let h = k.star in
          newtons_most k.stardivisor _ _ g.stardivisor.0
          (le_trans (blended_within k.lines c.meeting _ _)
          (spectrum_below unit h.a h.b T e.most g.star.shape.b_positive e.star))
          e.star_within

      base_carried : base unit k f W T ≤ u
      unfolding base
      base_carried =
          max-le (max-le (shear_most k.design g.design e.design) (shear_most k.mce g.mce e.mce)) star_most

  pub base_most : (v : ℕ) → Bounded v k → W ≤ total_most → base unit k f W T ≤ v
  base_most v e w = base_carried v e total_most v w (λ n x h. h)

  -- what the largest weight comes to, shared over its kilonewtons, holds for each of them
  pub base_for_each : (v : ℕ) → Bounded (v * total_most) k → base unit k f W T ≤ v * W
  base_for_each v e = base_carried (v * total_most) e W (v * W) (le_refl W) each
    where
      each : (n x : ℕ) → Within (v * total_most) n x → 10_000 * (150 * x * W) ≤ n * unit * 100 * (v * W)
      each n x h =
          let one : 10_000 * (150 * x) ≤ n * unit * 100 * v = omega arith in
          omega (arith, mul-le-mul_right W one)

  -- ---- at least 1
  shear_some : 0 < W → 0 < shear unit k k.design f W T
  unfolding shear newtons
  shear_some w =
      let m = modified_some unit k.lines _ c.meeting (ratio_at_some unit k.design T g.unit g.design) in
      let i : 0 < f.i = omega (arith, b.i) in
      up_some _ (k.divisor * unit * f.alpha) (mul-pos (mul-pos g.divisor.0 (omega arith)) (omega (arith, b.alpha)))
      (mul-pos {m = 10_000} (omega arith) (mul-pos (mul-pos i m) w))

  pub base_least : 0 < W → 1 ≤ base unit k f W T
  unfolding base
  base_least w = le_trans (shear_some w) (le_trans (le-max_left _ _) (le-max_left _ _))
