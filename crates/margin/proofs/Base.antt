-- V_D beside the exact one, over any unit, hazards within reach and lines that meet.
-- Assumes nothing.
use Prim.Native.Nat.{ℕ, ◌≤◌, ◌<◌}
use native.Mathlib.Nat.{le_refl}
use native.Mathlib.Omega.{arith}
use Rattle.whole.specs.Fraction.{over, AtMost}
use Rattle.whole.proofs.Order.{larger_positive}
use Rattle.limits.specs.declared.frame.Frame.{Frame}
use Rattle.site.specs.declared.hazard.Hazards.{Hazards}
use Rattle.response.specs.Reach.{Meeting}
use Rattle.base_shear.specs.Exact.{Roots, exact_base}
use Rattle.base_shear.specs.Ready.{Shearing}
use Rattle.base_shear.specs.Shears.{base}
use Rattle.margin.specs.Demand3.{Number, AtLeast, LessBy, margin_of, Numbers}
use Rattle.margin.specs.Roots.{Lowering, Raising}
use Rattle.margin.proofs.Bound.{less_by_margin, margin_positive, margin_grows, larger_at_least, larger_less_by}
use Rattle.margin.proofs.Shear.{shear_sound, shear_above, shear_over, star_sound, star_above, star_over}

module _ (s : ℕ) (k : Hazards) (T : ℕ) (g : Shearing s k T) (m : Meeting k.lines) (f : Frame) (pa : 0 < f.alpha) (W : ℕ)
    (r : Roots) where
  pub base_above : Lowering k r → AtLeast (base s k f W T) (exact_base k f W T r)
  unfolding base
  base_above w =
      larger_at_least _ _ _ _
      (larger_at_least _ _ _ _
      (shear_above s k T g m f pa W k.design g.design r.v w.v)
      (shear_above s k T g m f pa W k.mce g.mce r.vm w.vm))
      (star_above s k T g m f pa W r.star w.star)

  numbers : 0 < r.v.den → AtMost (over 1 1) r.v → 0 < r.vm.den → AtMost (over 1 1) r.vm → 0 < r.star.den
      → Numbers k f W T r
  numbers pv ov pm om ps = (
    shear_sound s k T g m f pa W k.design g.design r.v pv ov,
    shear_sound s k T g m f pa W k.mce g.mce r.vm pm om,
    star_sound s k T g m f pa W r.star ps,
  )

  pub lowering_numbers : Lowering k r → Numbers k f W T r
  lowering_numbers w = numbers w.v.sound w.v.one w.vm.sound w.vm.one w.star.sound

  pub raising_numbers : Raising k r → Numbers k f W T r
  raising_numbers w = numbers w.v.sound w.v.one w.vm.sound w.vm.one w.star.sound

  base_sound : Numbers k f W T r → Number (exact_base k f W T r)
  base_sound n = larger_positive _ _ (larger_positive _ _ n.0 n.1) n.2

  pub lowering_sound : Lowering k r → Number (exact_base k f W T r)
  lowering_sound w = base_sound (lowering_numbers w)

  pub raising_sound : Raising k r → Number (exact_base k f W T r)
  raising_sound w = base_sound (raising_numbers w)

  -- by less than e s-ths and a newton, for any e from six on
  pub base_over : (e : ℕ) → 6 ≤ e → k.divisor ≤ k.stardivisor → Raising k r
      → LessBy (base s k f W T) (exact_base k f W T r) (margin_of e s k.divisor f W)
  unfolding base
  base_over e six more w =
      let z = margin_of e s k.divisor f W in
      let pz = margin_positive e s k.divisor f W g.unit.positive g.divisor.0 pa in
      let sv = shear_sound s k T g m f pa W k.design g.design r.v w.v.sound w.v.one in
      let sm = shear_sound s k T g m f pa W k.mce g.mce r.vm w.vm.sound w.vm.one in
      let ss = star_sound s k T g m f pa W r.star w.star.sound in
      let of-shear = margin_grows 6 e s k.divisor k.divisor f W six (le_refl k.divisor) in
      let of-star = margin_grows 3 e s k.divisor k.stardivisor f W (omega arith) more in
      larger_less_by _ _ _ _ z (larger_positive _ _ sv sm) ss
      (larger_less_by _ _ _ _ z sv sm
      (less_by_margin _ _ _ z pz of-shear (shear_over s k T g m f pa W k.design g.design r.v w.v))
      (less_by_margin _ _ _ z pz of-shear (shear_over s k T g m f pa W k.mce g.mce r.vm w.vm)))
      (less_by_margin _ _ _ z pz of-star (star_over s k T g m f pa W r.star w.star))
