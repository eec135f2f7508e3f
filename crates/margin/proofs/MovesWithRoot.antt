-- 'V and V_M fall as the root grows, V* rises.' So the chain at high fractions in V and V_M with a low one in V* is at most the
-- chain at low fractions in V and V_M with a high one in V*, for the base and for every storey.
-- Assumes nothing.
use mathlib.Core.List.{List}
use Prim.Native.Nat.{ℕ, ◌*◌, ◌<◌}
use native.Mathlib.Omega.{arith}
use lib.ListN.{drop}
use Rattle.whole.specs.declared.Fraction.{Fraction}
use Rattle.whole.specs.Fraction.{over, AtMost}
use Rattle.whole.proofs.Order.{times_rises, quotient_falls, larger_positive, larger_rises}
use Rattle.limits.specs.declared.frame.Frame.{Frame}
use Rattle.site.specs.declared.hazard.Hazard.{Hazard}
use Rattle.site.specs.declared.hazard.Hazards.{Hazards}
use Rattle.response.specs.Factor.{exact_factor}
use Rattle.response.specs.Spectrum.{exact_spectrum}
use Rattle.response.specs.Reach.{Meeting}
use Rattle.response.proofs.Exact.{exact_factor_rises, exact_modified_rises, exact_blended_rises}
use Rattle.base_shear.specs.Exact.{Roots, exact_shear, exact_star, exact_base}
use Rattle.base_shear.specs.Ready.{Shearing}
use Rattle.storeys.specs.Exact.{exact_shear_under}
use Rattle.storeys.specs.Storeys.{roof_part, weight_height}
use Rattle.margin.specs.Roots.{Lowering, Raising}
use Rattle.margin.proofs.Base.{lowering_sound, raising_sound}
use Rattle.margin.proofs.Root.{low_below_high}
use Rattle.margin.proofs.Shear.{shear_sound, star_sound}
use Rattle.margin.proofs.Storey.{shared_rises}

module _ (k : Hazards) (f : Frame) (W T : ℕ) (m : Meeting k.lines) where
  module _ (h : Hazard) (pa : 0 < h.a) (pb : 0 < h.b) (pc : 0 < h.capacity.den) where
    factor_rises : (r r' : Fraction) → 0 < r.den → 0 < r'.den → AtMost r r'
        → AtMost (exact_factor h.a h.b T h.capacity r) (exact_factor h.a h.b T h.capacity r')
    factor_rises = exact_factor_rises h.a h.b T h.capacity pa pb pc

    pub exact_shear_falls : (r r' : Fraction) → 0 < r.den → 0 < r'.den → AtMost r r'
        → AtMost (exact_shear k h f W T r') (exact_shear k h f W T r)
    exact_shear_falls r r' p p' a =
        times_rises (over (10_000 * (f.i * W)) (k.divisor * f.alpha)) _ _
        (exact_modified_rises k.lines m _ _
        (quotient_falls (exact_spectrum h.a h.b T) _ _ (factor_rises r r' p p' a)))

  pub exact_star_rises : 0 < k.star.a → 0 < k.star.b → 0 < k.star.capacity.den → (r r' : Fraction) → 0 < r.den → 0 < r'.den
      → AtMost r r' → AtMost (exact_star k f W T r) (exact_star k f W T r')
  exact_star_rises pa pb pc r r' p p' a =
      times_rises (over (10_000 * (f.i * W)) (k.stardivisor * f.alpha)) _ _
      (exact_blended_rises k.lines m (exact_spectrum k.star.a k.star.b T) _ _
      (factor_rises k.star pa pb pc r r' p p' a))

module _ (s : ℕ) (k : Hazards) (T : ℕ) (g : Shearing s k T) (m : Meeting k.lines) (f : Frame) (pa : 0 < f.alpha)
    (r r' : Roots) (w : Lowering k r) (w' : Raising k r') where
  pub lowering_below_raising : (W : ℕ) → AtMost (exact_base k f W T r) (exact_base k f W T r')
  lowering_below_raising W =
      let d = k.design in
      let c = k.mce in
      let h = k.star in
      let sv = shear_sound s k T g m f pa W d g.design r'.v w'.v.sound w'.v.one in
      let sm = shear_sound s k T g m f pa W c g.mce r'.vm w'.vm.sound w'.vm.one in
      let ss = star_sound s k T g m f pa W r'.star w'.star.sound in
      larger_rises _ _ _ _ (larger_positive _ _ sv sm) ss
      (larger_rises _ _ _ _ sv sm
      (exact_shear_falls k f W T m d g.design.shape.a_positive g.design.shape.b_positive g.design.ductile.cap_positive
      r'.v r.v w'.v.sound w.v.sound
      (low_below_high d.square r'.v r.v g.design.ductile.square_positive w'.v w.v))
      (exact_shear_falls k f W T m c g.mce.shape.a_positive g.mce.shape.b_positive g.mce.ductile.cap_positive
      r'.vm r.vm w'.vm.sound w.vm.sound
      (low_below_high c.square r'.vm r.vm g.mce.ductile.square_positive w'.vm w.vm)))
      (exact_star_rises k f W T m g.star.shape.a_positive g.star.shape.b_positive g.star.ductile.cap_positive
      r.star r'.star w.star.sound w'.star.sound
      (low_below_high h.square r.star r'.star g.star.ductile.square_positive w.star w'.star))

  pub storey_lowering_below_raising : (W : ℕ) (ws hs : List ℕ) (x : ℕ) → 0 < weight_height ws hs
      → AtMost (exact_shear_under T ws hs (exact_base k f W T r) x) (exact_shear_under T ws hs (exact_base k f W T r') x)
  storey_lowering_below_raising W ws hs x p =
      shared_rises (roof_part T) (weight_height (drop x ws) (drop x hs)) (weight_height ws hs) (omega arith) p _ _
      (lowering_sound s k T g m f pa W r w)
      (raising_sound s k T g m f pa W r' w')
      (lowering_below_raising W)
