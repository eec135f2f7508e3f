-- In a unit that is e times finer no printed shear is larger: V, V_M, V*, V_D and the storeys', over any unit, hazards within reach in the
-- finer one and lines that meet. So none is larger in ten-millionths than in millionths.
-- Assumes nothing.
use mathlib.Core.Path.{refl}
use mathlib.Core.List.{List}
use Prim.Native.Nat.{ℕ, ◌*◌, ◌^◌, ◌≤◌, ◌<◌}
use native.Mathlib.Nat.{lt_of_lt_of_le, mul_comm}
use native.Mathlib.Omega.{arith}
use Rattle.whole.proofs.Root.{unit_most}
use Rattle.limits.specs.Allowed.{AllowedFrame}
use Rattle.limits.specs.declared.frame.Frame.{Frame}
use Rattle.site.specs.declared.hazard.Hazard.{Hazard}
use Rattle.site.specs.declared.hazard.Hazards.{Hazards}
use Rattle.response.specs.Period.{period_most}
use Rattle.response.specs.Reach.{Meeting}
use Rattle.response.specs.Unit.{unit}
use Rattle.response.proofs.Most.{lower_factor_least}
use Rattle.response.proofs.Reached.{small}
use Rattle.response.proofs.Spectra.{left_positive}
use Rattle.base_shear.specs.Ready.{Ready, Shearing, Reached}
use Rattle.base_shear.specs.Shears.{shear, star, base, lower_at, upper_at}
use Rattle.storeys.specs.Storeys.{weight_height, shear_under}
use Rattle.storeys.proofs.Roof.{roof_at_most_one}
use Rattle.margin.proofs.FinerStages.{spectrum_finer, small_coarser, lower_factor_finer, upper_factor_finer, ratio_finer, modified_finer, blended_finer, newtons_finer}
use Rattle.margin.proofs.RisesWithBase.{shear_rises}

module _ (e s : ℕ) (k : Hazards) (T : ℕ) (g : Shearing (e * s) k T) (m : Meeting k.lines) (f : Frame) (pa : 0 < f.alpha)
    (W : ℕ) where
  times_positive : 0 < e
  times_positive = left_positive e s (e * s) refl g.unit.positive

  coarser_positive : 0 < s
  coarser_positive = left_positive s e (e * s) (mul_comm s e) g.unit.positive

  -- ---- one hazard
  module _ (h : Hazard) (y : Ready (e * s) h T) where
    abbrev fits : h.square.num * (e * s * (e * s)) < 2 ^ 64 * h.square.den
    fits = small (e * s) h.capacity h.square g.unit y.ductile

    lower_at_finer : e * lower_at s h T ≤ lower_at (e * s) h T
    lower_at_finer =
        lower_factor_finer e s h.square times_positive fits h.a h.b T h.capacity coarser_positive
        y.shape.a_positive y.shape.b_positive y.ductile.cap_positive

    upper_at_finer : upper_at (e * s) h T ≤ e * upper_at s h T
    upper_at_finer =
        upper_factor_finer e s h.square times_positive fits h.a h.b T h.capacity coarser_positive
        y.shape.a_positive y.shape.b_positive y.ductile.cap_positive

    lower_at_some : 0 < lower_at s h T
    lower_at_some =
        lt_of_lt_of_le coarser_positive
        (lower_factor_least s h.a h.b T h.capacity h.square coarser_positive y.shape.a_positive y.shape.b_positive
        y.ductile.cap_positive (unit_most s h.square (small_coarser e s h.square times_positive fits) y.ductile.square_one)
        y.ductile.cap_one)

    -- ---- V and V_M
    pub finer_shear_never_above : shear (e * s) k h f W T ≤ shear s k h f W T
    unfolding shear
    finer_shear_never_above =
        newtons_finer e s k.divisor f W _ _ times_positive coarser_positive g.divisor.0 pa
        (modified_finer k.lines m e s _ _
        (ratio_finer e s _ _ _ _ times_positive lower_at_some
        (spectrum_finer e s h.a h.b T y.shape.b_positive)
        lower_at_finer))

  -- ---- V*
  pub finer_star_never_above : star (e * s) k f W T ≤ star s k f W T
  unfolding star
  finer_star_never_above =
      let h = k.star in
      newtons_finer e s k.stardivisor f W _ _ times_positive coarser_positive g.stardivisor.0 pa
      (blended_finer k.lines m e _ _ _ _
      (spectrum_finer e s h.a h.b T g.star.shape.b_positive)
      (upper_at_finer h g.star))

  -- ---- V_D
  pub finer_never_above : base (e * s) k f W T ≤ base s k f W T
  unfolding base
  finer_never_above =
      omega (
        arith,
        finer_shear_never_above k.design g.design,
        finer_shear_never_above k.mce g.mce,
        finer_star_never_above,
      )

  -- ---- the storeys
  pub finer_storey_never_above : (ws hs : List ℕ) (x : ℕ) → 0 < weight_height ws hs
      → shear_under T (base (e * s) k f W T) ws hs x ≤ shear_under T (base s k f W T) ws hs x
  finer_storey_never_above ws hs x p = shear_rises T _ _ ws hs x (roof_at_most_one T) p finer_never_above

-- ---- the unit in use, ten-millionths, beside millionths, of all hazards within reach and every allowed frame
module _ (k : Hazards) (f : Frame) (T : ℕ) (c : Reached k) (b : AllowedFrame f) (t : T ≤ period_most) (W : ℕ) where
  pub unit_never_above_millionths : base unit k f W T ≤ base 1_000_000 k f W T
  unit_never_above_millionths = finer_never_above 10 1_000_000 k T (c.shearing T t) c.meeting f (omega (arith, b.alpha)) W

  pub unit_storey_never_above_millionths : (ws hs : List ℕ) (x : ℕ) → 0 < weight_height ws hs
      → shear_under T (base unit k f W T) ws hs x ≤ shear_under T (base 1_000_000 k f W T) ws hs x
  unit_storey_never_above_millionths =
      finer_storey_never_above 10 1_000_000 k T (c.shearing T t) c.meeting f (omega (arith, b.alpha)) W
