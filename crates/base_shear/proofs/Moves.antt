-- Which way the shears move, at one T. A larger I, a larger W and a smaller alpha-y lower none of V, V_M, V* and V_D; a larger R never raises V or V_M, and
-- never lowers V*. Over any unit, lines that meet, and hazards within reach.
-- Assumes nothing.
use mathlib.Core.Path.{sym, subst₂}
use Prim.Native.Nat.{ℕ, ◌*◌, ◌≤◌, ◌<◌}
use native.Mathlib.Nat.{le_refl, mul-le-mul, mul-le-mul_left, mul-pos}
use native.Mathlib.Omega.{arith}
use Rattle.whole.proofs.Rounding.{up_mono}
use Rattle.limits.specs.declared.frame.Frame.{Frame}
use Rattle.site.specs.declared.hazard.Hazard.{Hazard}
use Rattle.site.specs.declared.hazard.Hazards.{Hazards}
use Rattle.site.specs.declared.lines.Lines.{Lines}
use Rattle.response.specs.Factor.{lower_factor, upper_factor}
use Rattle.response.specs.Ratio.{ratio, blended}
use Rattle.response.specs.Reach.{FineUnit, Meeting}
use Rattle.response.specs.Spectrum.{spectrum}
use Rattle.response.proofs.Ductility.{lower_factor_rises, upper_factor_rises, ratio_falls, blended_rises}
use Rattle.response.proofs.Most.{modified_rises}
use Rattle.base_shear.specs.Moves.{NoLighter, MoreDuctile, MoreDuctileAll}
use Rattle.base_shear.specs.Ready.{Ready, Shearing}
use Rattle.base_shear.specs.Shears.{newtons, ratio_at, modified_at, blended_at, shear, star, base}
use Rattle.base_shear.proofs.LowerSome.{lower_some}

-- what stays as it is
pub no_lighter_itself : (f : Frame) (W : ℕ) → NoLighter f W f W
no_lighter_itself f W = record { i = le_refl f.i; alpha = le_refl f.alpha; weight = le_refl W }

-- ---- newtons
module _ (s n : ℕ) (ps : 0 < s) (pn : 0 < n) (f f' : Frame) (W W' : ℕ) (pa : 0 < f'.alpha) (l : NoLighter f W f' W') where
  pub newtons_rise : (x x' : ℕ) → x ≤ x' → newtons s n f W x ≤ newtons s n f' W' x'
  unfolding newtons
  newtons_rise x x' h =
      up_mono (10_000 * (f.i * x * W)) (n * s * f.alpha) (10_000 * (f'.i * x' * W')) (n * s * f'.alpha)
      (mul-pos (mul-pos pn ps) pa) (mul-le-mul_left (n * s) l.alpha)
      (mul-le-mul_left 10_000 (mul-le-mul (mul-le-mul l.i h) l.weight))

-- ---- I, W and alpha-y, at the hazards of one R
module _ (s : ℕ) (k : Hazards) (T : ℕ) (ps : 0 < s) (f f' : Frame) (W W' : ℕ) (pa : 0 < f'.alpha) (l : NoLighter f W f' W') where
  pub shear_never_lower : 0 < k.divisor → (h : Hazard) → shear s k h f W T ≤ shear s k h f' W' T
  unfolding shear
  shear_never_lower pd h = newtons_rise s k.divisor ps pd f f' W W' pa l _ _ (le_refl (modified_at s k.lines h T))

  pub star_never_lower : 0 < k.stardivisor → star s k f W T ≤ star s k f' W' T
  unfolding star
  star_never_lower pe = newtons_rise s k.stardivisor ps pe f f' W W' pa l _ _ (le_refl (blended_at s k.lines k.star T))

  pub base_never_lower : 0 < k.divisor → 0 < k.stardivisor → base s k f W T ≤ base s k f' W' T
  unfolding base
  base_never_lower pd pe = omega (arith, shear_never_lower pd k.design, shear_never_lower pd k.mce, star_never_lower pe)

-- ---- R: the stages of one hazard
module _ (s : ℕ) (h h' : Hazard) (T : ℕ) (u : FineUnit s) (y : Ready s h T) (y' : Ready s h' T) (d : MoreDuctile h h') where
  ratio_at_falls : ratio_at s h' T ≤ ratio_at s h T
  ratio_at_falls =
      subst₂ (λ (a b : ℕ). ratio s (spectrum s a b T) (lower_factor s a b T h'.capacity h'.square) ≤ ratio_at s h T) d.a d.b
      (ratio_falls s (spectrum s h.a h.b T) _ _ (lower_some s h T u y)
      (lower_factor_rises s h.a h.b T h.capacity h.square h'.capacity h'.square u y.shape y.ductile y'.ductile
      d.capacity d.square))

  module _ (l : Lines) (m : Meeting l) where
    modified_at_falls : modified_at s l h' T ≤ modified_at s l h T
    modified_at_falls = modified_rises l m s _ _ ratio_at_falls

    blended_at_rises : blended_at s l h T ≤ blended_at s l h' T
    blended_at_rises =
        subst₂ (λ (a b : ℕ). blended_at s l h T ≤ blended l (spectrum s a b T) (upper_factor s a b T h'.capacity h'.square)) d.a d.b
        (blended_rises l m (spectrum s h.a h.b T) _ _
        (upper_factor_rises s h.a h.b T h.capacity h.square h'.capacity h'.square u y.shape y.ductile y'.ductile
        d.capacity d.square))

-- ---- R: the shears
module _ (s : ℕ) (k k' : Hazards) (T : ℕ) (d : MoreDuctileAll k k') (g : Shearing s k T) (g' : Shearing s k' T) (m : Meeting k.lines)
    (f : Frame) (pa : 0 < f.alpha) (W : ℕ) where
  -- V and V_M
  pub shear_never_higher : (h h' : Hazard) → Ready s h T → Ready s h' T → MoreDuctile h h' → shear s k' h' f W T ≤ shear s k h f W T
  unfolding shear
  shear_never_higher h h' y y' e =
      rw (sym d.divisor, sym d.lines)
      (newtons_rise s k.divisor g.unit.positive g.divisor.0 f f W W pa (no_lighter_itself f W) _ _
      (modified_at_falls s h h' T g.unit y y' e k.lines m))

  pub star_never_falls : star s k f W T ≤ star s k' f W T
  unfolding star
  star_never_falls =
      rw (sym d.stardivisor, sym d.lines)
      (newtons_rise s k.stardivisor g.unit.positive g.stardivisor.0 f f W W pa (no_lighter_itself f W) _ _
      (blended_at_rises s k.star k'.star T g.unit g.star g'.star d.star k.lines m))
