-- V, V_M and V* beside the exact ones, over any unit, hazards within reach and lines that meet: V and V_M above them by less than
-- six s-ths and a newton, V* by less than three.
-- Assumes nothing.
use Prim.Native.Nat.{ℕ, ◌*◌, ◌≤◌, ◌<◌}
use native.Mathlib.Nat.{mul-le-mul, mul-pos, lt_of_lt_of_le}
use native.Mathlib.Omega.{arith}
use Rattle.whole.specs.declared.Fraction.{Fraction}
use Rattle.whole.specs.Fraction.{over, AtMost}
use Rattle.whole.proofs.Rounding.{up_law}
use Rattle.limits.specs.declared.frame.Frame.{Frame}
use Rattle.site.specs.declared.hazard.Hazard.{Hazard}
use Rattle.site.specs.declared.hazard.Hazards.{Hazards}
use Rattle.response.specs.Ratio.{ratio, modified, blended, exact_ratio, exact_modified, exact_blended}
use Rattle.response.specs.Spectrum.{exact_spectrum, spectrum}
use Rattle.response.specs.Reach.{Meeting}
use Rattle.response.proofs.Most.{spectrum_positive, spectrum_within}
use Rattle.base_shear.specs.Exact.{exact_shear, exact_star}
use Rattle.base_shear.specs.Ready.{Ready, Shearing}
use Rattle.base_shear.specs.Shears.{shear, star, spectrum_at, lower_at, upper_at}
use Rattle.base_shear.proofs.LowerSome.{lower_least, lower_some}
use Rattle.margin.specs.Demand3.{Number, AtLeast, LessBy, margin_of}
use Rattle.margin.specs.Roots.{High, Low}
use Rattle.margin.proofs.Bound.{newtons_above, newtons_over}
use Rattle.margin.proofs.Factor.{factor_at, factor_positive, factor_least, lower_below, upper_above, lower_short, upper_over}
use Rattle.margin.proofs.Offsets.{Over}
use Rattle.margin.proofs.Ratio.{ratio_above, ratio_over, modified_above, modified_over, blended_above, blended_over}

abbrev exact_spectrum_at : Hazard → ℕ → Fraction
exact_spectrum_at h T = exact_spectrum h.a h.b T

module _ (s : ℕ) (k : Hazards) (T : ℕ) (g : Shearing s k T) (m : Meeting k.lines) (f : Frame) (pa : 0 < f.alpha) (W : ℕ) where
  -- ---- one hazard at one root
  module _ (h : Hazard) (y : Ready s h T) (r : Fraction) where
    spectrum_sound : 0 < (exact_spectrum_at h T).den
    spectrum_sound = spectrum_positive h.a h.b T y.shape.b_positive

    spectrum_above : AtMost (exact_spectrum_at h T) (over (spectrum_at s h T) s)
    unfolding spectrum
    spectrum_above =
        let x = exact_spectrum_at h T in
        omega (arith, (up_law (s * x.num) x.den spectrum_sound).0)

    spectrum_over : Over s (spectrum_at s h T) (exact_spectrum_at h T) 1
    unfolding spectrum
    spectrum_over =
        let x = exact_spectrum_at h T in
        omega (arith, (up_law (s * x.num) x.den spectrum_sound).1)

    least : s ≤ lower_at s h T
    least = lower_least s h T g.unit y

    some : 0 < lower_at s h T
    some = lower_some s h T g.unit y

    -- the ratio's divisor
    ratio_sound : 0 < r.den → AtMost (over 1 1) r → 0 < (exact_ratio (exact_spectrum_at h T) (factor_at h T r)).den
    ratio_sound p one =
        mul-pos spectrum_sound
        (lt_of_lt_of_le (factor_positive s h T g.unit y r p) (factor_least s h T g.unit y r p one))

    pub shear_sound : 0 < r.den → AtMost (over 1 1) r → Number (exact_shear k h f W T r)
    shear_sound p one =
        mul-pos (mul-pos g.divisor.0 pa) (mul-pos {m = 1000} (omega arith) (ratio_sound p one))

    -- ---- V and V_M
    pub shear_above : High h.square r → AtLeast (shear s k h f W T) (exact_shear k h f W T r)
    unfolding shear
    shear_above hi =
        let x = exact_spectrum_at h T in
        let F = factor_at h T r in
        let q = ratio s (spectrum_at s h T) (lower_at s h T) in
        newtons_above s k.divisor f W (modified s k.lines q) (exact_modified k.lines (exact_ratio x F))
        g.unit.positive g.divisor.0 pa
        (modified_above k.lines m s q (exact_ratio x F)
        (ratio_above s (spectrum_at s h T) (lower_at s h T) x F g.unit.positive some spectrum_above
        (lower_below s h T g.unit y r hi)))

    pub shear_over : Low h.square r → LessBy (shear s k h f W T) (exact_shear k h f W T r) (margin_of 6 s k.divisor f W)
    unfolding shear
    shear_over lo =
        let x = exact_spectrum_at h T in
        let F = factor_at h T r in
        let q = ratio s (spectrum_at s h T) (lower_at s h T) in
        let grown = factor_least s h T g.unit y r lo.sound lo.one in
        let sound = ratio_sound lo.sound lo.one in
        newtons_over s k.divisor f W (modified s k.lines q) (exact_modified k.lines (exact_ratio x F))
        g.unit.positive g.divisor.0 pa 6
        (mul-pos {m = 1000} (omega arith) sound)
        (modified_over k.lines m s q (exact_ratio x F) sound
        (omega (arith, mul-le-mul (spectrum_within 2 1 h.a h.b T (omega (arith, y.shape.a_most))) grown))
        (ratio_over s (spectrum_at s h T) (lower_at s h T) x F spectrum_sound
        (factor_positive s h T g.unit y r lo.sound) some least grown spectrum_over
        (lower_short s h T g.unit y r lo)))

  -- ---- V*
  module _ (r : Fraction) where
    pub star_sound : 0 < r.den → Number (exact_star k f W T r)
    star_sound p =
        let h = k.star in
        mul-pos (mul-pos g.stardivisor.0 pa)
        (mul-pos {m = 1000} (omega arith)
        (mul-pos (spectrum_sound h g.star r) (factor_positive s h T g.unit g.star r p)))

    pub star_above : Low k.star.square r → AtLeast (star s k f W T) (exact_star k f W T r)
    unfolding star
    star_above lo =
        let h = k.star in
        let x = exact_spectrum_at h T in
        let F = factor_at h T r in
        newtons_above s k.stardivisor f W (blended k.lines (spectrum_at s h T) (upper_at s h T)) (exact_blended k.lines x F)
        g.unit.positive g.stardivisor.0 pa
        (blended_above k.lines m s (spectrum_at s h T) (upper_at s h T) x F (spectrum_above h g.star r)
        (upper_above s h T g.unit g.star r lo))

    pub star_over : High k.star.square r → LessBy (star s k f W T) (exact_star k f W T r) (margin_of 3 s k.stardivisor f W)
    unfolding star
    star_over hi =
        let h = k.star in
        let x = exact_spectrum_at h T in
        let F = factor_at h T r in
        let px = spectrum_sound h g.star r in
        let pf = factor_positive s h T g.unit g.star r hi.sound in
        newtons_over s k.stardivisor f W (blended k.lines (spectrum_at s h T) (upper_at s h T)) (exact_blended k.lines x F)
        g.unit.positive g.stardivisor.0 pa 3
        (mul-pos {m = 1000} (omega arith) (mul-pos px pf))
        (blended_over k.lines m s (spectrum_at s h T) (upper_at s h T) x F px pf (spectrum_over h g.star r)
        (upper_over s h T g.unit g.star r hi))
