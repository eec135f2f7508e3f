-- The shears (7), (17), (19), (20), in N, each rounded up. W in kN, I and alpha-y in 0.01, T in ms, everything else in s-ths.
--   newtons s n f W x     I·x·W/(n/10·alpha-y) in N, of x s-ths: the hundredths of I and alpha-y cancel, and ten tenths times 1000 N in
--                         a kN are 10⁴. In ten-millionths I·x·W/(1000·n·alpha-y)
--   spectrum_at s h T       the spectrum of a hazard; lower_at s h T, upper_at s h T    its lower and its upper factor
--   ratio_at s h T          q of a hazard: its spectrum over its lower factor
--   modified_at s l h T     m of a hazard
--   shear s k h f W T       V of the design hazard and V_M of the MCE hazard: I·m·W/(14000·alpha-y)
--   blended_at s l h T      p of a hazard: its spectrum against its upper factor
--   star s k f W T          V*: I·p·W/(42000·alpha-y) on a site, I·p·W/(35000·alpha-y) in the Taipei Basin; p by the upper factor of V*'s own hazard
--   base s k f W T          V_D, the largest of the three
--   figures_at s k f W T    V, V_M, V*, V_D and T
--   base_figures k f W h    those of hazards, a frame, a total weight and a top height h in dm, in the unit in use
use Rattle.std.specs.Prelude.{ℕ, ◌*◌, max}
use Rattle.whole.specs.Rounding.{up}
use Rattle.limits.specs.declared.frame.Frame.{Frame}
use Rattle.site.specs.declared.lines.Lines.{Lines}
use Rattle.site.specs.declared.hazard.Hazard.{Hazard}
use Rattle.site.specs.declared.hazard.Hazards.{Hazards}
use Rattle.response.specs.Period.{period_of}
use Rattle.response.specs.Unit.{unit}
use Rattle.response.specs.Spectrum.{spectrum}
use Rattle.response.specs.Factor.{lower_factor, upper_factor}
use Rattle.response.specs.Ratio.{ratio, modified, blended}
use Rattle.base_shear.specs.declared.Figures.{Figures}

unfoldable pub newtons : ℕ → ℕ → Frame → ℕ → ℕ → ℕ
newtons s n f W x = up (10_000 * (f.i * x * W)) (n * s * f.alpha)

abbrev pub spectrum_at : ℕ → Hazard → ℕ → ℕ
spectrum_at s h T = spectrum s h.a h.b T

abbrev pub lower_at : ℕ → Hazard → ℕ → ℕ
lower_at s h T = lower_factor s h.a h.b T h.capacity h.square

abbrev pub upper_at : ℕ → Hazard → ℕ → ℕ
upper_at s h T = upper_factor s h.a h.b T h.capacity h.square

abbrev pub ratio_at : ℕ → Hazard → ℕ → ℕ
ratio_at s h T = ratio s (spectrum_at s h T) (lower_at s h T)

abbrev pub modified_at : ℕ → Lines → Hazard → ℕ → ℕ
modified_at s l h T = modified s l (ratio_at s h T)

unfoldable pub shear : ℕ → Hazards → Hazard → Frame → ℕ → ℕ → ℕ
shear s k h f W T = newtons s k.divisor f W (modified_at s k.lines h T)

abbrev pub blended_at : ℕ → Lines → Hazard → ℕ → ℕ
blended_at s l h T = blended l (spectrum_at s h T) (upper_at s h T)

unfoldable pub star : ℕ → Hazards → Frame → ℕ → ℕ → ℕ
star s k f W T = newtons s k.stardivisor f W (blended_at s k.lines k.star T)

unfoldable pub base : ℕ → Hazards → Frame → ℕ → ℕ → ℕ
base s k f W T = max (max (shear s k k.design f W T) (shear s k k.mce f W T)) (star s k f W T)

unfoldable pub figures_at : ℕ → Hazards → Frame → ℕ → ℕ → Figures
figures_at s k f W T =
    record {
      v = shear s k k.design f W T;
      vm = shear s k k.mce f W T;
      star = star s k f W T;
      vd = base s k f W T;
      t = T;
    }

abbrev pub base_figures : Hazards → Frame → ℕ → ℕ → Figures
base_figures k f W h = figures_at unit k f W (period_of f.kind f.calculated h)
