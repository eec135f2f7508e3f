-- The shears of the exact figure of demand 3: the same chain with no rounding after T, in N, the root being any fraction.
--   exact_newtons n f W x      I·x·W/(n/10·alpha-y), of a fraction x; n is 14 for V and V_M, 42 for V*, 35 for V* in the Taipei Basin
--   exact_shear k h f W T r    V and V_M
--   exact_star k f W T r       V*
--   Roots                      the fractions taken for the roots in V, V_M and V*
--   exact_base k f W T r       V_D
use Rattle.std.specs.Prelude.{ℕ, ◌*◌}
use Rattle.whole.specs.declared.Fraction.{Fraction}
use Rattle.whole.specs.Fraction.{over, times, larger}
use Rattle.limits.specs.declared.frame.Frame.{Frame}
use Rattle.site.specs.declared.hazard.Hazard.{Hazard}
use Rattle.site.specs.declared.hazard.Hazards.{Hazards}
use Rattle.response.specs.Spectrum.{exact_spectrum}
use Rattle.response.specs.Factor.{exact_factor}
use Rattle.response.specs.Ratio.{exact_ratio, exact_modified, exact_blended}

abbrev pub exact_newtons : ℕ → Frame → ℕ → Fraction → Fraction
exact_newtons n f W x = times (over (10_000 * (f.i * W)) (n * f.alpha)) x

abbrev pub exact_shear : Hazards → Hazard → Frame → ℕ → ℕ → Fraction → Fraction
exact_shear k h f W T r =
    exact_newtons k.divisor f W
    (exact_modified k.lines
    (exact_ratio (exact_spectrum h.a h.b T) (exact_factor h.a h.b T h.capacity r)))

abbrev pub exact_star : Hazards → Frame → ℕ → ℕ → Fraction → Fraction
exact_star k f W T r =
    let h = k.star in
    exact_newtons k.stardivisor f W
    (exact_blended k.lines (exact_spectrum h.a h.b T) (exact_factor h.a h.b T h.capacity r))

pub record Roots : Type 0 where
  pub v : Fraction
  pub vm : Fraction
  pub star : Fraction

abbrev pub exact_base : Hazards → Frame → ℕ → ℕ → Roots → Fraction
exact_base k f W T r =
    larger (larger (exact_shear k k.design f W T r.v) (exact_shear k k.mce f W T r.vm))
    (exact_star k f W T r.star)
