-- The exact chain in document 01's own numbers: m, the newtons, the margin, which stands in document 02's too, the storeys. The spectrum and the
-- factor stand so in their definitions. That the factor's sign is never a minus is `factor_natural`, that p is the factor times m of the spectrum
-- over the factor `blended_is_modified`, both of response/proofs/Exact.antt.
-- Assumes nothing.
use mathlib.Core.Path.{◌≡◌, ap}
use Prim.Native.Nat.{ℕ, ◌+◌, ◌*◌, ◌-◌, ◌≤◌}
use native.Mathlib.Omega.{arith}
use Rattle.whole.specs.declared.Fraction.{Fraction}
use Rattle.whole.specs.Fraction.{over, plus, times, quotient, Same, AtMost, Less}
use Rattle.whole.proofs.Choice.{by_leb}
use Rattle.limits.specs.declared.frame.Frame.{Frame}
use Rattle.limits.specs.declared.ground.Ground.{Ground}
use Rattle.limits.specs.declared.ground.Ground.TheVariants.{Site, Basin}
use Rattle.site.specs.Basin.{basin_hazards}
use Rattle.site.specs.Ground.{ground_hazards}
use Rattle.site.specs.Lines.{lines}
use Rattle.site.specs.SiteHazards.{site_hazards}
use Rattle.site.specs.declared.hazard.Hazards.{Hazards}
use Rattle.response.specs.Ratio.{bent, exact_modified}
use Rattle.response.specs.Unit.{unit}
use Rattle.base_shear.specs.Exact.{exact_newtons}
use Rattle.storeys.specs.Exact.{exact_roof_force, rest}
use Rattle.storeys.specs.Storeys.{RoofAtMostOne, roof_part}
use Rattle.margin.specs.Demand3.{base_margin}

-- 'Up to 300,000: q.', of 10⁶
pub exact_modified_first : (q : Fraction) → AtMost q (over 3 10) → Same (exact_modified lines q) q
unfolding bent
exact_modified_first q h =
    by_leb (λ (z : ℕ). z * q.den ≡ q.num * (1000 * q.den)) (1000 * q.num) (300 * q.den) _ _
    (λ _. omega arith)
    (λ k. absurd (omega arith))

-- 'Up to 800,000: 0.52·q + 144,000.', of 10⁶
pub exact_modified_second : (q : Fraction) → Less (over 3 10) q → AtMost q (over 8 10)
    → Same (exact_modified lines q) (plus (times (over 52 100) q) (over 144 1000))
unfolding bent
exact_modified_second q h k =
    let x = plus (times (over 52 100) q) (over 144 1000) in
    by_leb (λ (z : ℕ). z * x.den ≡ x.num * (1000 * q.den)) (1000 * q.num) (300 * q.den) _ _
    (λ a. absurd (omega arith))
    (λ a.
    by_leb (λ (z : ℕ). z * x.den ≡ x.num * (1000 * q.den)) (1000 * q.num) (800 * q.den) _ _
    (λ _. omega arith)
    (λ b. absurd (omega arith)))

-- 'Above: 0.7·q.'
pub exact_modified_last : (q : Fraction) → Less (over 8 10) q → Same (exact_modified lines q) (times (over 7 10) q)
unfolding bent
exact_modified_last q h =
    let x = times (over 7 10) q in
    by_leb (λ (z : ℕ). z * x.den ≡ x.num * (1000 * q.den)) (1000 * q.num) (300 * q.den) _ _
    (λ a. absurd (omega arith))
    (λ a.
    by_leb (λ (z : ℕ). z * x.den ≡ x.num * (1000 * q.den)) (1000 * q.num) (800 * q.den) _ _
    (λ b. absurd (omega arith))
    (λ _. omega arith))

-- I·x·W over n/10·alpha-y: I and alpha-y in hundredths, W in kN of 1000 N
pub newtons_are : (n : ℕ) (f : Frame) (W : ℕ) (x : Fraction)
    → Same (exact_newtons n f W x)
    (quotient (times (times (over f.i 100) x) (over (1000 * W) 1)) (times (over n 10) (over f.alpha 100)))
newtons_are n f W x = omega arith

-- the margin: six s-ths of I·W/(n/10·alpha-y), plus one newton
pub margin_is : (s : ℕ) (k : Hazards) (f : Frame) (W : ℕ)
    → Same (base_margin s k f W)
    (plus
    (times (over 6 s)
    (quotient (times (over f.i 100) (over (1000 * W) 1)) (times (over k.divisor 10) (over f.alpha 100))))
    (over 1 1))
margin_is s k f W = omega arith

-- of any ground, in the unit in use: 'six ten-millionths of I·W/(1.4·alpha-y) plus one newton'
pub margin_in_units : (g : Ground) (R : ℕ) (f : Frame) (W : ℕ)
    → Same (base_margin unit (ground_hazards g R) f W)
    (plus
    (times (over 6 10_000_000)
    (quotient (times (over f.i 100) (over (1000 * W) 1)) (times (over 14 10) (over f.alpha 100))))
    (over 1 1))
margin_in_units (Site s) R f W = margin_is unit (site_hazards s R) f W
margin_in_units (Basin z) R f W = margin_is unit (basin_hazards z R) f W

-- V − F_t, as the storeys have it: what is left of V beside F_t, whatever part of V it is
rest_beside : (t v : Fraction) → t.num ≤ t.den → Same (plus (times t v) (times (rest t) v)) v
rest_beside t v h =
    let e : t.num + (t.den - t.num) ≡ t.den = omega arith in
    omega (arith, ap (λ (z : ℕ). z * (t.den * (v.num * (v.den * v.den)))) e)

pub rest_beside_roof_force : (T : ℕ) (v : Fraction) → RoofAtMostOne T
    → Same (plus (exact_roof_force T v) (times (rest (roof_part T)) v)) v
rest_beside_roof_force T v h = rest_beside (roof_part T) v h
