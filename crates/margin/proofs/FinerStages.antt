-- Each stage in (e·s)-ths beside the same stage in s-ths. Spectrum, upper root, upper factor, q, m and p come to at most e times as many,
-- lower root and lower factor to at least that; so the newtons come to no more.
-- Assumes nothing.
use Prim.Native.Nat.{ℕ, ◌*◌, ◌^◌, ◌≤◌, ◌<◌}
use native.Mathlib.Nat.{lt_of_le_of_lt, lt_of_lt_of_le, mul-le-mul, mul-le-mul_left, mul-le-mul_right, mul-pos}
use native.Mathlib.Omega.{arith}
use Rattle.whole.specs.declared.Fraction.{Fraction}
use Rattle.whole.specs.Fraction.{over}
use Rattle.whole.specs.Root.{lower_root, upper_root}
use Rattle.whole.specs.Rounding.{up}
use Rattle.whole.proofs.Root.{lower_root_is, upper_root_is}
use Rattle.whole.proofs.Rounding.{up_at_most_times}
use Rattle.whole.proofs.Shares.{up_finer, down_finer}
use Rattle.limits.specs.declared.frame.Frame.{Frame}
use Rattle.site.specs.declared.lines.Lines.{Lines}
use Rattle.response.specs.Factor.{lower_factor, upper_factor}
use Rattle.response.specs.Ratio.{bent, ratio, modified, blended}
use Rattle.response.specs.Reach.{Meeting}
use Rattle.response.specs.Spectrum.{exact_spectrum, spectrum}
use Rattle.response.proofs.Bent.{bent_rises, bent_scale}
use Rattle.response.proofs.Branches.{mean_positive, lower_is_mean, upper_is_mean}
use Rattle.response.proofs.Exact.{mean_rises}
use Rattle.response.proofs.Mean.{weights}
use Rattle.response.proofs.Most.{spectrum_positive}
use Rattle.base_shear.specs.Shears.{newtons}

-- ---- the spectrum
pub spectrum_finer : (e s A B T : ℕ) → 0 < B → spectrum (e * s) A B T ≤ e * spectrum s A B T
unfolding spectrum
spectrum_finer e s A B T pb =
    let x = exact_spectrum A B T in
    let p = spectrum_positive A B T pb in
    up_finer e s x x p p (omega arith)

-- ---- the roots, of a square below 2^64 in (e·s)-ths
module _ (e s : ℕ) (ρ : Fraction) (pe : 0 < e) (small : ρ.num * (e * s * (e * s)) < 2 ^ 64 * ρ.den) where
  pub small_coarser : ρ.num * (s * s) < 2 ^ 64 * ρ.den
  small_coarser =
      let l : s ≤ e * s = omega (arith, mul-le-mul_right s pe) in
      lt_of_le_of_lt (mul-le-mul_left ρ.num (mul-le-mul l l)) small

  lower_root_finer : e * lower_root s ρ ≤ lower_root (e * s) ρ
  lower_root_finer =
      (lower_root_is (e * s) ρ small).largest (e * lower_root s ρ)
      (omega (arith, mul-le-mul_left (e * e) (lower_root_is s ρ small_coarser).holds))

  upper_root_finer : upper_root (e * s) ρ ≤ e * upper_root s ρ
  upper_root_finer =
      (upper_root_is (e * s) ρ small).smallest (e * upper_root s ρ)
      (omega (arith, mul-le-mul_left (e * e) (upper_root_is s ρ small_coarser).holds))

  -- ---- the factors
  module _ (A B T : ℕ) (c : Fraction) (ps : 0 < s) (pa : 0 < A) (pb : 0 < B) (pc : 0 < c.den) where
    finer_positive : 0 < e * s
    finer_positive = mul-pos pe ps

    pub lower_factor_finer : e * lower_factor s A B T c ρ ≤ lower_factor (e * s) A B T c ρ
    lower_factor_finer =
        let r = over (lower_root s ρ) s in
        let r' = over (lower_root (e * s) ρ) (e * s) in
        rw (lower_is_mean s A B T c ρ ps pa pb pc, lower_is_mean (e * s) A B T c ρ finer_positive pa pb pc)
        (down_finer e s _ _ (mean_positive A B T r c pb ps pc) (mean_positive A B T r' c pb finer_positive pc)
        (mean_rises (weights A B T) r r' c (omega (arith, mul-le-mul_right s lower_root_finer))))

    pub upper_factor_finer : upper_factor (e * s) A B T c ρ ≤ e * upper_factor s A B T c ρ
    upper_factor_finer =
        let r = over (upper_root s ρ) s in
        let r' = over (upper_root (e * s) ρ) (e * s) in
        rw (upper_is_mean s A B T c ρ ps pa pb pc, upper_is_mean (e * s) A B T c ρ finer_positive pa pb pc)
        (up_finer e s _ _ (mean_positive A B T r c pb ps pc) (mean_positive A B T r' c pb finer_positive pc)
        (mean_rises (weights A B T) r' r c (omega (arith, mul-le-mul_right s upper_root_finer))))

-- ---- q
pub ratio_finer : (e s S F S' F' : ℕ) → 0 < e → 0 < F → S' ≤ e * S → e * F ≤ F' → ratio (e * s) S' F' ≤ e * ratio s S F
unfolding ratio
ratio_finer e s S F S' F' pe p hS hF =
    up_finer e s (over S F) (over S' F') p (lt_of_lt_of_le (mul-pos pe p) hF)
    (omega (arith, mul-le-mul_right F hS, mul-le-mul_right S hF))

-- ---- m and p
module _ (l : Lines) (m : Meeting l) (e : ℕ) where
  bent_finer : (x y x' y' : ℕ) → x' ≤ e * x → y' ≤ e * y → up (bent l x' y') 1000 ≤ e * up (bent l x y) 1000
  bent_finer x y x' y' hx hy =
      up_at_most_times e (bent l x y) 1000 (bent l x' y') 1000 (omega arith) (omega arith)
      (omega (arith, bent_rises l m x' y' (e * x) (e * y) hx hy, bent_scale l m e x y))

  pub modified_finer : (s q q' : ℕ) → q' ≤ e * q → modified (e * s) l q' ≤ e * modified s l q
  unfolding modified
  modified_finer s q q' h = bent_finer q s q' (e * s) h (omega arith)

  pub blended_finer : (S F S' F' : ℕ) → S' ≤ e * S → F' ≤ e * F → blended l S' F' ≤ e * blended l S F
  unfolding blended
  blended_finer S F S' F' hS hF = bent_finer S F S' F' hS hF

-- ---- newtons of m' (e·s)-ths beside those of m s-ths
pub newtons_finer : (e s n : ℕ) (f : Frame) (W m m' : ℕ) → 0 < e → 0 < s → 0 < n → 0 < f.alpha → m' ≤ e * m
    → newtons (e * s) n f W m' ≤ newtons s n f W m
unfolding newtons
newtons_finer e s n f W m m' pe ps pn pa h =
    let d = n * s * f.alpha in
    omega (
      arith,
      up_at_most_times 1 (10_000 * (f.i * m * W)) d (10_000 * (f.i * m' * W)) (n * (e * s) * f.alpha)
          (mul-pos (mul-pos pn ps) pa)
          (mul-pos (mul-pos pn (mul-pos pe ps)) pa)
          (omega (arith, mul-le-mul_right (10_000 * (f.i * W) * d) h)),
    )
