-- How large the printed stages come: the spectrum at most 2 g, the factors 1 to 6, the ratio at most the spectrum.
-- Assumes nothing.
use mathlib.Core.Path.{refl}
use Prim.Native.Nat.{ℕ, ◌+◌, ◌*◌, ◌≤◌, ◌<◌}
use native.Mathlib.Nat.{le_refl, mul-le-mul_left, mul-le-mul_right, le_of_mul-le-mul_right}
use native.Mathlib.Omega.{arith}
use Rattle.whole.specs.declared.Fraction.{Fraction}
use Rattle.whole.specs.Fraction.{over}
use Rattle.whole.specs.Root.{lower_root, upper_root}
use Rattle.whole.proofs.Choice.{by_leb}
use Rattle.whole.proofs.Rounding.{up_most, up_mono, down_is}
use Rattle.site.specs.declared.lines.Lines.{Lines}
use Rattle.response.specs.Factor.{lower_factor, upper_factor}
use Rattle.response.specs.Ratio.{bent, ratio, modified, blended}
use Rattle.response.specs.Reach.{FineUnit, Shape, Ductile, Thousandths, Meeting}
use Rattle.response.specs.Spectrum.{exact_spectrum, spectrum}
use Rattle.response.proofs.Bent.{bent_rises, bent_within}
use Rattle.response.proofs.Branches.{mean_positive, lower_is_mean, upper_is_mean}
use Rattle.response.proofs.Mean.{Weights, mean, weights}
use Rattle.response.proofs.Spectra.{left_positive}

-- ---- the spectrum
pub spectrum_positive : (A B T : ℕ) → 0 < B → 0 < (exact_spectrum A B T).den
unfolding exact_spectrum
spectrum_positive A B T pb =
    by_leb (λ (z : Fraction). 0 < z.den) (T * (10 * A)) (2 * (1000 * B) * 1) _ _ (λ _. omega arith)
    (λ _.
    by_leb (λ (z : Fraction). 0 < z.den) (T * A) (1000 * B * 1) _ _ (λ _. omega arith)
    (λ past.
    let pt : 0 < T = left_positive T A (T * A) refl (omega arith) in
    by_leb (λ (z : Fraction). 0 < z.den) (T * (10 * A)) (25 * (1000 * B) * 1) _ _ (λ _. omega arith) (λ _. omega arith)))

-- A of at most n/d g gives a spectrum of at most n/d g
pub spectrum_within : (n d A B T : ℕ) → A * d ≤ n * 100_000_000 → (exact_spectrum A B T).num * d ≤ n * (exact_spectrum A B T).den
unfolding exact_spectrum
spectrum_within n d A B T h =
    by_leb (λ (z : Fraction). z.num * d ≤ n * z.den) (T * (10 * A)) (2 * (1000 * B) * 1) _ _
    (λ a.
    let g : 4 * (1 * (1000 * B)) + 3 * T * A * 10 ≤ 10 * (1 * (1000 * B)) = omega arith in
    omega (arith, mul-le-mul_left (A * d) g, mul-le-mul_right (10 * (1 * (1000 * B))) h))
    (λ _.
    by_leb (λ (z : Fraction). z.num * d ≤ n * z.den) (T * A) (1000 * B * 1) _ _ (λ _. h)
    (λ a.
    let past : 1000 * B ≤ T * A = omega arith in
    by_leb (λ (z : Fraction). z.num * d ≤ n * z.den) (T * (10 * A)) (25 * (1000 * B) * 1) _ _
    (λ _. omega (arith, mul-le-mul_right T h, mul-le-mul_right d past))
    (λ _. omega (arith, h))))

-- and A of at most m s-ths of g one of at most m
pub spectrum_below : (s A B T m : ℕ) → 0 < B → s * A ≤ 100_000_000 * m → spectrum s A B T ≤ m
unfolding spectrum
spectrum_below s A B T m pb h =
    let x = exact_spectrum A B T in
    up_most (s * x.num) x.den m (spectrum_positive A B T pb) (omega (arith, spectrum_within m s A B T (omega arith)))

pub spectrum_most_lem : (s A B T : ℕ) → 0 < B → A ≤ 200_000_000 → spectrum s A B T ≤ 2 * s
spectrum_most_lem s A B T pb h = spectrum_below s A B T (2 * s) pb (omega (arith, mul-le-mul_left s h))

-- ---- the factors: a mean of 1, a root from 1 on and a capacity from 1 on is at least 1
pub mean_least : (w : Weights) (r c : Fraction) → r.den ≤ r.num → c.den ≤ c.num → (mean w r c).den ≤ (mean w r c).num
mean_least w r c h k =
    omega (arith, mul-le-mul_right (w.root * c.den) h, mul-le-mul_right (w.cap * r.den) k)

mean_most : (w : Weights) (r c : Fraction) → r.num ≤ 6 * r.den → c.num ≤ 6 * c.den → (mean w r c).num ≤ 6 * (mean w r c).den
mean_most w r c h k =
    omega (
      arith,
      mul-le-mul_right (w.root * c.den) h,
      mul-le-mul_right (w.cap * r.den) k,
    )

pub lower_factor_least : (s A B T : ℕ) (c ρ : Fraction) → 0 < s → 0 < A → 0 < B → 0 < c.den → s ≤ lower_root s ρ → c.den ≤ c.num
    → s ≤ lower_factor s A B T c ρ
lower_factor_least s A B T c ρ ps pa pb pc root cap =
    let r = over (lower_root s ρ) s in
    let x = mean (weights A B T) r c in
    rw (lower_is_mean s A B T c ρ ps pa pb pc)
    ((down_is (s * x.num) x.den (mean_positive A B T r c pb ps pc)).largest s
    (omega (arith, mul-le-mul_left s (mean_least (weights A B T) r c root cap))))

pub upper_factor_most : (s A B T : ℕ) (c ρ : Fraction) → FineUnit s → Shape A B T → Ductile s c ρ → upper_factor s A B T c ρ ≤ 6 * s
upper_factor_most s A B T c ρ u sh d =
    let r = over (upper_root s ρ) s in
    let x = mean (weights A B T) r c in
    let root : upper_root s ρ ≤ 6 * s =
    le_of_mul-le-mul_right {k = c.den} (omega (arith, d.root_most, mul-le-mul_left s d.cap_most)) d.cap_positive in
    rw (upper_is_mean s A B T c ρ u.positive sh.a_positive sh.b_positive d.cap_positive)
    (up_most (s * x.num) x.den (6 * s) (mean_positive A B T r c sh.b_positive u.positive d.cap_positive)
    (omega (arith, mul-le-mul_left s (mean_most (weights A B T) r c root d.cap_most))))

-- ---- ratio, m and p
pub ratio_most : (s Sa F : ℕ) → 0 < F → s ≤ F → ratio s Sa F ≤ Sa
unfolding ratio
ratio_most s Sa F p h = up_most (s * Sa) F Sa p (mul-le-mul_right Sa h)

bent_most : (l : Lines) (x y : ℕ) → Thousandths l → bent l x y ≤ 1000 * (x + y)
unfolding bent
bent_most l x y t =
    by_leb (λ (z : ℕ). z ≤ 1000 * (x + y)) (1000 * x) (l.first * y) _ _ (λ _. omega arith)
    (λ _.
    by_leb (λ (z : ℕ). z ≤ 1000 * (x + y)) (1000 * x) (l.second * y) _ _
    (λ _. omega (arith, mul-le-mul_right x t.slope, mul-le-mul_right y t.add))
    (λ _. omega (arith, mul-le-mul_right x t.last)))

pub modified_most : (s : ℕ) (l : Lines) (q : ℕ) → Thousandths l → modified s l q ≤ q + s
unfolding modified
modified_most s l q t = up_most (bent l q s) 1000 (q + s) (omega arith) (bent_most l q s t)

pub blended_most : (l : Lines) (Sa F : ℕ) → Thousandths l → blended l Sa F ≤ Sa + F
unfolding blended
blended_most l Sa F t = up_most (bent l Sa F) 1000 (Sa + F) (omega arith) (bent_most l Sa F t)

-- of lines that meet
module _ (l : Lines) (m : Meeting l) where
  pub modified_rises : (s q q' : ℕ) → q ≤ q' → modified s l q ≤ modified s l q'
  unfolding modified
  modified_rises s q q' h =
      up_mono (bent l q s) 1000 (bent l q' s) 1000 (omega arith) (omega arith) (bent_rises l m q s q' s h (le_refl s))

  pub blended_within : (Sa F : ℕ) → blended l Sa F ≤ Sa
  unfolding blended
  blended_within Sa F = up_most (bent l Sa F) 1000 Sa (omega arith) (bent_within l m Sa F)
