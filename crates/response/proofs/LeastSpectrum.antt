-- How low the spectrum comes, by where T lies; and that past both corners a ground of no smaller A and B has no lower spectrum.
-- Assumes nothing.
use mathlib.Core.Path.{◌≡◌, ap}
use Prim.Native.Nat.{ℕ, ◌+◌, ◌*◌, ◌≤◌, ◌<◌}
use native.Mathlib.Nat.{mul-le-mul_right, le_of_mul-le-mul_right}
use native.Mathlib.Omega.{arith}
use Rattle.whole.specs.declared.Fraction.{Fraction}
use Rattle.whole.specs.Fraction.{over, times, AtMost}
use Rattle.whole.proofs.Choice.{by_leb}
use Rattle.response.specs.Spectrum.{g, exact_spectrum}
use Rattle.response.proofs.Spectra.{left_positive}

module _ (A B T : ℕ) where
  abbrev sa : Fraction
  sa = exact_spectrum A B T

  -- up to 0.2·T0
  pub low_rising : T * A ≤ 200 * B → A * (400 * B + 3 * (T * A)) * sa.den ≤ sa.num * (1000 * B * 100_000_000)
  unfolding exact_spectrum
  low_rising h =
      by_leb (λ (z : Fraction). A * (400 * B + 3 * (T * A)) * z.den ≤ z.num * (1000 * B * 100_000_000)) (T * (10 * A)) (2 * (1000 * B) * 1) _ _
      (λ _. omega arith) (λ k. absurd (omega arith))

  -- from there to T0
  pub low_flat : 200 * B ≤ T * A → T * A ≤ 1000 * B → AtMost (g A) sa
  unfolding exact_spectrum
  low_flat h l =
      by_leb (λ (z : Fraction). AtMost (g A) z) (T * (10 * A)) (2 * (1000 * B) * 1) _ _
      (λ k. let t : T * A ≡ 200 * B = omega arith in omega (arith, ap (λ (z : ℕ). A * z) t))
      (λ _. by_leb (λ (z : Fraction). AtMost (g A) z) (T * A) (1000 * B * 1) _ _ (λ _. omega arith) (λ k. absurd (omega arith)))

  -- from T0 on
  pub low_past : 0 < B → 1000 * B ≤ T * A → AtMost (over (1000 * B) (T * 100_000_000)) sa × AtMost (times (over 4 10) (g A)) sa
  unfolding exact_spectrum
  low_past pb h =
      by_leb (λ (z : Fraction). AtMost (over (1000 * B) (T * 100_000_000)) z × AtMost (times (over 4 10) (g A)) z)
      (T * (10 * A)) (2 * (1000 * B) * 1) _ _ (λ k. absurd (omega arith))
      (λ _.
      by_leb (λ (z : Fraction). AtMost (over (1000 * B) (T * 100_000_000)) z × AtMost (times (over 4 10) (g A)) z)
      (T * A) (1000 * B * 1) _ _ (λ k. (omega arith, omega arith))
      (λ _.
      by_leb (λ (z : Fraction). AtMost (over (1000 * B) (T * 100_000_000)) z × AtMost (times (over 4 10) (g A)) z)
      (T * (10 * A)) (25 * (1000 * B) * 1) _ _ (λ k. (omega arith, omega arith)) (λ k. (omega arith, omega arith))))

-- past both corners the second spectrum is no lower
pub both_past : (A B A' B' T : ℕ) → 0 < B → A ≤ A' → B ≤ B' → 1000 * B ≤ T * A → 1000 * B' ≤ T * A'
    → AtMost (exact_spectrum A B T) (exact_spectrum A' B' T)
unfolding exact_spectrum
both_past A B A' B' T pb la lb h h' =
    let low = low_past A' B' T (omega arith) h' in
    let x' = exact_spectrum A' B' T in
    let pt : 0 < T = left_positive T A (T * A) (λ i. T * A) (omega arith) in
    by_leb (λ (z : Fraction). AtMost z x') (T * (10 * A)) (2 * (1000 * B) * 1) _ _ (λ k. absurd (omega arith))
    (λ _.
    by_leb (λ (z : Fraction). AtMost z x') (T * A) (1000 * B * 1) _ _
    (λ k.
    let t : T * A ≤ 1000 * B' = omega arith in
    le_of_mul-le-mul_right {k = T} (omega (arith, low.0, mul-le-mul_right x'.den t)) pt)
    (λ _.
    by_leb (λ (z : Fraction). AtMost z x') (T * (10 * A)) (25 * (1000 * B) * 1) _ _
    (λ _. omega (arith, low.0, mul-le-mul_right x'.den lb))
    (λ _. omega (arith, low.1, mul-le-mul_right x'.den la))))
