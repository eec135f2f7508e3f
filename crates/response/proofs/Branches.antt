-- The printed factors are the mean, rounded; what 1, the root and the capacity weigh, by where T lies.
-- Assumes nothing.
use mathlib.Core.Path.{◌≡◌, ap, ◌∙◌}
use Prim.Native.Nat.{ℕ, ◌-◌, ◌*◌, ◌≤◌, ◌<◌}
use native.Mathlib.Nat.{mul-pos}
use native.Mathlib.Omega.{arith}
use borrow.Author.Tests.{le-leb, lt-leb}
use lib.IntN.{ℤ}
use Rattle.whole.specs.declared.Fraction.{Fraction}
use Rattle.whole.specs.Fraction.{over, up_in, down_in}
use Rattle.whole.specs.Root.{lower_root, upper_root}
use Rattle.whole.specs.Signed.{Signed, natural}
use Rattle.whole.proofs.Choice.{by_leb}
use Rattle.response.specs.Factor.{factor, lower_factor, upper_factor}
use Rattle.response.specs.Side.{Rounds, Prints, lower_rounds, lower_prints, upper_rounds, upper_prints}
use Rattle.response.proofs.Mean.{Weights, total, mean, weights, factor_stands}

-- ---- no divisor is 0
weights_positive : (A B T : ℕ) → 0 < B → 0 < total (weights A B T)
unfolding weights
weights_positive A B T p =
    by_leb (λ (w : Weights). 0 < total w) (1000 * B * 1) (T * A) _ _ (λ _. omega arith)
    (λ past.
    by_leb (λ (w : Weights). 0 < total w) (6 * (1000 * B) * 1) (T * (10 * A)) _ _ (λ _. omega arith)
    (λ _. by_leb (λ (w : Weights). 0 < total w) (2 * (1000 * B) * 1) (T * (10 * A)) _ _ (λ _. omega arith) (λ _. omega arith)))

pub factor_positive : (A B T : ℕ) (r c : Fraction) → 0 < A → 0 < B → 0 < r.den → 0 < c.den → 0 < (factor A B T c r).den
unfolding factor
factor_positive A B T r c pa pb pr pc =
    let e : (n : ℕ) → 0 < n → 0 < 1 * (10 * A) * (n * (1000 * B)) =
    λ n pn. mul-pos (mul-pos {m = 1} (omega arith) (omega arith)) (mul-pos pn (omega arith)) in
    by_leb (λ (z : Signed). 0 < z.den) (1000 * B * 1) (T * A) _ _ (λ _. pc)
    (λ _.
    by_leb (λ (z : Signed). 0 < z.den) (6 * (1000 * B) * 1) (T * (10 * A)) _ _
    (λ _. mul-pos pr (mul-pos (mul-pos pc pr) (e 4 (omega arith))))
    (λ _.
    by_leb (λ (z : Signed). 0 < z.den) (2 * (1000 * B) * 1) (T * (10 * A)) _ _ (λ _. pr)
    (λ _. mul-pos pr (mul-pos (mul-pos pr (omega arith)) (e 2 (omega arith))))))

-- ---- the divisor of the mean is above 0
pub mean_positive : (A B T : ℕ) (r c : Fraction) → 0 < B → 0 < r.den → 0 < c.den → 0 < (mean (weights A B T) r c).den
mean_positive A B T r c pb pr pc = mul-pos (weights_positive A B T pb) (mul-pos pr pc)

-- ---- the printed factors are the mean, rounded
pub is_mean : {q o : ℕ → ℕ → ℕ} {z : ℤ → ℕ → ℤ} {root : ℕ → Fraction → ℕ} {f : ℕ → ℕ → ℕ → ℕ → Fraction → Fraction → ℕ}
    → Rounds q o z → Prints z root f → (s A B T : ℕ) (c ρ : Fraction) → 0 < s → 0 < A → 0 < B → 0 < c.den →
    let m = mean (weights A B T) (over (root s ρ) s) c in
    f s A B T c ρ ≡ q (s * m.num) m.den
is_mean {root = root} rounds prints s A B T c ρ ps pa pb pc =
    let r = over (root s ρ) s in
    prints.printed s A B T c ρ
    ∙ ap natural (rounds.stands (factor A B T c r) (mean (weights A B T) r c) (factor_positive A B T r c pa pb ps pc)
    (mean_positive A B T r c pb ps pc) (factor_stands A B T r c) s)

module _ (s A B T : ℕ) (c ρ : Fraction) (ps : 0 < s) (pa : 0 < A) (pb : 0 < B) (pc : 0 < c.den) where
  pub lower_is_mean : lower_factor s A B T c ρ ≡ down_in s (mean (weights A B T) (over (lower_root s ρ) s) c)
  lower_is_mean = is_mean lower_rounds lower_prints s A B T c ρ ps pa pb pc

  pub upper_is_mean : upper_factor s A B T c ρ ≡ up_in s (mean (weights A B T) (over (upper_root s ρ) s) c)
  upper_is_mean = is_mean upper_rounds upper_prints s A B T c ρ ps pa pb pc

-- ---- what each weighs, by where T lies
module _ (A B T : ℕ) where
  pub beyond : 1000 * B ≤ T * A → weights A B T ≡ record { one = 0; root = 0; cap = 1 }
  unfolding weights
  beyond h = simp (le-leb (1000 * B * 1) (T * A) (omega arith))

  pub rising : T * A < 1000 * B → 600 * B ≤ T * A
      → weights A B T ≡ record { one = 0; root = 10 * (1000 * B - T * A); cap = 10 * (T * A - 600 * B) }
  unfolding weights
  rising h l =
      simp (lt-leb (1000 * B * 1) (T * A) (omega arith), le-leb (6 * (1000 * B) * 1) (T * (10 * A)) (omega arith))

  pub level : T * A < 600 * B → 200 * B ≤ T * A → weights A B T ≡ record { one = 0; root = 1; cap = 0 }
  unfolding weights
  level h l =
      simp (
        lt-leb (1000 * B * 1) (T * A) (omega arith),
        lt-leb (6 * (1000 * B) * 1) (T * (10 * A)) (omega arith),
        le-leb (2 * (1000 * B) * 1) (T * (10 * A)) (omega arith),
      )

  pub below : T * A < 200 * B
      → weights A B T ≡ record { one = 10 * (200 * B - T * A); root = 10 * (T * A); cap = 0 }
  unfolding weights
  below h =
      simp (
        lt-leb (1000 * B * 1) (T * A) (omega arith),
        lt-leb (6 * (1000 * B) * 1) (T * (10 * A)) (omega arith),
        lt-leb (2 * (1000 * B) * 1) (T * (10 * A)) (omega arith),
      )
