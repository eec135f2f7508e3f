-- The factor printed to a side in each of its four branches, as the code works it out. k is the whole root, c3 the capacity in
-- thirds of the unit.
-- Assumes nothing.
use mathlib.Core.Path.{◌≡◌, sym, ap, ◌∙◌}
use Prim.Native.Nat.{ℕ, ◌+◌, ◌-◌, ◌*◌, ◌≤◌, ◌<◌}
use native.Mathlib.Nat.{mul-le-mul}
use native.Mathlib.Omega.{arith}
use lib.IntN.{ℤ}
use Rattle.whole.specs.declared.Fraction.{Fraction}
use Rattle.whole.specs.Fraction.{over}
use Rattle.response.specs.Side.{Rounds, Prints}
use Rattle.response.proofs.Mean.{Weights, mean, weights}
use Rattle.response.proofs.Branches.{is_mean, beyond, rising, level, below}
use Rattle.response.proofs.Values.{Is, capacity_is, root_is, rise_is, fall_is}

module _ {q o : ℕ → ℕ → ℕ} {z : ℤ → ℕ → ℤ} {root : ℕ → Fraction → ℕ} {f : ℕ → ℕ → ℕ → ℕ → Fraction → Fraction → ℕ}
    (rounds : Rounds q o z) (prints : Prints z root f)
    (s A B T : ℕ) (c ρ : Fraction) (ps : 0 < s) (pa : 0 < A) (pb : 0 < B) (pc : 0 < c.den) where
  -- where the weights are w and the mean is N/D s-ths
  branch : (w : Weights) (N D : ℕ) → weights A B T ≡ w → Is s (root s ρ) c w N D → f s A B T c ρ ≡ q N D
  branch w N D e i =
      is_mean rounds prints s A B T c ρ ps pa pb pc
      ∙ ap (λ (v : Weights). let m = mean v (over (root s ρ) s) c in q (s * m.num) m.den) e
      ∙ rounds.same _ _ N D i.divisor i.other i.same

  -- T ≥ T0
  pub factor_beyond : 1000 * B ≤ T * A → f s A B T c ρ ≡ q (s * c.num) c.den
  factor_beyond h = branch _ _ _ (beyond A B T h) (capacity_is s (root s ρ) c ps pc)

  -- down to 0.6·T0
  module _ (c3 : ℕ) (hi : T * A < 1000 * B) (lo : 600 * B ≤ T * A) (e : c3 * c.den ≡ 3 * (s * c.num)) where
    x : ℕ
    x = T * A - 600 * B

    y : ℕ
    y = 1000 * B - T * A

    width : 3 * (x + y) ≡ 1200 * B
    unfolding x y
    width = omega arith

    pub factor_rising : 3 * root s ρ ≤ c3 → f s A B T c ρ ≡ root s ρ + q ((c3 - 3 * root s ρ) * (T * A - 600 * B)) (1200 * B)
    unfolding x y
    factor_rising h =
        let k = root s ρ in
        branch _ _ _ (rising A B T hi lo) (rise_is s k c ps pc x y c3 (omega arith) h e)
        ∙ sym (rounds.whole k ((c3 - 3 * k) * x) (3 * (x + y)) (omega arith))
        ∙ ap (λ (d : ℕ). k + q ((c3 - 3 * k) * x) d) width

  -- down to 0.2·T0
  pub factor_level : T * A < 600 * B → 200 * B ≤ T * A → f s A B T c ρ ≡ root s ρ
  factor_level hi lo =
      branch _ _ _ (level A B T hi lo) (root_is s (root s ρ) c ps pc)
      ∙ ap (λ (n : ℕ). q n 1) (omega arith)
      ∙ rounds.exact (root s ρ) 1 (omega arith)

  -- below that
  module _ (hi : T * A < 200 * B) where
    short : ℕ
    short = 200 * B - T * A

    full : T * A + short ≡ 200 * B
    unfolding short
    full = omega arith

    off : (k : ℕ) → (k - s) * short ≤ (T * A + short) * k
    unfolding short
    off k = omega (arith, mul-le-mul {n₁ = k - s} {m₁ = 200 * B - T * A} {n₂ = k} {m₂ = T * A + (200 * B - T * A)} (omega arith) (omega arith))

    pub factor_below : s ≤ root s ρ → f s A B T c ρ ≡ root s ρ - o ((root s ρ - s) * (200 * B - T * A)) (200 * B)
    unfolding short
    factor_below h =
        let k = root s ρ in
        branch _ _ _ (below A B T hi) (fall_is s k c ps pc (T * A) short (omega arith) h)
        ∙ sym (rounds.less k ((k - s) * short) (T * A + short) (omega arith) (off k))
        ∙ ap (λ (d : ℕ). k - o ((k - s) * short) d) full
