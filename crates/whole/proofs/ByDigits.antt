-- The roots by their digits: down to the place 1 these are the lower root; the upper root is the same where nothing is left, else one more.
-- Assumes nothing.
use mathlib.Core.Path.{◌≡◌, subst}
use Prim.Native.Nat.{ℕ, ◌+◌, ◌*◌, ◌^◌, ◌≤◌, ◌<◌}
use native.Mathlib.Nat.{le_of_mul-le-mul_right}
use native.Mathlib.Omega.{arith}
use Rattle.whole.specs.declared.Fraction.{Fraction}
use Rattle.whole.specs.Root.{LowerRoot, UpperRoot, lower_root, upper_root}
use Rattle.whole.specs.Digits.{Left, Found}
use Rattle.whole.proofs.Extreme.{largest_past, smallest_next}
use Rattle.whole.proofs.Root.{squares_rise, le_of_square, radicand, lower_root_at, upper_root_at}
use Rattle.whole.proofs.Found.{found_is_root}

module _ (s : ℕ) (ρ : Fraction) where
  upper_same : (k : ℕ) → 0 < ρ.den → Left s ρ k 0 → UpperRoot s ρ k
  upper_same k p e =
      record {
        holds = omega (arith, e);
        smallest = λ j h. le_of_square k j (le_of_mul-le-mul_right {k = ρ.den} (omega (arith, h, e)) p);
      }

  upper_next : (k r : ℕ) → LowerRoot s ρ k → Left s ρ k r → 0 < r → UpperRoot s ρ (k + 1)
  upper_next k r l e h =
      smallest_next (λ j. j * j * ρ.den) (squares_rise ρ.den) (ρ.num * (s * s)) k
      (omega (arith, e))
      (omega (arith, largest_past (λ (j : ℕ). j * j * ρ.den) (ρ.num * (s * s)) k l))

-- for a square n/d up to 11, and s up to 10⁷
module _ (s : ℕ) (ρ : Fraction) (hs : s ≤ 10_000_000) (hd : 0 < ρ.den) (hn : ρ.num ≤ 11 * ρ.den) where
  -- s²·n is below d·2^64
  below_words : ρ.num * (s * s) < 2 ^ 64 * ρ.den
  below_words = omega (arith, radicand s ρ.num ρ.den hs hn, hd)

  pub lower_by_digits : (k : ℕ) → Found s ρ 1 k → k ≡ lower_root s ρ
  lower_by_digits k f = lower_root_at s ρ below_words k (found_is_root s ρ k f)

  pub upper_nothing_left : (k r : ℕ) → Found s ρ 1 k → Left s ρ k r → r ≡ 0 → k ≡ upper_root s ρ
  upper_nothing_left k r f l e =
      upper_root_at s ρ below_words k (upper_same s ρ k hd (subst (λ (z : ℕ). Left s ρ k z) e l))

  pub upper_some_left : (k r : ℕ) → Found s ρ 1 k → Left s ρ k r → 0 < r → k + 1 ≡ upper_root s ρ
  upper_some_left k r f l h = upper_root_at s ρ below_words (k + 1) (upper_next s ρ k r (found_is_root s ρ k f) l h)
