-- Shares of whole numbers: c·n rounded up, which is `up_in n c`. Of e times the number a fraction that is no larger has at most e times the share; rounded
-- down, one that is no smaller at least e times. So a larger fraction has no smaller share, rounded up or down. The larger of two shares of a number is the
-- share of the larger fraction. The share of a sum is at most the sum of the shares, and that is at most one more.
-- Assumes nothing.
use mathlib.Core.Path.{◌≡◌, subst}
use Prim.Native.Nat.{ℕ, ◌+◌, ◌*◌, max, ◌≤◌, ◌<◌}
use native.Mathlib.Nat.{max-eq_left, max-eq_right, mul-le-mul_right, one-mul, lt_of_mul-lt-mul_left}
use native.Mathlib.Omega.{arith}
use Rattle.whole.specs.declared.Fraction.{Fraction}
use Rattle.whole.specs.Fraction.{AtMost, larger, up_in, down_in}
use Rattle.whole.proofs.Choice.{by_leb}
use Rattle.whole.proofs.Rounding.{up_law, up_most, up_at_most_times, down_at_least_times}

-- ---- of n and of e times n
module _ (e n : ℕ) (x x' : Fraction) (p : 0 < x.den) (p' : 0 < x'.den) where
  pub up_finer : AtMost x' x → up_in (e * n) x' ≤ e * up_in n x
  up_finer h = up_at_most_times e (n * x.num) x.den (e * n * x'.num) x'.den p p' (omega (arith, mul-le-mul_right (e * n) h))

  pub down_finer : AtMost x x' → e * down_in n x ≤ down_in (e * n) x'
  down_finer h = down_at_least_times e (n * x.num) x.den (e * n * x'.num) x'.den p p' (omega (arith, mul-le-mul_right (e * n) h))

-- ---- of one n
pub share_rises : (c e : Fraction) (n : ℕ) → 0 < c.den → 0 < e.den → AtMost c e → up_in n c ≤ up_in n e
share_rises c e n pc pe h = subst (λ (z : ℕ). up_in z c ≤ up_in n e) (one-mul n) (omega (arith, up_finer 1 n e c pe pc h))

pub share_down_rises : (c e : Fraction) (n : ℕ) → 0 < c.den → 0 < e.den → AtMost c e → down_in n c ≤ down_in n e
share_down_rises c e n pc pe h = subst (λ (z : ℕ). down_in n c ≤ down_in z e) (one-mul n) (omega (arith, down_finer 1 n c e pc pe h))

pub share_of_larger : (c e : Fraction) (n : ℕ) → 0 < c.den → 0 < e.den → max (up_in n c) (up_in n e) ≡ up_in n (larger c e)
share_of_larger c e n pc pe =
    by_leb (λ (z : Fraction). max (up_in n c) (up_in n e) ≡ up_in n z) (c.num * e.den) (e.num * c.den) e c
    (λ h. max-eq_right (share_rises c e n pc pe h))
    (λ h. max-eq_left (share_rises e c n pe pc (omega arith)))

pub share_of_sum : (c : Fraction) (m n : ℕ) → 0 < c.den
    → (up_in (m + n) c ≤ up_in m c + up_in n c) × (up_in m c + up_in n c ≤ up_in (m + n) c + 1)
share_of_sum c m n p =
    let um = up_law (m * c.num) c.den p in
    let un = up_law (n * c.num) c.den p in
    let u = up_law ((m + n) * c.num) c.den p in
    let less : c.den * (up_in m c + up_in n c) < c.den * (up_in (m + n) c + 2) = omega (arith, um.1, un.1, u.0) in (
      up_most ((m + n) * c.num) c.den (up_in m c + up_in n c) p (omega (arith, um.0, un.0)),
      omega (arith, lt_of_mul-lt-mul_left c.den less),
    )
