-- The whole roots in s-ths beside the high and the low fractions: on the right side of them, and off by less than one s-th.
-- Assumes nothing.
use Prim.Native.Nat.{ℕ, zero, suc, ◌+◌, ◌*◌, ◌<◌}
use native.Mathlib.Nat.{mul-le-mul_right, mul-lt-mul_of_pos_right, mul-pos, le_of_mul-le-mul_right, lt_of_mul-lt-mul_right}
use native.Mathlib.Omega.{arith}
use Rattle.whole.specs.declared.Fraction.{Fraction}
use Rattle.whole.specs.Fraction.{over, AtMost}
use Rattle.whole.specs.Root.{LowerRoot, UpperRoot}
use Rattle.whole.proofs.Extreme.{largest_past, smallest_before}
use Rattle.whole.proofs.Root.{le_of_square, lt_of_square}
use Rattle.margin.specs.Roots.{High, Low}

-- every low fraction is at most every high one
pub low_below_high : (ρ r r' : Fraction) → 0 < ρ.den → Low ρ r → High ρ r' → AtMost r r'
low_below_high ρ r r' p l h =
    le_of_square _ _
    (le_of_mul-le-mul_right {k = ρ.den}
    (omega (arith, mul-le-mul_right (r'.den * r'.den) l.low, mul-le-mul_right (r.den * r.den) h.high))
    p)

module _ (s : ℕ) (ρ : Fraction) (k : ℕ) (r : Fraction) where
  pub lower_below_high : 0 < ρ.den → LowerRoot s ρ k → High ρ r → AtMost (over k s) r
  lower_below_high p l h =
      le_of_square _ _
      (le_of_mul-le-mul_right {k = ρ.den}
      (omega (arith, mul-le-mul_right (r.den * r.den) l.holds, mul-le-mul_right (s * s) h.high))
      p)

  pub low_below_upper : 0 < ρ.den → UpperRoot s ρ k → Low ρ r → AtMost r (over k s)
  low_below_upper p u l =
      le_of_square _ _
      (le_of_mul-le-mul_right {k = ρ.den}
      (omega (arith, mul-le-mul_right (r.den * r.den) u.holds, mul-le-mul_right (s * s) l.low))
      p)

  pub low_near_lower : LowerRoot s ρ k → Low ρ r → s * r.num < (k + 1) * r.den
  low_near_lower l h =
      lt_of_square _ _
      (lt_of_mul-lt-mul_right ρ.den
      (omega (
        arith,
        mul-lt-mul_of_pos_right (largest_past (λ k. k * k * ρ.den) (ρ.num * (s * s)) k l) (mul-pos h.sound h.sound),
        mul-le-mul_right (s * s) h.low,
      )))

pub upper_near_high : (s : ℕ) (ρ : Fraction) (k : ℕ) (r : Fraction) → UpperRoot s ρ k → High ρ r
    → k * r.den < s * r.num + r.den
upper_near_high s ρ zero r u h = omega (arith, h.sound)
upper_near_high s ρ (suc k) r u h =
    let before = smallest_before (λ k. k * k * ρ.den) (ρ.num * (s * s)) (suc k) u k (omega arith) in
    let short : k * r.den < s * r.num =
    lt_of_square _ _
    (lt_of_mul-lt-mul_right ρ.den
    (omega (arith, mul-lt-mul_of_pos_right before (mul-pos h.sound h.sound), mul-le-mul_right (s * s) h.high))) in
    omega arith
