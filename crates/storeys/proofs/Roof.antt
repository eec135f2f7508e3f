-- F_t is not above V, whatever part of V it is, as long as that part is at most 1; and the part is a quarter at most, at every T. Nor is a share
-- above what is shared.
-- Assumes nothing.
use Prim.Native.Nat.{ℕ, ◌*◌, ◌≤◌, ◌<◌}
use native.Mathlib.Nat.{mul-le-mul_left, mul-le-mul_right, min-le_right}
use native.Mathlib.Omega.{arith}
use Rattle.whole.specs.declared.Fraction.{Fraction}
use Rattle.whole.specs.Fraction.{over, AtMost}
use Rattle.whole.specs.Rounding.{up}
use Rattle.whole.proofs.Choice.{by_leb}
use Rattle.whole.proofs.Rounding.{up_most}
use Rattle.storeys.specs.Storeys.{RoofAtMostOne, roof_part, roof_force}

part_most : (t : Fraction) (v : ℕ) → 0 < t.den → t.num ≤ t.den → up (t.num * v) t.den ≤ v
part_most t v p h = up_most (t.num * v) t.den v p (mul-le-mul_right v h)

pub roof_most : (T v : ℕ) → RoofAtMostOne T → roof_force T v ≤ v
roof_most T v h = part_most (roof_part T) v (omega arith) h

pub share_most : (r a p : ℕ) → 0 < p → a ≤ p → up (r * a) p ≤ r
share_most r a p pos h = up_most (r * a) p r pos (omega (arith, mul-le-mul_left r h))

-- ---- the part at every T
part_at_most_25000 : (T : ℕ) → (roof_part T).num ≤ 25_000
part_at_most_25000 T = by_leb (λ (n : ℕ). n ≤ 25_000) T 700 _ _ (λ _. omega arith) (λ _. min-le_right _ 25_000)

pub quarter_at_most : (T : ℕ) → AtMost (roof_part T) (over 1 4)
quarter_at_most T = omega (arith, part_at_most_25000 T)

pub roof_at_most_one : (T : ℕ) → RoofAtMostOne T
roof_at_most_one T = omega (arith, part_at_most_25000 T)
