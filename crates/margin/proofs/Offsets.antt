-- A whole number v of s-ths that stands a little off a fraction x.
--   Over s v x e     v s-ths are less than x and e s-ths
--   Short s v x e    x is less than v and e s-ths
-- Assumes nothing.
use mathlib.Core.Path.{ap}
use Prim.Native.Nat.{ℕ, ◌+◌, ◌*◌, ◌<◌}
use native.Mathlib.Nat.{lt_of_mul-lt-mul_right, mul-lt-mul_of_pos_right}
use native.Mathlib.Omega.{arith}
use Rattle.whole.specs.declared.Fraction.{Fraction}
use Rattle.whole.specs.Fraction.{Same}

abbrev pub Over : ℕ → ℕ → Fraction → ℕ → Type 0
Over s v x e = v * x.den < s * x.num + e * x.den

abbrev pub Short : ℕ → ℕ → Fraction → ℕ → Type 0
Short s v x e = s * x.num < (v + e) * x.den

-- off one fraction is off another that is the same number
module _ (s v e : ℕ) (x y : Fraction) (p : 0 < x.den) (same : Same x y) where
  pub over_same : Over s v y e → Over s v x e
  over_same h =
      lt_of_mul-lt-mul_right y.den (omega (arith, mul-lt-mul_of_pos_right h p, ap (λ (z : ℕ). s * z) same))

  pub short_same : Short s v y e → Short s v x e
  short_same h =
      lt_of_mul-lt-mul_right y.den (omega (arith, mul-lt-mul_of_pos_right h p, ap (λ (z : ℕ). s * z) same))
