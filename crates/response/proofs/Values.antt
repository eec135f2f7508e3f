-- The mean in s-ths in each of its four branches, as the code works it out.
-- Assumes nothing.
use mathlib.Core.Path.{◌≡◌, sym, ap, ◌∙◌}
use Prim.Native.Nat.{ℕ, ◌+◌, ◌-◌, ◌*◌, ◌≤◌, ◌<◌}
use native.Mathlib.Nat.{mul-pos}
use native.Mathlib.Omega.{arith}
use Rattle.whole.specs.declared.Fraction.{Fraction}
use Rattle.whole.specs.Fraction.{over}
use Rattle.response.proofs.Mean.{Weights, mean}

-- the mean at the root k/s is N/D s-ths
pub record Is (s k : ℕ) (c : Fraction) (w : Weights) (N D : ℕ) : Type 0 where
  pub divisor : 0 < (mean w (over k s) c).den
  pub other : 0 < D
  pub same : s * (mean w (over k s) c).num * D ≡ N * (mean w (over k s) c).den

module _ (s k : ℕ) (c : Fraction) (ps : 0 < s) (pc : 0 < c.den) where
  -- the capacity alone
  pub capacity_is : Is s k c (record { one = 0; root = 0; cap = 1 }) (s * c.num) c.den
  capacity_is = record { divisor = mul-pos {m = 1} (omega arith) (mul-pos ps pc); other = pc; same = omega arith }

  -- the root alone
  pub root_is : Is s k c (record { one = 0; root = 1; cap = 0 }) k 1
  root_is = record { divisor = mul-pos {m = 1} (omega arith) (mul-pos ps pc); other = omega arith; same = omega arith }

  -- the root and what it rises by: c3 is the capacity in thirds of the unit, x and y how far T is past 0.6·T0 and short of T0
  pub rise_is : (x y c3 : ℕ) → 0 < x + y → 3 * k ≤ c3 → c3 * c.den ≡ 3 * (s * c.num)
      → Is s k c (record { one = 0; root = 10 * y; cap = 10 * x }) (3 * (x + y) * k + (c3 - 3 * k) * x) (3 * (x + y))
  rise_is x y c3 pg h e =
      let d = c.den in
      let n = c.num in
      let R = c3 - 3 * k in
      let e3 : (3 * k + R) * d ≡ 3 * (s * n) = ap (λ (z : ℕ). z * d) (omega arith) ∙ e in
      let N = 0 * (s * d) + 10 * y * (k * d) + 10 * x * (n * s) in
      let F = 3 * (x + y) * k + R * x in
      let thrice : s * N * 3 ≡ F * (10 * s * d) = omega (arith, ap (λ (z : ℕ). 10 * (s * x) * z) e3) in
      let lifted : s * N * 3 * (x + y) ≡ F * (10 * s * d) * (x + y) = ap (λ (z : ℕ). z * (x + y)) thrice in
      record {
        divisor = mul-pos {m = 0 + 10 * y + 10 * x} (omega arith) (mul-pos ps pc);
        other = omega arith;
        same = spread (s * N) (x + y) ∙ lifted ∙ gathered F s d x y;
      }
    where
      spread : (P G : ℕ) → P * (3 * G) ≡ P * 3 * G
      spread P G = omega arith

      gathered : (F s d x y : ℕ) → F * (10 * s * d) * (x + y) ≡ F * ((0 + 10 * y + 10 * x) * (s * d))
      gathered F s d x y = omega arith

  -- the root and what it falls by: x is T·A, y how far T is short of 0.2·T0
  pub fall_is : (x y : ℕ) → 0 < x + y → s ≤ k
      → Is s k c (record { one = 10 * y; root = 10 * x; cap = 0 }) ((x + y) * k - (k - s) * y) (x + y)
  fall_is x y ph h =
      let d = c.den in
      let K = k - s in
      let ek : s + K ≡ k = omega arith in
      let less : (x + y) * k - K * y ≡ y * s + x * k = omega (arith, ap (λ (z : ℕ). z * y) ek) in
      let N = 10 * y * (s * d) + 10 * x * (k * d) + 0 * (c.num * s) in
      record {
        divisor = mul-pos {m = 10 * y + 10 * x + 0} (omega arith) (mul-pos ps pc);
        other = ph;
        same = fallen s d x y k ∙ ap (λ (z : ℕ). z * ((10 * y + 10 * x + 0) * (s * d))) (sym less);
      }
    where
      fallen : (s d x y k : ℕ) → s * (10 * y * (s * d) + 10 * x * (k * d) + 0 * (c.num * s)) * (x + y)
          ≡ (y * s + x * k) * ((10 * y + 10 * x + 0) * (s * d))
      fallen s d x y k = omega arith
