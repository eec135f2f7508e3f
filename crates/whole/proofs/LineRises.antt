-- A line between two columns p and q: what stands at x, times x, rises with x. It does so to the end where the value of p times the place of q is at most the
-- value of q times that place and the width together, so that the value falls slowly.
--   of f x    x times a fraction
-- Assumes nothing.
use mathlib.Core.Path.{◌≡◌, sym, subst, subst₂}
use Prim.Native.Nat.{ℕ, ◌+◌, ◌-◌, ◌*◌, ◌≤◌, ◌<◌}
use native.Mathlib.Nat.{le_refl, mul-le-mul_left, mul-le-mul_right}
use native.Mathlib.Decide.{dec_le}
use native.Mathlib.Omega.{arith}
use Rattle.whole.specs.declared.Column.{Column}
use Rattle.whole.specs.declared.Fraction.{Fraction}
use Rattle.whole.specs.Fraction.{over, times, AtMost}
use Rattle.whole.specs.Line.{place, value, line}
use Rattle.whole.proofs.Order.{at_most_trans}

abbrev pub of : Fraction → ℕ → Fraction
of f x = times f (over x 1)

-- ---- one line, from a at P to b at P + u + v + t: what stands at P + u and at P + u + v
along : (a b P u v t : ℕ) → a * (P + u + v + t) ≤ b * (P + u + v + t + (u + v + t))
    → (a * (v + t) + b * u) * (P + u) ≤ (a * t + b * (u + v)) * (P + u + v)
along a b P u v t h = go (dec_le a b)
  where
    go : Dec (a ≤ b) → (a * (v + t) + b * u) * (P + u) ≤ (a * t + b * (u + v)) * (P + u + v)
    go (yes k) = omega (arith, mul-le-mul_right (v * (P + u)) k)
    go (no k) =
        let f : b ≤ a = omega arith in
        omega (arith, mul-le-mul_left v h, mul-le-mul_right (v * (v + 2 * t)) f)

module _ (p q : Column) (rises : place p < place q) (slowly : value p * place q ≤ value q * (place q + (place q - place p))) where
  pub line_rises : (x y : ℕ) → place p ≤ x → x ≤ y → y ≤ place q → AtMost (of (line p q x) x) (of (line p q y) y)
  line_rises x y lo mid hi =
      let u = x - place p in
      let v = y - x in
      let t = place q - y in
      let xe : x ≡ place p + u = omega arith in
      let ye : y ≡ place p + u + v = omega arith in
      let qe : place q ≡ place p + u + v + t = omega arith in
      let we : place q - place p ≡ u + v + t = omega arith in
      let qx : place q - x ≡ v + t = omega arith in
      let py : y - place p ≡ u + v = omega arith in
      let wide : value p * (place p + u + v + t) ≤ value q * (place p + u + v + t + (u + v + t)) =
      subst₂ (λ (Q w : ℕ). value p * Q ≤ value q * (Q + w)) qe we slowly in
      let before : (value p * (place q - x) + value q * u) * x ≡ (value p * (v + t) + value q * u) * (place p + u) =
      λ i. (value p * qx i + value q * u) * xe i in
      let after : (value p * t + value q * (y - place p)) * y ≡ (value p * t + value q * (u + v)) * (place p + u + v) =
      λ i. (value p * t + value q * py i) * ye i in
      let n = subst₂ (λ (l r : ℕ). l ≤ r) (sym before) (sym after) (along (value p) (value q) (place p) u v t wide) in
      mul-le-mul_right ((place q - place p) * 1) n

  -- at its ends it is the columns' values
  pub from_first : (y : ℕ) → place p ≤ y → y ≤ place q → AtMost (over (value p * place p) 1) (of (line p q y) y)
  from_first y lo hi =
      let w = place q - place p in
      at_most_trans (over (value p * place p) 1) (of (line p q (place p)) (place p)) (of (line p q y) y) (omega arith)
      (ends (value p) (value q) w (place p) (place p - place p) (omega arith))
      (line_rises (place p) y (le_refl (place p)) lo hi)
    where
      ends : (a b w P z : ℕ) → z ≡ 0 → a * P * (w * 1) ≤ (a * w + b * z) * P * 1
      ends a b w P z e = subst (λ (z : ℕ). a * P * (w * 1) ≤ (a * w + b * z) * P * 1) (sym e) (omega arith)

  pub to_second : (x : ℕ) → place p ≤ x → x ≤ place q → AtMost (of (line p q x) x) (over (value q * place q) 1)
  to_second x lo hi =
      let w = place q - place p in
      at_most_trans (of (line p q x) x) (of (line p q (place q)) (place q)) (over (value q * place q) 1) (omega arith)
      (line_rises x (place q) lo hi (le_refl (place q)))
      (ends (value p) (value q) w (place q) (place q - place q) (omega arith))
    where
      ends : (a b w Q z : ℕ) → z ≡ 0 → (a * z + b * w) * Q * 1 ≤ b * Q * (w * 1)
      ends a b w Q z e = subst (λ (z : ℕ). (a * z + b * w) * Q * 1 ≤ b * Q * (w * 1)) (sym e) (omega arith)

  pub first_to_second : AtMost (over (value p * place p) 1) (over (value q * place q) 1)
  first_to_second =
      at_most_trans (over (value p * place p) 1) (of (line p q (place q)) (place q)) (over (value q * place q) 1) (omega arith)
      (from_first (place q) (omega arith) (le_refl (place q)))
      (to_second (place q) (omega arith) (le_refl (place q)))
