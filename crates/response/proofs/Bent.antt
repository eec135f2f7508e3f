-- The three lines of the modified ratio where they meet: how `bent` moves with the spectrum and with the factor.
-- Assumes nothing.
use mathlib.Core.Path.{◌≡◌, refl, ap}
use Prim.Native.Nat.{ℕ, ◌+◌, ◌*◌, ◌≤◌, ◌<◌, max, min}
use native.Mathlib.Nat.{mul-le-mul_left, mul-le-mul_right, mul-pos, le_dest}
use native.Mathlib.Decide.{dec_le}
use native.Mathlib.Omega.{arith}
use Rattle.whole.proofs.Choice.{by_leb}
use Rattle.site.specs.declared.lines.Lines.{Lines}
use Rattle.site.specs.Lines.{lines}
use Rattle.response.specs.Ratio.{bent}
use Rattle.response.specs.Reach.{Meeting}

-- (8), (18)
pub lines_meet : Meeting lines
lines_meet =
    record {
      order = omega arith;
      soon = omega arith;
      rising = omega arith;
      steeper = omega arith;
      gentle = omega arith;
      half = omega arith;
      meet_first = refl;
      meet_second = refl;
    }

-- the lines a·x + b·y and c·x meet at x = t/1000·y: which is the higher on each side
cross : (a b c t x y : ℕ) → a ≤ c → a * t + 1000 * b ≡ c * t
    → (1000 * x ≤ t * y → c * x ≤ a * x + b * y) × (t * y ≤ 1000 * x → a * x + b * y ≤ c * x)
cross a b c t x y h e =
    let (d, g) = le_dest h in
    let gx : (a + d) * x ≡ c * x = ap (λ (z : ℕ). z * x) g in
    let gy : (a + d) * (t * y) ≡ c * (t * y) = ap (λ (z : ℕ). z * (t * y)) g in
    let ey : (a * t + 1000 * b) * y ≡ c * t * y = ap (λ (z : ℕ). z * y) e in
    (λ k. omega (arith, mul-le-mul_left d k), λ k. omega (arith, mul-le-mul_left d k))

-- up to the end of the first line it is that line
pub bent_first : (l : Lines) (x y : ℕ) → 1000 * x ≤ l.first * y → bent l x y ≡ 1000 * x
unfolding bent
bent_first l x y h = by_leb (λ (z : ℕ). z ≡ 1000 * x) (1000 * x) (l.first * y) _ _ (λ _. refl) (λ k. absurd (omega arith))

module _ (l : Lines) (m : Meeting l) where
  -- the line that the tests pick, with what they show of the three
  by_line : (P : ℕ → Type 0) (x y : ℕ)
      → (1000 * x ≤ l.slope * x + l.add * y → P (1000 * x))
      → (l.slope * x + l.add * y ≤ 1000 * x → l.last * x ≤ l.slope * x + l.add * y → P (l.slope * x + l.add * y))
      → (l.slope * x + l.add * y ≤ l.last * x → l.last * x ≤ 1000 * x → P (l.last * x))
      → P (bent l x y)
  unfolding bent
  by_line P x y f g h =
      let first = cross l.slope l.add 1000 l.first x y (omega (arith, m.steeper, m.gentle)) m.meet_first in
      let second = cross l.slope l.add l.last l.second x y m.steeper m.meet_second in
      by_leb P (1000 * x) (l.first * y) _ _ (λ k. f (first.0 k))
      (λ k.
      by_leb P (1000 * x) (l.second * y) _ _
      (λ j. g (first.1 (omega arith)) (second.0 j))
      (λ j. h (second.1 (omega arith)) (omega (arith, mul-le-mul_right x m.gentle))))

  -- which line counts, with no test
  bent_is : (x y : ℕ) → bent l x y ≡ min (1000 * x) (max (l.slope * x + l.add * y) (l.last * x))
  bent_is x y =
      by_line (λ (z : ℕ). z ≡ min (1000 * x) (max (l.slope * x + l.add * y) (l.last * x))) x y
      (λ h. omega arith) (λ h k. omega arith) (λ h k. omega arith)

  pub bent_within : (x y : ℕ) → bent l x y ≤ 1000 * x
  bent_within x y = rw (bent_is x y) (omega arith)

  -- past the first line it is no lower than at its end
  pub bent_past_first : (x y : ℕ) → l.first * y ≤ 1000 * x → l.first * y ≤ bent l x y
  bent_past_first x y h =
      let met : (l.slope * l.first + 1000 * l.add) * y ≡ 1000 * l.first * y = ap (λ (z : ℕ). z * y) m.meet_first in
      rw (bent_is x y) (omega (arith, met, mul-le-mul_left l.slope h))

  pub bent_some : (x y : ℕ) → 0 < x → 0 < bent l x y
  bent_some x y p = rw (bent_is x y) (omega (arith, p, mul-pos m.rising p))

  pub bent_rises : (x y x' y' : ℕ) → x ≤ x' → y ≤ y' → bent l x y ≤ bent l x' y'
  bent_rises x y x' y' h k =
      rw (bent_is x y, bent_is x' y')
      (omega (arith, mul-le-mul_left l.slope h, mul-le-mul_left l.add k, mul-le-mul_left l.last h))

  -- by the steepest line
  pub bent_near : (x y e : ℕ) → bent l (x + e) y ≤ bent l x y + 1000 * e
  bent_near x y e =
      rw (bent_is (x + e) y, bent_is x y)
      (omega (arith, mul-le-mul_right e m.steeper, mul-le-mul_right e m.gentle))

  -- from a ratio of 1 on by the last line
  bent_last : (x y e : ℕ) → y ≤ x → bent l (x + e) y ≤ bent l x y + 750 * e
  bent_last x y e h =
      let past : l.second * y ≤ 1000 * x = omega (arith, mul-le-mul_right y m.soon) in
      rw (bent_is (x + e) y, bent_is x y)
      (omega (
        arith,
        (cross l.slope l.add l.last l.second x y m.steeper m.meet_second).1 past,
        mul-le-mul_right e m.steeper,
        mul-le-mul_right e m.gentle,
        mul-le-mul_right x m.gentle,
      ))

  pub bent_near_factor : (x y e : ℕ) → 2 * bent l x (y + e) ≤ 2 * bent l x y + 1000 * e
  bent_near_factor x y e =
      rw (bent_is x (y + e), bent_is x y)
      (omega (arith, mul-le-mul_right e m.half))

  -- a ratio z = n/d of at most 2 that is (2·z + 2) s-ths too large comes out five s-ths too large at most: up to 1 by the
  -- steepest line (4 s-ths), above by the last (0.75·6)
  pub bent_spread : (s n d : ℕ) → n ≤ 2 * d → bent l (s * n + 2 * (n + d)) (s * d) ≤ bent l (s * n) (s * d) + 5000 * d
  bent_spread s n d h = go (dec_le n d)
    where
      go : Dec (n ≤ d) → bent l (s * n + 2 * (n + d)) (s * d) ≤ bent l (s * n) (s * d) + 5000 * d
      go (yes k) = omega (arith, bent_near (s * n) (s * d) (2 * (n + d)))
      go (no k) =
          let g : d ≤ n = omega arith in
          omega (arith, bent_last (s * n) (s * d) (2 * (n + d)) (mul-le-mul_left s g))

  -- a common factor drops out
  pub bent_scale : (k x y : ℕ) → bent l (k * x) (k * y) ≡ k * bent l x y
  bent_scale k x y =
      rw (bent_is (k * x) (k * y))
      (by_line
      (λ (z : ℕ). min (1000 * (k * x)) (max (l.slope * (k * x) + l.add * (k * y)) (l.last * (k * x))) ≡ k * z) x y
      (λ h. omega (arith, mul-le-mul_left k h))
      (λ h j. omega (arith, mul-le-mul_left k h, mul-le-mul_left k j))
      (λ h j. omega (arith, mul-le-mul_left k h, mul-le-mul_left k j)))
