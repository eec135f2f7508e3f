-- The printed shear under a level beside the exact one. Of the base shear V itself: F_t's rounding and the quotient's are less than two
-- newtons. Of an exact base shear beside V: of V's own margin no more than the whole comes in.
-- Assumes nothing.
use mathlib.Core.Path.{◌≡◌, ap}
use Prim.Native.Nat.{ℕ, ◌+◌, ◌*◌, ◌-◌, ◌≤◌, ◌<◌}
use native.Mathlib.Nat.{mul-le-mul_left, mul-le-mul_right, mul-pos, mul-lt-mul_of_pos_right}
use native.Mathlib.Omega.{arith}
use Rattle.whole.specs.declared.Fraction.{Fraction}
use Rattle.whole.specs.Fraction.{over, plus, times, Same, AtMost}
use Rattle.whole.proofs.Order.{at_most_trans, same_at_most}
use Rattle.storeys.specs.Exact.{rest}
use Rattle.margin.specs.Demand3.{AtLeast, LessBy}
use Rattle.margin.proofs.Bound.{less_by_figure}

-- t·x + (1 − t)·x·a/b, of a part t
abbrev pub shared : Fraction → ℕ → ℕ → Fraction → Fraction
shared t a b x = plus (times t x) (times (times (rest t) x) (over a b))

-- the part of V that goes to the roof or stands above, over t.den · b
abbrev part : Fraction → ℕ → ℕ → ℕ
part t a b = t.num * b + (t.den - t.num) * a

shared_is : (t : Fraction) (a b : ℕ) (x : Fraction) → Same (shared t a b x) (times x (over (part t a b) (t.den * b)))
shared_is t a b x = omega arith

module _ (t : Fraction) (a b : ℕ) (pt : 0 < t.den) (pb : 0 < b) where
  pub shared_positive : (x : Fraction) → 0 < x.den → 0 < (shared t a b x).den
  shared_positive x px = mul-pos (mul-pos pt px) (mul-pos (mul-pos pt px) pb)

  whole_positive : (x : Fraction) → 0 < x.den → 0 < (times x (over (part t a b) (t.den * b))).den
  whole_positive x px = mul-pos px (mul-pos pt pb)

  -- it rises with x
  pub shared_rises : (x x' : Fraction) → 0 < x.den → 0 < x'.den → AtMost x x' → AtMost (shared t a b x) (shared t a b x')
  shared_rises x x' px px' h =
      let c = over (part t a b) (t.den * b) in
      let grown : AtMost (times x c) (times x' c) = omega (arith, mul-le-mul_right (c.num * c.den) h) in
      at_most_trans (shared t a b x) (times x c) (shared t a b x') (whole_positive x px)
      (same_at_most (shared t a b x) (times x c) (shared_is t a b x)).0
      (at_most_trans (times x c) (times x' c) (shared t a b x') (whole_positive x' px') grown
      (same_at_most (shared t a b x') (times x' c) (shared_is t a b x')).1)

part_most : (t : Fraction) (a b : ℕ) → t.num ≤ t.den → a ≤ b → part t a b ≤ t.den * b
part_most t a b ht ha =
    let et : t.num + (t.den - t.num) ≡ t.den = omega arith in
    omega (arith, mul-le-mul_left (t.den - t.num) ha, ap (λ (z : ℕ). z * b) et)

module _ (t : Fraction) (a b v f q : ℕ) (ht : t.num ≤ t.den) (ha : a ≤ b) (fits : f ≤ v) where
  part_above : t.num * v ≤ t.den * f → (v - f) * a ≤ b * q → v * part t a b ≤ (f + q) * (t.den * b)
  part_above hf hq =
      let ev : f + (v - f) ≡ v = omega arith in
      let et : t.num + (t.den - t.num) ≡ t.den = omega arith in
      let eb : a + (b - a) ≡ b = omega arith in
      omega (
        arith,
        mul-le-mul_right t.den hq,
        mul-le-mul_right (b - a) hf,
        ap (λ (z : ℕ). z * (a * t.den)) ev,
        ap (λ (z : ℕ). z * (f * t.den)) eb,
        ap (λ (z : ℕ). z * (t.num * v)) eb,
        ap (λ (z : ℕ). z * (v * a)) et,
      )

  part_over : 0 < t.den → t.den * f < t.num * v + t.den → b * q < (v - f) * a + b
      → (f + q) * (t.den * b) < v * part t a b + 2 * (t.den * b)
  part_over pt jf jq =
      let ev : f + (v - f) ≡ v = omega arith in
      let et : t.num + (t.den - t.num) ≡ t.den = omega arith in
      let eb : a + (b - a) ≡ b = omega arith in
      let jf' : t.den * f ≤ t.num * v + t.den = omega arith in
      omega (
        arith,
        mul-lt-mul_of_pos_right jq pt,
        mul-le-mul_right (b - a) jf',
        ap (λ (z : ℕ). z * t.den) eb,
        ap (λ (z : ℕ). z * (a * t.den)) ev,
        ap (λ (z : ℕ). z * (f * t.den)) eb,
        ap (λ (z : ℕ). z * (t.num * v)) eb,
        ap (λ (z : ℕ). z * (v * a)) et,
      )

  -- ---- of V itself
  module _ (pt : 0 < t.den) (pb : 0 < b) where
    -- the exact one as a part of V
    abbrev of_v : Fraction
    of_v = times (over v 1) (over (part t a b) (t.den * b))

    pub handed_above : t.num * v ≤ t.den * f → (v - f) * a ≤ b * q → AtLeast (f + q) (shared t a b (over v 1))
    handed_above hf hq =
        let k : AtLeast (f + q) of_v = omega (arith, part_above hf hq) in
        at_most_trans (shared t a b (over v 1)) of_v (over (f + q) 1) (whole_positive t a b pt pb (over v 1) (omega arith))
        (same_at_most (shared t a b (over v 1)) of_v (shared_is t a b (over v 1))).0
        k

    pub handed_over : t.den * f < t.num * v + t.den → b * q < (v - f) * a + b → LessBy (f + q) (shared t a b (over v 1)) (over 2 1)
    handed_over jf jq =
        let k : LessBy (f + q) of_v (over 2 1) = omega (arith, part_over pt jf jq) in
        less_by_figure (f + q) of_v (shared t a b (over v 1)) (over 2 1) (shared_positive t a b pt pb (over v 1) (omega arith))
        (same_at_most (shared t a b (over v 1)) of_v (shared_is t a b (over v 1))).1
        k

-- ---- of an exact base shear x beside V, whatever the printed shear u and however far it is above that of V
module _ (t : Fraction) (a b v u : ℕ) (ht : t.num ≤ t.den) (ha : a ≤ b) (pt : 0 < t.den) (pb : 0 < b) where
  module _ (x : Fraction) (px : 0 < x.den) where
    pub storey_above : AtLeast u (shared t a b (over v 1)) → AtLeast v x → AtLeast u (shared t a b x)
    storey_above hu h =
        at_most_trans (shared t a b x) (shared t a b (over v 1)) (over u 1) (shared_positive t a b pt pb (over v 1) (omega arith))
        (shared_rises t a b pt pb x (over v 1) px (omega arith) h)
        hu

    pub storey_over : (z : Fraction) (e : ℕ) → 0 < z.den → LessBy u (shared t a b (over v 1)) (over e 1) → LessBy v x z
        → LessBy u (shared t a b x) (plus z (over e 1))
    storey_over z e pz ju h =
        let c = over (part t a b) (t.den * b) in
        let w = times x c in
        let of_v = times (over v 1) c in
        let ju' : LessBy u of_v (over e 1) =
        less_by_figure u (shared t a b (over v 1)) of_v (over e 1) (whole_positive t a b pt pb (over v 1) (omega arith))
        (same_at_most (shared t a b (over v 1)) of_v (shared_is t a b (over v 1))).0 ju in
        let h' : v * (x.den * z.den) ≤ x.num * z.den + z.num * x.den = omega arith in
        let k : LessBy u w (plus z (over e 1)) =
        omega (
          arith,
          mul-lt-mul_of_pos_right ju' (mul-pos px pz),
          mul-le-mul_right (part t a b) h',
          mul-le-mul_right (z.num * x.den) (part_most t a b ht ha),
        ) in
        less_by_figure u w (shared t a b x) (plus z (over e 1)) (shared_positive t a b pt pb x px)
        (same_at_most (shared t a b x) w (shared_is t a b x)).1
        k
