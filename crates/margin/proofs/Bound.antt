-- Printed newtons beside exact ones: at least them, or above them by less than a margin.
-- Assumes nothing.
use Prim.Native.Nat.{ℕ, ◌+◌, ◌*◌, ◌≤◌, ◌<◌, max}
use native.Mathlib.Nat.{mul-le-mul, mul-le-mul_right, mul-pos, mul-lt-mul_of_pos_right, le_of_mul-le-mul_right, lt_of_mul-lt-mul_right, le-max_left, le-max_right, max-eq_left, max-eq_right}
use native.Mathlib.Decide.{dec_le}
use native.Mathlib.Omega.{arith}
use Rattle.whole.specs.declared.Fraction.{Fraction}
use Rattle.whole.specs.Fraction.{over, plus, times, larger, AtMost}
use Rattle.whole.proofs.Choice.{by_leb}
use Rattle.whole.proofs.Order.{at_most_trans}
use Rattle.whole.proofs.Rounding.{up_law}
use Rattle.limits.specs.declared.frame.Frame.{Frame}
use Rattle.base_shear.specs.Exact.{exact_newtons}
use Rattle.base_shear.specs.Shears.{newtons}
use Rattle.margin.specs.Demand3.{AtLeast, LessBy, margin_of}
use Rattle.margin.proofs.Offsets.{Over}

-- ---- newtons of m s-ths, over any C / D
module _ (s C D m v : ℕ) (x : Fraction) where
  newtons_at_least : 0 < s → AtMost x (over m s) → C * m ≤ D * s * v → AtLeast v (times (over C D) x)
  newtons_at_least p h k =
      le_of_mul-le-mul_right {k = s} (omega (arith, mul-le-mul_right C h, mul-le-mul_right x.den k)) p

  newtons_less_by : (e : ℕ) → 0 < x.den → 0 < D → Over s m x e → D * s * v < C * m + D * s
      → LessBy v (times (over C D) x) (plus (times (over C D) (over e s)) (over 1 1))
  newtons_less_by e px pd h k =
      let h' : m * x.den ≤ s * x.num + e * x.den = omega arith in
      omega (arith, mul-le-mul_right (C * D) h', mul-lt-mul_of_pos_right k (mul-pos px pd))

module _ (s n : ℕ) (f : Frame) (W m : ℕ) (x : Fraction) (ps : 0 < s) (pn : 0 < n) (pa : 0 < f.alpha) where
  divisor_positive : 0 < n * s * f.alpha
  divisor_positive = mul-pos (mul-pos pn ps) pa

  pub newtons_above : AtMost x (over m s) → AtLeast (newtons s n f W m) (exact_newtons n f W x)
  unfolding newtons
  newtons_above h =
      newtons_at_least s (10_000 * (f.i * W)) (n * f.alpha) m (newtons s n f W m) x ps h
      (omega (arith, (up_law (10_000 * (f.i * m * W)) (n * s * f.alpha) divisor_positive).0))

  pub newtons_over : (e : ℕ) → 0 < x.den → Over s m x e → LessBy (newtons s n f W m) (exact_newtons n f W x) (margin_of e s n f W)
  unfolding newtons
  newtons_over e px h =
      newtons_less_by s (10_000 * (f.i * W)) (n * f.alpha) m (newtons s n f W m) x e px (mul-pos pn pa) h
      (omega (arith, (up_law (10_000 * (f.i * m * W)) (n * s * f.alpha) divisor_positive).1))

-- ---- a larger exact figure, or a larger margin, keeps the bound
pub less_by_figure : (v : ℕ) (x y z : Fraction) → 0 < y.den → AtMost x y → LessBy v x z → LessBy v y z
less_by_figure v x y z p h k =
    lt_of_mul-lt-mul_right x.den (omega (arith, mul-le-mul_right z.den h, mul-lt-mul_of_pos_right k p))

pub less_by_margin : (v : ℕ) (x y z : Fraction) → 0 < z.den → AtMost y z → LessBy v x y → LessBy v x z
less_by_margin v x y z p h k =
    lt_of_mul-lt-mul_right y.den (omega (arith, mul-le-mul_right x.den h, mul-lt-mul_of_pos_right k p))

pub margin_positive : (e s n : ℕ) (f : Frame) (W : ℕ) → 0 < s → 0 < n → 0 < f.alpha → 0 < (margin_of e s n f W).den
margin_positive e s n f W ps pn pa = mul-pos (mul-pos (mul-pos pn pa) ps) (omega arith)

-- fewer parts of a larger divisor
pub margin_grows : (e e' s n n' : ℕ) (f : Frame) (W : ℕ) → e ≤ e' → n ≤ n'
    → AtMost (margin_of e s n' f W) (margin_of e' s n f W)
margin_grows e e' s n n' f W h k = grows (10_000 * (f.i * W)) (n * f.alpha) (n' * f.alpha) (mul-le-mul_right f.alpha k)
  where
    grows : (C D D' : ℕ) → D ≤ D'
        → AtMost (plus (times (over C D') (over e s)) (over 1 1)) (plus (times (over C D) (over e' s)) (over 1 1))
    grows C D D' g = omega (arith, mul-le-mul_right (C * s) (mul-le-mul h g))

-- ---- the larger of two
pub larger_at_least : (v w : ℕ) (x y : Fraction) → AtLeast v x → AtLeast w y → AtLeast (max v w) (larger x y)
larger_at_least v w x y h k =
    by_leb (λ (z : Fraction). AtLeast (max v w) z) (x.num * y.den) (y.num * x.den) y x
    (λ _. omega (arith, mul-le-mul_right y.den (le-max_right v w)))
    (λ _. omega (arith, mul-le-mul_right x.den (le-max_left v w)))

max_less_by : (v w : ℕ) (x z : Fraction) → LessBy v x z → LessBy w x z → LessBy (max v w) x z
max_less_by v w x z h k = go (dec_le v w)
  where
    go : Dec (v ≤ w) → LessBy (max v w) x z
    go (yes a) = rw (max-eq_right a) k
    go (no a) =
        let g : w ≤ v = omega arith in
        rw (max-eq_left g) h

pub larger_less_by : (v w : ℕ) (x y z : Fraction) → 0 < x.den → 0 < y.den → LessBy v x z → LessBy w y z
    → LessBy (max v w) (larger x y) z
larger_less_by v w x y z px py h k =
    by_leb (λ (u : Fraction). LessBy (max v w) u z) (x.num * y.den) (y.num * x.den) y x
    (λ a. max_less_by v w y z (less_by_figure v x y z py a h) k)
    (λ a. max_less_by v w x z h (less_by_figure w y x z px (omega arith) k))

-- ---- whole numbers at or below the exact figure, and at or above it with its margin
pub at_least_number : (v n : ℕ) (x : Fraction) → 0 < x.den → AtLeast v x → AtMost (over n 1) x → n ≤ v
at_least_number v n x p h k = let t = at_most_trans (over n 1) x (over v 1) p k h in omega arith

pub below_number : (v n : ℕ) (x y : Fraction) → LessBy v x y → AtMost (plus x y) (over n 1) → v < n
below_number v n x y h k = lt_of_mul-lt-mul_right (plus x y).den (omega (arith, h, k))
