-- What x takes off beside the digits k, and so what a digit takes: a digit is at most the trial that a division gives, and at most 9 where 10 would take
-- more than is left.
-- Assumes nothing.
use mathlib.Core.Path.{◌≡◌}
use Prim.Native.Nat.{ℕ, zero, suc, ◌+◌, ◌*◌, ◌/◌, ◌≤◌, ◌<◌}
use native.Mathlib.Nat.{zero-lt-suc, mul-pos, mul-le-mul, mul-le-mul_left, mul-le-mul_right, lt_of_not-le, le-div_iff_mul-le}
use native.Mathlib.Decide.{dec_le}
use native.Mathlib.Omega.{arith}
use Rattle.whole.specs.Digits.{taken}

pub taken_is : (d k x : ℕ) → d * (k * k) + taken d k x ≡ d * ((k + x) * (k + x))
taken_is d k x = omega arith

pub taken_some : (d k p : ℕ) → 0 < d → 0 < p → 0 < taken d k p
taken_some d k p hd hp = mul-pos hd (mul-pos (omega arith) hp)

taken_rises : (d k x y : ℕ) → x ≤ y → taken d k x ≤ taken d k y
taken_rises d k x y h = mul-le-mul_left d (mul-le-mul (omega (arith, h)) h)

-- a digit c takes at least c times what 1 takes
taken_least : (d k p c : ℕ) → 0 < c → c * taken d k p ≤ taken d k (c * p)
taken_least d k p c h =
    let l : c * (2 * k + p) ≤ c * (2 * k + c * p) = mul-le-mul_left c (omega (arith, mul-le-mul_right p h)) in
    omega (arith, mul-le-mul_left d (mul-le-mul_right p l))

module _ (d k p left : ℕ) where
  pub digit_trial : 0 < d → 0 < p → (c : ℕ) → taken d k (c * p) ≤ left → c ≤ left / taken d k p
  digit_trial hd hp zero h = omega arith
  digit_trial hd hp (suc c) h =
      (le-div_iff_mul-le (taken_some d k p hd hp)).1 (omega (arith, taken_least d k p (suc c) (zero-lt-suc c), h))

  pub digit_most : left < taken d k (10 * p) → (c : ℕ) → taken d k (c * p) ≤ left → c ≤ 9
  digit_most t c h = go (dec_le c 9)
    where
      go : Dec (c ≤ 9) → c ≤ 9
      go (yes y) = y
      go (no n) = absurd (omega (arith, t, h, taken_rises d k (10 * p) (c * p) (mul-le-mul_right p (lt_of_not-le n))))
