-- The root as it is written on paper, with the zeros left off: the step from a unit to one ten times finer. With zeros behind, its lines are those of the
-- digits found down to a place.
-- Assumes nothing.
use mathlib.Core.Path.{◌≡◌, sym, ap, subst}
use Prim.Native.Nat.{ℕ, ◌+◌, ◌-◌, ◌*◌, ◌/◌, ◌≤◌, ◌<◌, ◌∣◌}
use native.Mathlib.Nat.{mul-pos, mul-le-mul_right, le_of_mul-le-mul_right, one-dvd, dvd-mul_left, div-mul_cancel}
use native.Mathlib.Omega.{arith}
use Rattle.whole.specs.declared.Fraction.{Fraction}
use Rattle.whole.specs.Extreme.{Largest}
use Rattle.whole.specs.Root.{LowerRoot}
use Rattle.whole.specs.Digits.{Left, Found, Digit}
use Rattle.whole.proofs.Extreme.{largest_same}
use Rattle.whole.proofs.Found.{found_next, found_is_root}

-- where the unit is ten times finer, two zeros are brought down
brought_down : (s : ℕ) (ρ : Fraction) (k r : ℕ) → Left s ρ k r → Left (10 * s) ρ (10 * k) (100 * r)
brought_down s ρ k r l = omega (arith, l)

-- the digit is then the largest c with d·(20·k + c)·c not above that; it is written behind k, and what it takes is subtracted
pub paper_step : (s : ℕ) (ρ : Fraction) (k r c : ℕ) → Left s ρ k r → Largest (λ (c : ℕ). ρ.den * ((20 * k + c) * c) ≤ 100 * r) c
    → LowerRoot (10 * s) ρ (10 * k + c) × Left (10 * s) ρ (10 * k + c) (100 * r - ρ.den * ((20 * k + c) * c))
paper_step s ρ k r c l g =
    let b = brought_down s ρ k r l in
    let d : Digit ρ.den (10 * k) 1 (100 * r) c =
    largest_same (λ j h. omega (arith, h)) (λ j h. omega (arith, h)) g in
    let f = found_next (10 * s) ρ 1 (10 * k) (100 * r) c (one-dvd (10 * k)) b d in
    let e : 10 * k + c * 1 ≡ 10 * k + c = omega arith in
    (found_is_root (10 * s) ρ (10 * k + c) (subst (λ (j : ℕ). Found (10 * s) ρ 1 j) e f), omega (arith, b, g.holds))

-- the lower root in a unit and what is left are, with zeros behind them, the digits down to the place p in a unit p times finer: two zeros behind
-- what is left for each behind the digits
module _ (s : ℕ) (ρ : Fraction) (p k r : ℕ) (hp : 0 < p) where
  fits_finer : (j : ℕ) → j * j * ρ.den ≤ ρ.num * (s * s) → ρ.den * (j * p * (j * p)) ≤ s * p * (s * p) * ρ.num
  fits_finer j h = omega (arith, mul-le-mul_right (p * p) h)

  fits_coarser : (j : ℕ) → ρ.den * (j * p * (j * p)) ≤ s * p * (s * p) * ρ.num → j * j * ρ.den ≤ ρ.num * (s * s)
  fits_coarser j h = le_of_mul-le-mul_right {k = p * p} (omega (arith, h)) (mul-pos hp hp)

  pub zeros_behind : LowerRoot s ρ k → Left s ρ k r → Found (s * p) ρ p (k * p) × Left (s * p) ρ (k * p) (r * (p * p))
  zeros_behind f l =
      (record { holds = (dvd-mul_left p k, fits_finer k f.holds); largest = within }, omega (arith, ap (λ (z : ℕ). z * (p * p)) l))
    where
      within : (j : ℕ) → (p ∣ j) × (ρ.den * (j * j) ≤ s * p * (s * p) * ρ.num) → j ≤ k * p
      within j h =
          let e : j / p * p ≡ j = div-mul_cancel p h.0 in
          let b = fits_coarser (j / p) (subst (λ (z : ℕ). ρ.den * (z * z) ≤ s * p * (s * p) * ρ.num) (sym e) h.1) in
          omega (arith, e, mul-le-mul_right p (f.largest (j / p) b))
