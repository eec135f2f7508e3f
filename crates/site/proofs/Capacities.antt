-- The capacity of the Taipei Basin is R_a of (11), and its square is 2·R_a − 1.
-- Assumes nothing.
use Prim.Native.Nat.{ℕ, ◌-◌, ◌≤◌}
use native.Mathlib.Omega.{arith}
use Rattle.whole.specs.Fraction.{over, plus, times, quotient, Same}
use Rattle.site.specs.Capacity.{basin_capacity, basin_square}

-- R in 0.01: R − 1 is (R − 100)/100
pub basin_allowable : (R : ℕ) → 100 ≤ R → Same (basin_capacity R) (plus (over 1 1) (quotient (over (R - 100) 100) (over 20 10)))
basin_allowable R h = omega arith

pub basin_rooted : (R : ℕ) → Same (plus (basin_square R) (over 1 1)) (times (over 2 1) (basin_capacity R))
basin_rooted R = omega arith
