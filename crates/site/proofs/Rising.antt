-- A and B rise with S, the mapped value times its near-fault factor: Table 2's coefficients fall more slowly than S grows. So near-fault factors from 1
-- on make no smaller A and no smaller B, and A of the design level without them is at most 0.8 g.
-- Assumes nothing.
use Prim.Native.Nat.{ℕ, ◌≤◌}
use native.Mathlib.Nat.{mul-le-mul_left}
use native.Mathlib.Omega.{arith}
use lib.Dec.{T}
use Rattle.whole.specs.Line.{between}
use Rattle.whole.specs.Rounding.{down}
use Rattle.whole.proofs.TableRises.{slow, table_rises}
use Rattle.limits.specs.declared.class.Class.{Class}
use Rattle.limits.specs.declared.class.Class.TheVariants.{Hard, Normal, Soft}
use Rattle.site.specs.Coefficients.{factored, acceleration_a, acceleration_b}
use Rattle.site.specs.Table2.{columns_a, columns_v}
use Rattle.site.proofs.Whole.{a_fits, v_fits}

a_slow : (c : Class) → T (slow (columns_a c))
unfolding slow
a_slow Hard = tt
a_slow Normal = tt
a_slow Soft = tt

v_slow : (c : Class) → T (slow (columns_v c))
unfolding slow
v_slow Hard = tt
v_slow Normal = tt
v_slow Soft = tt

pub a_rises : (c : Class) (S S' : ℕ) → S ≤ S' → acceleration_a c S ≤ acceleration_a c S'
a_rises c S S' h = table_rises (columns_a c) S S' (a_fits c) (a_slow c) h

pub b_rises : (c : Class) (S S' : ℕ) → S ≤ S' → acceleration_b c S ≤ acceleration_b c S'
b_rises c S S' h = table_rises (columns_v c) S S' (v_fits c) (v_slow c) h

-- a near-fault factor from 1 on
pub factored_rises : (m n : ℕ) → 100 ≤ n → factored m 100 ≤ factored m n
factored_rises m n h = mul-le-mul_left m h

-- 0.8 g is what all classes have at S of 0.8 g
a_of_eight : (c : Class) → acceleration_a c 8000 ≤ 80_000_000
unfolding between down
a_of_eight Hard = omega arith
a_of_eight Normal = omega arith
a_of_eight Soft = omega arith

pub a_design_most : (c : Class) (m : ℕ) → m ≤ 80 → acceleration_a c (factored m 100) ≤ 80_000_000
a_design_most c m h =
    let least = a_rises c (factored m 100) 8000 (omega arith) in
    omega (arith, least, a_of_eight c)
