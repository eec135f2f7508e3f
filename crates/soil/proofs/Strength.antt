-- The velocity of soft clay is the largest whole v with v²⁵·100⁹ ≤ 1200²⁵·q⁹, for every q up to 400. A table holds it where each of
-- its 400 entries fits and the next whole number does not.
-- Assumes nothing.
use mathlib.Core.Path.{◌≡◌}
use mathlib.Core.List.{List}
use Prim.Native.Nat.{ℕ, ◌*◌, ◌^◌, ◌≤◌, ◌<◌}
use native.Mathlib.Nat.{mul-le-mul_left, mul-le-mul_right, pow-le-pow_left, le_trans, lt_of_le_of_lt}
use native.Mathlib.Omega.{arith}
use lib.Dec.{T, lit<, lit≤}
use lib.ListN.{length}
use Rattle.whole.specs.Extreme.{Largest}
use Rattle.whole.proofs.Extreme.{Rises}
use Rattle.whole.proofs.Search.{largest_is}
use Rattle.soil.specs.Velocity.{strength_root, TableOf}
use Rattle.soil.proofs.ByTable.{each_largest, table_of}

powers_rise : Rises (λ v. v ^ 25 * 100 ^ 9)
powers_rise a b h = mul-le-mul_right (100 ^ 9) (pow-le-pow_left h 25)

zero_fits : (n : ℕ) → 0 ^ 25 * 100 ^ 9 ≤ n
zero_fits n = above_zero n
  where
    above_zero : (m : ℕ) → 0 ≤ m
    above_zero m = omega arith

-- the search's bound is past the velocity of the largest q
bounded : 1_200 ^ 25 * 400 ^ 9 < (2 ^ 32) ^ 25 * 100 ^ 9
bounded = lit< tt

pub strength_root_is : (q : ℕ) → q ≤ 400 → Largest (λ (v : ℕ). v ^ 25 * 100 ^ 9 ≤ 1_200 ^ 25 * q ^ 9) (strength_root q)
unfolding strength_root
strength_root_is q h =
    largest_is (λ v. v ^ 25 * 100 ^ 9) powers_rise (1_200 ^ 25 * q ^ 9) (zero_fits _)
    (lt_of_le_of_lt (mul-le-mul_left (1_200 ^ 25) (pow-le-pow_left h 9)) bounded)

-- v = 1 fits where q is 1 or more
pub strength_positive : (q : ℕ) → 1 ≤ q → q ≤ 400 → 0 < strength_root q
strength_positive q lo hi =
    let one : 1 ^ 25 * 100 ^ 9 ≤ 1_200 ^ 25 * 1 ^ 9 = lit≤ tt in
    (strength_root_is q hi).largest 1 (le_trans one (mul-le-mul_left (1_200 ^ 25) (pow-le-pow_left lo 9)))

pub strength_table : (vs : List ℕ) → length vs ≡ 400 → T (each_largest (λ v. v ^ 25 * 100 ^ 9) (λ q. 1_200 ^ 25 * q ^ 9) 1 vs)
    → TableOf strength_root 1 400 vs
strength_table vs size t =
    table_of (λ v. v ^ 25 * 100 ^ 9) powers_rise (λ q. 1_200 ^ 25 * q ^ 9) strength_root 1 400 vs (λ q _ h. strength_root_is q h) size t
