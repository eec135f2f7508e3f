-- The cube root is the largest whole v with v³ ≤ s³·N, for every scale up to 1000 dm/s and every N up to 50. A table holds it where
-- each entry fits and the next whole number does not.
-- Assumes nothing.
use mathlib.Core.Path.{◌≡◌, ap, ◌∙◌}
use mathlib.Core.List.{List}
use Prim.Native.Nat.{ℕ, ◌+◌, ◌-◌, ◌*◌, ◌^◌, ◌≤◌}
use native.Mathlib.Nat.{mul-le-mul, le-mul_of_pos_right, pow-le-pow_left, pow-suc}
use native.Mathlib.Omega.{arith}
use lib.Dec.{T}
use lib.ListN.{length}
use Rattle.whole.specs.Extreme.{Largest}
use Rattle.whole.proofs.Extreme.{Rises}
use Rattle.whole.proofs.Root.{square_is}
use Rattle.whole.proofs.Search.{largest_is}
use Rattle.soil.specs.Velocity.{cube_root, TableOf}
use Rattle.soil.proofs.ByTable.{each_largest, table_of}

cube_is : (s : ℕ) → s ^ 3 ≡ s * s * s
cube_is s = pow-suc s 2 ∙ ap (λ (z : ℕ). z * s) (square_is s)

cubes_rise : Rises (λ v. v ^ 3)
cubes_rise a b h = pow-le-pow_left h 3

module _ (s N : ℕ) (hs : s ≤ 1_000) (hN : N ≤ 50) where
  radicand_most : s * s * s * N ≤ 50_000_000_000
  radicand_most = mul-le-mul (mul-le-mul (mul-le-mul hs hs) hs) hN

  pub cube_root_is : Largest (λ (v : ℕ). v ^ 3 ≤ s ^ 3 * N) (cube_root s N)
  unfolding cube_root
  cube_root_is =
      largest_is (λ v. v ^ 3) cubes_rise (s ^ 3 * N) (omega arith) (omega (arith, ap (λ (z : ℕ). z * N) (cube_is s), radicand_most))

  -- v = s fits where N is 1 or more
  pub cube_root_least : 1 ≤ N → s ≤ cube_root s N
  cube_root_least pos = cube_root_is.largest s (omega (arith, le-mul_of_pos_right (s ^ 3) pos))

pub cube_table : (s least most : ℕ) (vs : List ℕ) → s ≤ 1_000 → most ≤ 50 → length vs ≡ most + 1 - least
    → T (each_largest (λ v. v ^ 3) (λ N. s ^ 3 * N) least vs) → TableOf (cube_root s) least most vs
cube_table s least most vs hs hN size t =
    table_of (λ v. v ^ 3) cubes_rise (λ N. s ^ 3 * N) (cube_root s) least most vs (λ N _ h. cube_root_is s N hs (omega arith)) size t
