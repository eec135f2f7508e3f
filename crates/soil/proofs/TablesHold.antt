-- The three tables hold their rules where each entry fits and the next whole number does not, and those of the code do.
--   all_largest cs ls qs    `each_largest` of the tables of cohesive soil, of cohesionless soil and of soft clay: one test that the checker
--                          computes over all their entries
-- Assumes nothing.
use mathlib.Core.Path.{◌≡◌, refl}
use mathlib.Core.Bool.{Bool, ◌&&◌}
use mathlib.Core.List.{List}
use Prim.Native.Nat.{ℕ, ◌*◌, ◌^◌}
use native.Mathlib.Omega.{arith}
use lib.Dec.{T}
use lib.ListN.{length}
use mir.Facts.{and_yes}
use Rattle.soil.specs.declared.tables.TheConstants.{COHESIVE, COHESIONLESS, SOFT_CLAY}
use Rattle.soil.specs.Velocity.{Tables}
use Rattle.soil.proofs.ByTable.{each_largest}
use Rattle.soil.proofs.Cubes.{cube_table}
use Rattle.soil.proofs.Strength.{strength_table}

unfoldable pub all_largest : List ℕ → List ℕ → List ℕ → Bool
all_largest cs ls qs =
    each_largest (λ v. v ^ 3) (λ N. 1_000 ^ 3 * N) 2 cs
    && (each_largest (λ v. v ^ 3) (λ N. 800 ^ 3 * N) 1 ls && each_largest (λ v. v ^ 25 * 100 ^ 9) (λ q. 1_200 ^ 25 * q ^ 9) 1 qs)

pub tables_hold : (cs ls qs : List ℕ) → length cs ≡ 24 → length ls ≡ 50 → length qs ≡ 400 → T (all_largest cs ls qs) → Tables cs ls qs
unfolding all_largest
tables_hold cs ls qs hc hl hq t =
    let a = and_yes (each_largest (λ v. v ^ 3) (λ N. 1_000 ^ 3 * N) 2 cs) _ t in
    let b = and_yes (each_largest (λ v. v ^ 3) (λ N. 800 ^ 3 * N) 1 ls) _ a.1 in
    record {
      cohesive = cube_table 1_000 2 25 cs (omega arith) (omega arith) hc a.0;
      cohesionless = cube_table 800 1 50 ls (omega arith) (omega arith) hl b.0;
      soft_clay = strength_table qs hq b.1;
    }

-- those of the code, all entries at once, by computing the test
pub tables : Tables COHESIVE COHESIONLESS SOFT_CLAY
unfolding all_largest each_largest
tables = tables_hold _ _ _ refl refl refl tt
