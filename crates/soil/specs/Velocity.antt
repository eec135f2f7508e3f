-- The velocity of a layer, in dm/s: each kind with its limits. Equations (3.a) and (3.b).
--   cube_root s N                   the largest whole v with v³ ≤ s³·N (proofs/Cubes.antt)
--   strength_root q                 the largest whole v with v²⁵·100⁹ ≤ 1200²⁵·q⁹ (proofs/Strength.antt): 1200·(q/100)^0.36, rounded
--                                  down, of q in 0.01 kgf/cm²
--   measured v p                    15 at p: v not 500 to 30,000; else v itself
--   by_rule rule least most x p     15 at p: x not from least to most; else what the rule gives for x
--   TableOf rule least most vs      vs are what the rule gives for least to most, as a table holds them
--   from_table least most vs x p    15 at p: x not from least to most; else what stands in vs for x, which is what by_rule gives:
--                                  `by_table` (proofs/ByTable.antt)
--   Tables cs ls qs                cs, ls and qs are the tables of cohesive and of cohesionless soil by N, and of soft clay by q
--   velocity kind value p          kind 1: measured; 2: cohesive, N from 2 to 25, v³ ≤ 1000³·N; 3: cohesionless, N from 1 to
--                                  50, v³ ≤ 800³·N; 4: soft clay, q from 1 to 400; any other kind is 15 at p
--   velocities p ks xs    of all layers, of kinds ks and values xs; the first layer stands at place p
-- ℕ's subtraction stops at 0; no value that passes is below least.
use Rattle.std.specs.Prelude.{◌≡◌, List, [], ◌∷◌, ℕ, ◌+◌, ◌-◌, ◌*◌, ◌^◌, leb, eqb, get_or}
use Rattle.whole.specs.Cells.{cells}
use Rattle.whole.specs.Choice.{pick}
use Rattle.whole.specs.Search.{largest}
use Rattle.limits.specs.Outcome.{Outcome, accepted, refused, ◌>>=◌, ◌>>◌}
use Rattle.limits.specs.Ranges.{within}

unfoldable pub cube_root : ℕ → ℕ → ℕ
cube_root s N = largest (λ v. leb (v ^ 3) (s ^ 3 * N))

unfoldable pub strength_root : ℕ → ℕ
strength_root q = largest (λ v. leb (v ^ 25 * 100 ^ 9) (1_200 ^ 25 * q ^ 9))

unfoldable pub measured : ℕ → ℕ → Outcome ℕ
measured v p = do
  within 500 30_000 v 15 p
  accepted v

unfoldable pub by_rule : (ℕ → ℕ) → ℕ → ℕ → ℕ → ℕ → Outcome ℕ
by_rule rule least most x p = do
  within least most x 15 p
  accepted (rule x)

abbrev pub TableOf : (ℕ → ℕ) → ℕ → ℕ → List ℕ → Type 0
TableOf rule least most vs = vs ≡ cells (λ k. rule (least + k)) (most + 1 - least)

unfoldable pub from_table : ℕ → ℕ → List ℕ → ℕ → ℕ → Outcome ℕ
from_table least most vs x p = do
  within least most x 15 p
  accepted (get_or vs (x - least) 0)

pub record Tables (cs ls qs : List ℕ) : Type 0 where
  pub cohesive : TableOf (cube_root 1_000) 2 25 cs
  pub cohesionless : TableOf (cube_root 800) 1 50 ls
  pub soft_clay : TableOf strength_root 1 400 qs

unfoldable pub velocity : ℕ → ℕ → ℕ → Outcome ℕ
velocity kind value p =
    pick (eqb kind 1) (measured value p)
    (pick (eqb kind 2) (by_rule (cube_root 1_000) 2 25 value p)
    (pick (eqb kind 3) (by_rule (cube_root 800) 1 50 value p)
    (pick (eqb kind 4) (by_rule strength_root 1 400 value p) (refused 15 p))))

unfoldable pub velocities : ℕ → List ℕ → List ℕ → Outcome (List ℕ)
velocities p [] xs = accepted []
velocities p (k ∷ ks) [] = accepted []
velocities p (k ∷ ks) (x ∷ xs) = do
  v ← velocity k x p
  vs ← velocities (p + 1) ks xs
  accepted (v ∷ vs)
