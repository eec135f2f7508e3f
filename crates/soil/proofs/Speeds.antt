-- A layer's velocity is above 0, so that no time is a quotient by 0; there are as many velocities as layers.
--   Positive vs    every velocity of the list is above 0
-- Assumes nothing.
use mathlib.Core.Path.{◌≡◌, sym, ap, subst}
use mathlib.Core.List.{List, [], ◌∷◌}
use Prim.Native.Nat.{ℕ, ◌+◌, ◌≤◌, ◌<◌}
use native.Mathlib.Omega.{arith}
use lib.Dec.{eqb}
use lib.ListN.{length}
use Rattle.whole.proofs.Choice.{by_test}
use Rattle.limits.specs.Outcome.{Outcome, accepted}
use Rattle.limits.specs.Ranges.{within}
use Rattle.soil.specs.Velocity.{cube_root, strength_root, measured, by_rule, velocity, velocities}
use Rattle.soil.proofs.Cubes.{cube_root_least}
use Rattle.soil.proofs.Strength.{strength_positive}
use Rattle.limits.proofs.Passed.{never, one_value, then_passed, bind_passed, within_passed}

abbrev pub Positive : List ℕ → Type 0
Positive [] = Unit {0}
Positive (v ∷ vs) = (0 < v) × Positive vs

measured_positive : (x p v : ℕ) → measured x p ≡ accepted v → 0 < v
unfolding measured
measured_positive x p v e =
    let s = then_passed (within 500 30_000 x 15 p) (accepted x) e in
    omega (arith, (within_passed 500 30_000 x 15 p s.0).0, one_value s.1)

rule_positive : (rule : ℕ → ℕ) (least most x p v : ℕ) → (least ≤ x → x ≤ most → 0 < rule x)
    → by_rule rule least most x p ≡ accepted v → 0 < v
unfolding by_rule
rule_positive rule least most x p v above e =
    let q = then_passed (within least most x 15 p) (accepted (rule x)) e in
    let w = within_passed least most x 15 p q.0 in
    subst (λ (n : ℕ). 0 < n) (one_value q.1) (above w.0 w.1)

pub velocity_positive : (k x p v : ℕ) → velocity k x p ≡ accepted v → 0 < v
unfolding velocity
velocity_positive k x p v =
    by_test P (eqb k 1) _ _ (λ _. measured_positive x p v)
    (λ _. by_test P (eqb k 2) _ _
    (λ _. rule_positive (cube_root 1_000) 2 25 x p v (λ lo hi. omega (arith, cube_root_least 1_000 x (omega arith) (omega arith) (omega arith))))
    (λ _. by_test P (eqb k 3) _ _
    (λ _. rule_positive (cube_root 800) 1 50 x p v (λ lo hi. omega (arith, cube_root_least 800 x (omega arith) (omega arith) (omega arith))))
    (λ _. by_test P (eqb k 4) _ _ (λ _. rule_positive strength_root 1 400 x p v (strength_positive x))
    (λ _. λ e. absurd (never e)))))
  where
    P : Outcome ℕ → Type 0
    P o = o ≡ accepted v → 0 < v

pub velocities_positive : (p : ℕ) (ks xs vs : List ℕ) → velocities p ks xs ≡ accepted vs → Positive vs
unfolding velocities
velocities_positive p [] xs vs e = subst Positive (one_value e) tt
velocities_positive p (k ∷ ks) [] vs e = subst Positive (one_value e) tt
velocities_positive p (k ∷ ks) (x ∷ xs) vs e =
    let a = bind_passed (velocity k x p) _ e in
    let b = bind_passed (velocities (p + 1) ks xs) _ a.2 in
    subst Positive (one_value b.2)
    (omega (arith, velocity_positive k x p a.0 a.1), velocities_positive (p + 1) ks xs b.0 b.1)

pub velocities_length : (p : ℕ) (ks xs vs : List ℕ) → length xs ≡ length ks → velocities p ks xs ≡ accepted vs
    → length vs ≡ length ks
unfolding velocities
velocities_length p [] xs vs h e = ap length (sym (one_value e))
velocities_length p (k ∷ ks) [] vs h e = absurd (omega arith)
velocities_length p (k ∷ ks) (x ∷ xs) vs h e =
    let a = bind_passed (velocity k x p) _ e in
    let b = bind_passed (velocities (p + 1) ks xs) _ a.2 in
    omega (arith, ap length (one_value b.2), velocities_length (p + 1) ks xs b.0 (omega arith) b.1)
