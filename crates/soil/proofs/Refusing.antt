-- A refusal that is given to a log does apply.
-- Assumes nothing.
use mathlib.Core.Path.{◌≡◌, subst}
use mathlib.Core.Bool.{true, not}
use mathlib.Core.List.{List, [], ◌∷◌}
use mathlib.Core.Logic.{◌⊎◌, inl, inr, ⊎_elim}
use Prim.Native.Nat.{ℕ, suc, ◌+◌, ◌<◌}
use native.Mathlib.Nat.{add-zero}
use native.Mathlib.Omega.{arith}
use lib.Dec.{eqb}
use lib.ListN.{length, get_or}
use borrow.Author.Tests.{eqb-true, eqb-false, not-false}
use Rattle.whole.proofs.Choice.{by_test}
use Rattle.limits.specs.Lengths.{same_length}
use Rattle.limits.specs.Outcome.{accepted, require, ◌>>=◌, ◌>>◌}
use Rattle.limits.specs.Ranges.{within}
use Rattle.soil.specs.declared.class.ClassLimits.{ClassLimits}
use Rattle.soil.specs.Applies.{Allowed, measured, cohesive, cohesionless, soft_clay, Applies, lists, layers, thickness, depth, layer}
use Rattle.soil.specs.Log.{counted, thick, deep, judged_log, site_class}
use Rattle.soil.specs.Times.{judged_times, times}
use Rattle.soil.specs.Velocity.{measured as measured_at, by_rule, velocity, velocities}
use Rattle.limits.proofs.Told.{Told, then_told, bind_told, require_told, within_told}
use Rattle.soil.proofs.Sound.{log_sound}

-- a kind and value that miss each range of their kind are not allowed
wrong : (k x : ℕ) → (k ≡ 1 → (x < 500) ⊎ (30_000 < x)) → (k ≡ 2 → (x < 2) ⊎ (25 < x)) → (k ≡ 3 → (x < 1) ⊎ (50 < x))
    → (k ≡ 4 → (x < 1) ⊎ (400 < x)) → Allowed k x → ⊥
wrong k x f g h i (measured e lo hi) = ⊎_elim (λ l. omega arith) (λ l. omega arith) (f e)
wrong k x f g h i (cohesive e lo hi) = ⊎_elim (λ l. omega arith) (λ l. omega arith) (g e)
wrong k x f g h i (cohesionless e lo hi) = ⊎_elim (λ l. omega arith) (λ l. omega arith) (h e)
wrong k x f g h i (soft_clay e lo hi) = ⊎_elim (λ l. omega arith) (λ l. omega arith) (i e)

module _ (ds ks xs : List ℕ) where
  abbrev A : ℕ → ℕ → Type 0
  A = Applies ds ks xs

  thick_told : (p : ℕ) (es : List ℕ) → ((j : ℕ) → j < length es → get_or es j 0 ≡ 0 → A 14 (p + j))
      → Told A (thick p es)
  unfolding thick
  thick_told p [] f = tt
  thick_told p (e ∷ es) f =
      then_told A (require (not (eqb e 0)) 14 p) (thick (p + 1) es)
      (require_told A _ 14 p (λ t. subst (A 14) (add-zero p) (f 0 (omega arith) (eqb-true e 0 (not-false _ t)))))
      (λ _. thick_told (p + 1) es (λ j h z. subst (A 14) (next j) (f (suc j) (omega arith) z)))
    where
      next : (j : ℕ) → p + suc j ≡ p + 1 + j
      next j = omega arith

  -- ---- the layers
  module _ (k x p : ℕ) (f : (Allowed k x → ⊥) → A 15 p) where
    ranged : (least most v : ℕ) → ((x < least) ⊎ (most < x) → Allowed k x → ⊥) → Told A (within least most x 15 p >> accepted v)
    ranged least most v g = then_told A (within least most x 15 p) (accepted v) (within_told A least most x 15 p (λ o. f (g o))) (λ _. tt)

    -- k is not two kinds at once
    other : {B : Type 0} {a b : ℕ} → (a ≡ b → ⊥) → eqb k a ≡ true → k ≡ b → B
    other {B} {a} {b} n e h = let one = eqb-true k a e in absurd (n (omega arith))

    velocity_told : Told A (velocity k x p)
    unfolding velocity measured_at by_rule
    velocity_told =
        by_test (Told A) (eqb k 1) _ _
        (λ e. ranged 500 30_000 x (λ o. wrong k x (λ h. o) (other (λ z. omega arith) e) (other (λ z. omega arith) e) (other (λ z. omega arith) e)))
        (λ e₁. by_test (Told A) (eqb k 2) _ _
        (λ e. ranged 2 25 _ (λ o. wrong k x (other (λ z. omega arith) e) (λ h. o) (other (λ z. omega arith) e) (other (λ z. omega arith) e)))
        (λ e₂. by_test (Told A) (eqb k 3) _ _
        (λ e. ranged 1 50 _ (λ o. wrong k x (other (λ z. omega arith) e) (other (λ z. omega arith) e) (λ h. o) (other (λ z. omega arith) e)))
        (λ e₃. by_test (Told A) (eqb k 4) _ _
        (λ e. ranged 1 400 _ (λ o. wrong k x (other (λ z. omega arith) e) (other (λ z. omega arith) e) (other (λ z. omega arith) e) (λ h. o)))
        (λ e₄. f (wrong k x (λ h. absurd (eqb-false k 1 e₁ h)) (λ h. absurd (eqb-false k 2 e₂ h)) (λ h. absurd (eqb-false k 3 e₃ h))
        (λ h. absurd (eqb-false k 4 e₄ h)))))))

  velocities_told : (p : ℕ) (ls ys : List ℕ)
      → ((j : ℕ) → j < length ls → (Allowed (get_or ls j 0) (get_or ys j 0) → ⊥) → A 15 (p + j))
      → Told A (velocities p ls ys)
  unfolding velocities
  velocities_told p [] ys f = tt
  velocities_told p (k ∷ ls) [] f = tt
  velocities_told p (k ∷ ls) (x ∷ ys) f =
      bind_told A (velocity k x p) _
      (velocity_told k x p (λ w. subst (A 15) (add-zero p) (f 0 (omega arith) w)))
      (λ v. bind_told A (velocities (p + 1) ls ys) _
      (velocities_told (p + 1) ls ys (λ j h w. subst (A 15) (next j) (f (suc j) (omega arith) w)))
      (λ vs. tt))
    where
      next : (j : ℕ) → p + suc j ≡ p + 1 + j
      next j = omega arith

  -- ---- all stages
  log_told : Told A (judged_log ds (length ks) (length xs))
  unfolding judged_log deep
  log_told =
      then_told A (same_length (length ds) (length ks)) _ (require_told A _ 2 0 (λ e. lists (λ s. eqb-false _ _ e s.0)))
      (λ _. then_told A (same_length (length ds) (length xs)) _ (require_told A _ 2 0 (λ e. lists (λ s. eqb-false _ _ e s.1)))
      (λ _. then_told A (counted (length ds)) _ (within_told A 1 40 (length ds) 13 0 (λ o. layers (⊎_elim (λ l. inl (omega arith)) inr o)))
      (λ _. then_told A (thick 1 ds) _ (thick_told 1 ds thickness)
      (λ _. require_told A _ 14 0 (λ e. depth (eqb-false _ _ e))))))

  pub class_told : (l : ClassLimits) → Told A (site_class l ds ks xs)
  unfolding site_class judged_times
  class_told l =
      then_told A (judged_log ds (length ks) (length xs)) _ log_told
      (λ e. let s = log_sound ds (length ks) (length xs) e in
      bind_told A (velocities 1 ks xs >>= λ vs. accepted (times ds vs)) _
      (bind_told A (velocities 1 ks xs) _ (velocities_told 1 ks xs (λ j h. layer j (omega arith))) (λ vs. tt))
      (λ t. tt))
