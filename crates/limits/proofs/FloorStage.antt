-- A floor is given the first refusal that applies: 23, then 25.
-- Assumes nothing.
use mathlib.Core.Path.{refl}
use mathlib.Core.Logic.{inl, inr, ⊎_elim}
use Prim.Native.Nat.{ℕ, ◌<◌}
use native.Mathlib.Omega.{arith}
use Rattle.limits.specs.Applies.{OutOf}
use Rattle.limits.specs.DriftApplies.{FloorApplies, largest, average, no_average, above_largest}
use Rattle.limits.specs.FirstRefusal.{FirstRefusal}
use Rattle.limits.specs.Floor.{judged_unsigned, judged_floor}
use Rattle.limits.proofs.First.{first_refusal}
use Rattle.limits.proofs.NotAllowed.{range_stops}
use Rattle.limits.proofs.Precedence.{Stops, first_stops, later_stops, within_yields}
use Rattle.limits.proofs.Told.{Told, then_told, within_told}

over_most : (x : ℕ) → OutOf 0 1_000_000 x → 1_000_000 < x
over_most x o = ⊎_elim (λ h. absurd (omega arith)) (λ h. h) o

module _ (l a : ℕ) where
  abbrev F : ℕ → ℕ → Type 0
  F = FloorApplies l a

  average_stops : OutOf 1 l a → Stops 25 0 (judged_floor l a)
  unfolding judged_floor
  average_stops o =
      later_stops 25 0 (judged_unsigned l) _ (within_yields 25 0 0 1_000_000 l 23 0 (inl (omega arith)))
      (λ _. later_stops 25 0 (judged_unsigned a) _ (within_yields 25 0 0 1_000_000 a 23 0 (inl (omega arith)))
      (λ _. range_stops 25 0 1 l a 25 0 o (inr (refl, inl refl))))

  floor_stops : (n q : ℕ) → F n q → Stops n q (judged_floor l a)
  unfolding judged_floor
  floor_stops n q (largest o) =
      first_stops 23 0 (judged_unsigned l) _ (range_stops 23 0 0 1_000_000 l 23 0 (inr o) (inr (refl, inl refl)))
  floor_stops n q (average o) =
      later_stops 23 0 (judged_unsigned l) _ (within_yields 23 0 0 1_000_000 l 23 0 (inr (refl, inl refl)))
      (λ _. first_stops 23 0 (judged_unsigned a) _ (range_stops 23 0 0 1_000_000 a 23 0 (inr o) (inr (refl, inl refl))))
  floor_stops n q (no_average e) = average_stops (inl (omega (arith, e)))
  floor_stops n q (above_largest o) = average_stops (inr o)

  floor_told : Told F (judged_floor l a)
  unfolding judged_floor
  floor_told =
      then_told F (judged_unsigned l) _ (within_told F 0 1_000_000 l 23 0 (λ o. largest (over_most l o)))
      (λ _. then_told F (judged_unsigned a) _ (within_told F 0 1_000_000 a 23 0 (λ o. average (over_most a o)))
      (λ _. within_told F 1 l a 25 0 (λ o. ⊎_elim (λ h. no_average (omega arith)) above_largest o)))

  pub floor_first : FirstRefusal F (judged_floor l a)
  floor_first = first_refusal F (judged_floor l a) floor_stops floor_told
