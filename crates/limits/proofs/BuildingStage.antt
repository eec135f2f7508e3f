-- The building of the shear call, numbers 3 and 4: where one of them applies, its judgment is that refusal or one that comes no later; and a
-- refusal that is given applies.
-- Assumes nothing.
use mathlib.Core.Path.{refl}
use mathlib.Core.Logic.{inl, inr}
use Prim.Native.Nat.{ℕ}
use native.Mathlib.Omega.{arith}
use Rattle.limits.specs.Applies.{BuildingApplies, total, top}
use Rattle.limits.specs.Building.{judged_total, judged_top, judged_building}
use Rattle.limits.proofs.Told.{Told, then_told, within_told}
use Rattle.limits.proofs.NotAllowed.{range_stops}
use Rattle.limits.proofs.Precedence.{Stops, UpTo, both_up_to, within_up_to, first_stops, later_stops, within_yields}

module _ (W h : ℕ) where
  pub building_up_to : UpTo 4 (judged_building W h)
  unfolding judged_building
  building_up_to =
      both_up_to 4 (judged_total W) (judged_top h) (within_up_to 4 1 1_000_000 W 3 0 (omega arith)) (within_up_to 4 1 2_000 h 4 0 (omega arith))

  pub building_stops : (n q : ℕ) → BuildingApplies W h n q → Stops n q (judged_building W h)
  unfolding judged_building
  building_stops n q (total o) =
      first_stops 3 0 (judged_total W) (judged_top h) (range_stops 3 0 1 1_000_000 W 3 0 o (inr (refl, inl refl)))
  building_stops n q (top o) =
      later_stops 4 0 (judged_total W) (judged_top h) (within_yields 4 0 1 1_000_000 W 3 0 (inl (omega arith)))
      (λ _. range_stops 4 0 1 2_000 h 4 0 o (inr (refl, inl refl)))

  pub building_told : Told (BuildingApplies W h) (judged_building W h)
  unfolding judged_building
  building_told =
      let B = BuildingApplies W h in
      then_told B (judged_total W) (judged_top h) (within_told B 1 1_000_000 W 3 0 total) (λ _. within_told B 1 2_000 h 4 0 top)
