-- What is handed to the distribution, numbers 19 and 20: where one of them applies, its judgment is that refusal or one that comes no later;
-- and a refusal that is given applies.
-- Assumes nothing.
use mathlib.Core.Path.{refl}
use mathlib.Core.Logic.{inl, inr}
use Prim.Native.Nat.{ℕ}
use native.Mathlib.Omega.{arith}
use Rattle.limits.specs.Applies.{HandedApplies, base_shear, handed_period}
use Rattle.limits.specs.Handed.{judged_base_shear, judged_handed_period, judged_handed}
use Rattle.limits.specs.Order.{Before}
use Rattle.limits.proofs.Told.{Told, then_told, within_told}
use Rattle.limits.proofs.NotAllowed.{range_stops}
use Rattle.limits.proofs.Precedence.{Stops, UpTo, both_up_to, within_up_to, first_stops, later_stops, within_yields}

module _ (v t : ℕ) where
  pub handed_later : (n q : ℕ) → HandedApplies v t n q → Before 4 n
  handed_later n q (base_shear o) = omega arith
  handed_later n q (handed_period o) = omega arith

  pub handed_up_to : UpTo 20 (judged_handed v t)
  unfolding judged_handed
  handed_up_to =
      both_up_to 20 (judged_base_shear v) (judged_handed_period t) (within_up_to 20 1 1_200_000_000 v 19 0 (omega arith))
      (within_up_to 20 0 9_999 t 20 0 (omega arith))

  pub handed_stops : (n q : ℕ) → HandedApplies v t n q → Stops n q (judged_handed v t)
  unfolding judged_handed
  handed_stops n q (base_shear o) =
      first_stops 19 0 (judged_base_shear v) (judged_handed_period t) (range_stops 19 0 1 1_200_000_000 v 19 0 o (inr (refl, inl refl)))
  handed_stops n q (handed_period o) =
      later_stops 20 0 (judged_base_shear v) (judged_handed_period t) (within_yields 20 0 1 1_200_000_000 v 19 0 (inl (omega arith)))
      (λ _. range_stops 20 0 0 9_999 t 20 0 o (inr (refl, inl refl)))

  pub handed_told : Told (HandedApplies v t) (judged_handed v t)
  unfolding judged_handed
  handed_told =
      let H = HandedApplies v t in
      then_told H (judged_base_shear v) (judged_handed_period t) (within_told H 1 1_200_000_000 v 19 0 base_shear) (λ _. within_told H 0 9_999 t 20 0 handed_period)
