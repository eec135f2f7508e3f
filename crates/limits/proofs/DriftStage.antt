-- Drift and accidental moments are given the first refusal that applies: 1, 2, 4, 23 and 24 of drift, those of the distribution and 26 of moments.
-- Assumes nothing.
use mathlib.Core.Path.{refl}
use mathlib.Core.List.{List}
use mathlib.Core.Logic.{inl, inr}
use Prim.Native.Nat.{ℕ, ◌+◌}
use native.Mathlib.Omega.{arith}
use lib.Dec.{leb, eqb}
use lib.IntN.{ℤ}
use lib.ListN.{length}
use borrow.Author.Tests.{leb-false, lt-leb, eqb-false, ne_eqb}
use Rattle.limits.specs.Applies.{count, lists, buffer, height, rising, DistributionApplies}
use Rattle.limits.specs.Displacement.{displaced}
use Rattle.limits.specs.DriftLimit.{judged_drift_limit}
use Rattle.limits.specs.DriftApplies.{displacement, limit, DriftApplies, of_height_count, of_drift_lengths, of_drift_heights, of_displacements, of_limit}
use Rattle.limits.specs.DriftApplies.{dimension, MomentsApply, of_distribution, of_dimension}
use Rattle.limits.specs.DriftJudging.{judged_drift, judged_moments}
use Rattle.limits.specs.FirstRefusal.{FirstRefusal}
use Rattle.limits.specs.Judging.{judged_distribution}
use Rattle.limits.specs.Lengths.{same_length, roomy}
use Rattle.limits.specs.Levels.{counted, raised}
use Rattle.limits.specs.Order.{Before}
use Rattle.limits.specs.Outcome.{◌>>◌}
use Rattle.limits.specs.Plan.{judged_dimension}
use Rattle.limits.proofs.DisplacedStage.{displaced_up_to, displaced_stops, displaced_told}
use Rattle.limits.proofs.EachLevel.{raised_up_to, raised_stops}
use Rattle.limits.proofs.First.{first_refusal}
use Rattle.limits.proofs.Foremost.{distribution_up_to, distribution_stops, distribution_told}
use Rattle.limits.proofs.NotAllowed.{range_stops}
use Rattle.limits.proofs.Precedence.{Ahead, Stops, Yields, up_to_yields, first_stops, later_stops, require_yields, require_stops, within_yields}
use Rattle.limits.proofs.Refusing.{raised_told}
use Rattle.limits.proofs.Told.{Told, then_told, require_told, within_told, told_as}

-- ---- drift
module _ (hs : List ℕ) (zs : List ℤ) (m room : ℕ) where
  abbrev D : ℕ → ℕ → Type 0
  D = DriftApplies hs zs m room

  counted_yields : (n q : ℕ) → Before 1 n → Yields n q (counted (length hs))
  counted_yields n q h = within_yields n q 1 50 (length hs) 1 0 (inl h)

  lists_yield : (n q : ℕ) → Ahead n q 2 0 → Yields n q (same_length (length hs) (length zs))
  lists_yield n q a = require_yields n q (eqb (length zs) (length hs)) 2 0 a

  -- after 1 and 2
  later : (n q : ℕ) → Before 2 n → Stops n q (raised 0 1 hs >> (displaced 1 zs >> judged_drift_limit m)) → Stops n q (judged_drift hs zs m room)
  unfolding judged_drift
  later n q h t =
      later_stops n q (counted (length hs)) _ (counted_yields n q (omega arith))
      (λ _. later_stops n q (same_length (length hs) (length zs)) _ (lists_yield n q (inl h))
      (λ _. later_stops n q (roomy (length hs) room) _ (require_yields n q (leb (length hs) room) 2 0 (inl h)) (λ _. t)))

  drift_stops : (n q : ℕ) → D n q → Stops n q (judged_drift hs zs m room)
  unfolding judged_drift
  drift_stops n q (of_height_count (count o)) =
      first_stops 1 0 (counted (length hs)) _ (range_stops 1 0 1 50 (length hs) 1 0 o (inr (refl, inl refl)))
  drift_stops n q (of_drift_lengths (lists o)) =
      later_stops 2 0 (counted (length hs)) _ (counted_yields 2 0 (omega arith))
      (λ _. first_stops 2 0 (same_length (length hs) (length zs)) _
      (require_stops 2 0 (eqb (length zs) (length hs)) 2 0 (ne_eqb _ _ o) (inr (refl, inl refl))))
  drift_stops n q (of_drift_lengths (buffer o)) =
      later_stops 2 0 (counted (length hs)) _ (counted_yields 2 0 (omega arith))
      (λ _. later_stops 2 0 (same_length (length hs) (length zs)) _ (lists_yield 2 0 (inr (refl, inl refl)))
      (λ _. first_stops 2 0 (roomy (length hs) room) _
      (require_stops 2 0 (leb (length hs) room) 2 0 (lt-leb _ _ o) (inr (refl, inl refl)))))
  drift_stops n q (of_drift_heights (height x l o)) =
      later 4 (1 + x) (omega arith) (first_stops 4 (1 + x) (raised 0 1 hs) _ (raised_stops (1 + x) 0 1 hs x (omega arith) refl l (inl o)))
  drift_stops n q (of_drift_heights (rising x l o)) =
      later 4 (1 + x) (omega arith) (first_stops 4 (1 + x) (raised 0 1 hs) _ (raised_stops (1 + x) 0 1 hs x (omega arith) refl l (inr o)))
  drift_stops n q (of_displacements (displacement x l o)) =
      later 23 (1 + x) (omega arith)
      (later_stops 23 (1 + x) (raised 0 1 hs) _ (up_to_yields 4 23 (1 + x) (raised 0 1 hs) (raised_up_to 0 1 hs) (omega arith))
      (λ _. first_stops 23 (1 + x) (displaced 1 zs) _ (displaced_stops (1 + x) 1 zs x (omega arith) refl l o)))
  drift_stops n q (of_limit (limit o)) =
      later 24 0 (omega arith)
      (later_stops 24 0 (raised 0 1 hs) _ (up_to_yields 4 24 0 (raised 0 1 hs) (raised_up_to 0 1 hs) (omega arith))
      (λ _. later_stops 24 0 (displaced 1 zs) _ (up_to_yields 23 24 0 (displaced 1 zs) (displaced_up_to 23 (omega arith) 1 zs) (omega arith))
      (λ _. range_stops 24 0 1 10_000 m 24 0 o (inr (refl, inl refl)))))

  drift_told : Told D (judged_drift hs zs m room)
  unfolding judged_drift
  drift_told =
      then_told D (counted (length hs)) _ (within_told D 1 50 (length hs) 1 0 (λ o. of_height_count (count o)))
      (λ _. then_told D (same_length (length hs) (length zs)) _
      (require_told D (eqb (length zs) (length hs)) 2 0 (λ e. of_drift_lengths (lists (eqb-false _ _ e))))
      (λ _. then_told D (roomy (length hs) room) _
      (require_told D (leb (length hs) room) 2 0 (λ e. of_drift_lengths (buffer (leb-false _ _ e))))
      (λ _. then_told D (raised 0 1 hs) _
      (raised_told D 0 1 hs (λ x l o. of_drift_heights (height x l o)) (λ x l o. of_drift_heights (rising x l o)))
      (λ _. then_told D (displaced 1 zs) _
      (displaced_told D 1 zs (λ x l o. of_displacements (displacement x l o)))
      (λ _. within_told D 1 10_000 m 24 0 (λ o. of_limit (limit o)))))))

  pub drift_first : FirstRefusal D (judged_drift hs zs m room)
  drift_first = first_refusal D (judged_drift hs zs m room) drift_stops drift_told

-- ---- accidental moments
module _ (v t : ℕ) (ws hs : List ℕ) (d room : ℕ) where
  abbrev M : ℕ → ℕ → Type 0
  M = MomentsApply v t ws hs d room

  moments_stop : (n q : ℕ) → M n q → Stops n q (judged_moments v t ws hs d room)
  unfolding judged_moments
  moments_stop n q (of_distribution a) =
      first_stops n q (judged_distribution v t ws hs room) (judged_dimension d) (distribution_stops v t ws hs room n q a)
  moments_stop n q (of_dimension (dimension o)) =
      later_stops 26 0 (judged_distribution v t ws hs room) (judged_dimension d)
      (up_to_yields 20 26 0 (judged_distribution v t ws hs room) (distribution_up_to v t ws hs room) (omega arith))
      (λ _. range_stops 26 0 1 5_000 d 26 0 o (inr (refl, inl refl)))

  moments_told : Told M (judged_moments v t ws hs d room)
  unfolding judged_moments
  moments_told =
      then_told M (judged_distribution v t ws hs room) (judged_dimension d)
      (told_as (DistributionApplies v t ws hs room) M (λ n p. of_distribution) (judged_distribution v t ws hs room) (distribution_told v t ws hs room))
      (λ _. within_told M 1 5_000 d 26 0 (λ o. of_dimension (dimension o)))

  pub moments_first : FirstRefusal M (judged_moments v t ws hs d room)
  moments_first = first_refusal M (judged_moments v t ws hs d room) moments_stop moments_told
