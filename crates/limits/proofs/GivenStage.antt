-- Ground and frame after any first judgment o of numbers up to 4, which F says when it refuses: the whole gives the first refusal that applies.
-- Assumes nothing.
use Prim.Native.Nat.{ℕ}
use native.Mathlib.Omega.{arith}
use Rattle.limits.specs.declared.frame.FrameValues.{FrameValues}
use Rattle.limits.specs.declared.ground.GroundValues.{GroundValues}
use Rattle.limits.specs.Applies.{GroundApplies, FrameApplies, GivenApplies, of_first, of_ground, of_frame}
use Rattle.limits.specs.FirstRefusal.{FirstRefusal}
use Rattle.limits.specs.Frame.{judged_frame}
use Rattle.limits.specs.Ground.{judged_ground}
use Rattle.limits.specs.Judging.{judged_given}
use Rattle.limits.specs.Outcome.{Outcome, Done}
use Rattle.limits.proofs.First.{first_refusal}
use Rattle.limits.proofs.FrameStage.{frame_stops, frame_later}
use Rattle.limits.proofs.GroundStage.{ground_up_to, ground_stops, ground_later}
use Rattle.limits.proofs.Precedence.{Stops, UpTo, up_to_yields, first_stops, later_stops, bound_stops, value_stops}
use Rattle.limits.proofs.Refusing.{ground_told, frame_told}
use Rattle.limits.proofs.Told.{Told, then_told, bind_told, told_as}

module _
    (F : ℕ → ℕ → Type 0) (o : Outcome Done) (before : UpTo 4 o) (first-stop : (n q : ℕ) → F n q → Stops n q o) (first-told : Told F o)
    (G : GroundValues) (f : FrameValues)
  where
    abbrev A : ℕ → ℕ → Type 0
    A = GivenApplies F G f

    stops : (n q : ℕ) → A n q → Stops n q (judged_given o G f)
    stops n q (of_first a) = first_stops n q o _ (first-stop n q a)
    stops n q (of_ground a) =
        later_stops n q o _ (up_to_yields 4 n q o before (ground_later G n q a))
        (λ _. bound_stops n q (judged_ground G) _ (ground_stops G n q a))
    stops n q (of_frame a) =
        let after = frame_later f n q a in
        later_stops n q o _ (up_to_yields 4 n q o before (omega (arith, after)))
        (λ _. value_stops n q (judged_ground G) _ (up_to_yields 7 n q (judged_ground G) (ground_up_to G) after)
        (λ ground. bound_stops n q (judged_frame f) _ (frame_stops f n q a)))

    told : Told A (judged_given o G f)
    told =
        then_told A o _ (told_as F A (λ n p. of_first) o first-told)
        (λ _. bind_told A (judged_ground G) _ (told_as (GroundApplies G) A (λ n p. of_ground) (judged_ground G) (ground_told G))
        (λ _. bind_told A (judged_frame f) _ (told_as (FrameApplies f) A (λ n p. of_frame) (judged_frame f) (frame_told f)) (λ _. tt)))

    pub given_first : FirstRefusal A (judged_given o G f)
    given_first = first_refusal A (judged_given o G f) stops told
