-- The frame of a job, numbers 8 to 12: where one of them applies, the judgment of the frame is that refusal or one that comes no later.
-- Assumes nothing.
use mathlib.Core.Path.{◌≡◌, refl}
use mathlib.Core.List.{[], ◌∷◌}
use mathlib.Core.Logic.{inl, inr}
use Prim.Native.Nat.{ℕ}
use native.Mathlib.Omega.{arith}
use lib.Dec.{eqb}
use borrow.Author.Tests.{ne_eqb}
use Rattle.whole.proofs.Choice.{by_test}
use Rattle.limits.specs.declared.frame.FrameValues.{FrameValues}
use Rattle.limits.specs.Applies.{OutOf, NotListed, FrameApplies, r, i, alpha, kind, period}
use Rattle.limits.specs.Kind.{judged_kind}
use Rattle.limits.specs.Frame.{judged_period, judged_frame}
use Rattle.limits.specs.Order.{Before}
use Rattle.limits.specs.Ranges.{within, listed}
use Rattle.limits.proofs.Precedence.{Stops, Yields, UpTo, up_to_yields, first_stops, later_stops, bound_stops, value_stops, within_yields}
use Rattle.limits.proofs.NotAllowed.{range_stops, listed_yields, listed_stops}

module _ (f : FrameValues) where
  r_yields : (n q : ℕ) → Before 8 n → Yields n q (within 100 600 f.r 8 0)
  r_yields n q h = within_yields n q 100 600 f.r 8 0 (inl h)

  i_yields : (n q : ℕ) → Before 9 n → Yields n q (listed (100 ∷ 125 ∷ 150 ∷ []) f.i 9 0)
  i_yields n q h = listed_yields n q _ f.i 9 0 (inl h)

  alpha_yields : (n q : ℕ) → Before 10 n → Yields n q (within 100 200 f.alpha 10 0)
  alpha_yields n q h = within_yields n q 100 200 f.alpha 10 0 (inl h)

  kind_up_to : UpTo 11 (judged_kind f.kind)
  unfolding judged_kind
  kind_up_to =
      by_test (UpTo 11) (eqb f.kind 1) _ _ (λ _. tt)
      (λ _. by_test (UpTo 11) (eqb f.kind 2) _ _ (λ _. tt)
      (λ _. by_test (UpTo 11) (eqb f.kind 3) _ _ (λ _. tt)
      (λ _. by_test (UpTo 11) (eqb f.kind 4) _ _ (λ _. tt) (λ _. omega arith))))

  r_stops : OutOf 100 600 f.r → Stops 8 0 (judged_frame f)
  unfolding judged_frame
  r_stops o =
      first_stops 8 0 (within 100 600 f.r 8 0) _ (range_stops 8 0 100 600 f.r 8 0 o (inr (refl, inl refl)))

  i_stops : NotListed (100 ∷ 125 ∷ 150 ∷ []) f.i → Stops 9 0 (judged_frame f)
  unfolding judged_frame
  i_stops o =
      later_stops 9 0 (within 100 600 f.r 8 0) _ (r_yields 9 0 (omega arith))
      (λ _. first_stops 9 0 (listed (100 ∷ 125 ∷ 150 ∷ []) f.i 9 0) _ (listed_stops 9 0 _ f.i 9 0 o (inr (refl, inl refl))))

  alpha_stops : OutOf 100 200 f.alpha → Stops 10 0 (judged_frame f)
  unfolding judged_frame
  alpha_stops o =
      later_stops 10 0 (within 100 600 f.r 8 0) _ (r_yields 10 0 (omega arith))
      (λ _. later_stops 10 0 (listed (100 ∷ 125 ∷ 150 ∷ []) f.i 9 0) _ (i_yields 10 0 (omega arith))
      (λ _. first_stops 10 0 (within 100 200 f.alpha 10 0) _ (range_stops 10 0 100 200 f.alpha 10 0 o (inr (refl, inl refl)))))

  kind_stops : NotListed (1 ∷ 2 ∷ 3 ∷ 4 ∷ []) f.kind → Stops 11 0 (judged_frame f)
  unfolding judged_frame judged_kind
  kind_stops o =
      later_stops 11 0 (within 100 600 f.r 8 0) _ (r_yields 11 0 (omega arith))
      (λ _. later_stops 11 0 (listed (100 ∷ 125 ∷ 150 ∷ []) f.i 9 0) _ (i_yields 11 0 (omega arith))
      (λ _. later_stops 11 0 (within 100 200 f.alpha 10 0) _ (alpha_yields 11 0 (omega arith))
      (λ _. bound_stops 11 0 (judged_kind f.kind) _
      (rw
      (ne_eqb f.kind 1 o.0, ne_eqb f.kind 2 o.1.0, ne_eqb f.kind 3 o.1.1.0, ne_eqb f.kind 4 o.1.1.1.0)
      (inr (refl, inl refl))))))

  period_stops : (f.calculated ≡ 0 → ⊥) → OutOf 1 60_000 f.calculated → Stops 12 0 (judged_frame f)
  unfolding judged_frame judged_period
  period_stops z o =
      later_stops 12 0 (within 100 600 f.r 8 0) _ (r_yields 12 0 (omega arith))
      (λ _. later_stops 12 0 (listed (100 ∷ 125 ∷ 150 ∷ []) f.i 9 0) _ (i_yields 12 0 (omega arith))
      (λ _. later_stops 12 0 (within 100 200 f.alpha 10 0) _ (alpha_yields 12 0 (omega arith))
      (λ _. value_stops 12 0 (judged_kind f.kind) _ (up_to_yields 11 12 0 (judged_kind f.kind) kind_up_to (omega arith))
      (λ k. first_stops 12 0 (judged_period f.calculated) _
      (rw (ne_eqb f.calculated 0 z) (range_stops 12 0 1 60_000 f.calculated 12 0 o (inr (refl, inl refl))))))))

  -- where one applies, and which numbers they are
  pub frame_stops : (n q : ℕ) → FrameApplies f n q → Stops n q (judged_frame f)
  frame_stops n q (r o) = r_stops o
  frame_stops n q (i o) = i_stops o
  frame_stops n q (alpha o) = alpha_stops o
  frame_stops n q (kind o) = kind_stops o
  frame_stops n q (period z o) = period_stops z o

  pub frame_later : (n q : ℕ) → FrameApplies f n q → Before 7 n
  frame_later n q (r o) = omega arith
  frame_later n q (i o) = omega arith
  frame_later n q (alpha o) = omega arith
  frame_later n q (kind o) = omega arith
  frame_later n q (period z o) = omega arith
