-- The levels of a job, numbers 1 to 4: where one of them applies, the judgment of the levels is that refusal or one that comes no later.
-- Assumes nothing.
use mathlib.Core.Path.{◌≡◌, refl}
use mathlib.Core.List.{List}
use mathlib.Core.Logic.{◌⊎◌, inl, inr}
use Prim.Native.Nat.{ℕ, ◌+◌, ◌≤◌, ◌<◌}
use native.Mathlib.Omega.{arith}
use lib.Dec.{leb, eqb}
use lib.ListN.{length, get_or}
use borrow.Author.Tests.{ne_eqb, lt-leb}
use Rattle.whole.specs.Cells.{below}
use Rattle.limits.specs.Applies.{OutOf, count, lists, buffer, weight, height, rising, LevelsApply, of_count, of_lengths, of_weights, of_heights}
use Rattle.limits.specs.Lengths.{same_length, roomy}
use Rattle.limits.specs.Levels.{counted, weighed, raised, judged_levels}
use Rattle.limits.specs.Order.{Before}
use Rattle.limits.specs.Outcome.{◌>>◌}
use Rattle.limits.proofs.Precedence.{Ahead, Stops, Yields, UpTo, up_to_yields, both_up_to, require_up_to, within_up_to, first_stops, later_stops, require_yields, require_stops, within_yields}
use Rattle.limits.proofs.EachLevel.{weighed_up_to, raised_up_to, weighed_stops, raised_stops}
use Rattle.limits.proofs.NotAllowed.{range_stops}

module _ (ws hs : List ℕ) (room : ℕ) where
  pub levels_up_to : UpTo 4 (judged_levels ws hs room)
  unfolding judged_levels
  levels_up_to =
      both_up_to 4 (counted (length ws)) _ (within_up_to 4 1 50 (length ws) 1 0 (omega arith))
      (both_up_to 4 (same_length (length ws) (length hs)) _ (require_up_to 4 (eqb (length hs) (length ws)) 2 0 (omega arith))
      (both_up_to 4 (roomy (length ws) room) _ (require_up_to 4 (leb (length ws) room) 2 0 (omega arith))
      (both_up_to 4 (weighed 1 ws) (raised 0 1 hs) (weighed_up_to 4 (omega arith) 1 ws) (raised_up_to 0 1 hs))))

  counted_yields : (n q : ℕ) → Before 1 n → Yields n q (counted (length ws))
  counted_yields n q h = within_yields n q 1 50 (length ws) 1 0 (inl h)

  lengths_yields : (n q : ℕ) → Ahead n q 2 0 → Yields n q (same_length (length ws) (length hs))
  lengths_yields n q a = require_yields n q (eqb (length hs) (length ws)) 2 0 a

  -- after 1 and 2
  later : (n q : ℕ) → Before 2 n → Stops n q (weighed 1 ws >> raised 0 1 hs) → Stops n q (judged_levels ws hs room)
  unfolding judged_levels
  later n q h t =
      later_stops n q (counted (length ws)) _ (counted_yields n q (omega arith))
      (λ _. later_stops n q (same_length (length ws) (length hs)) _ (lengths_yields n q (inl h))
      (λ _. later_stops n q (roomy (length ws) room) _ (require_yields n q (leb (length ws) room) 2 0 (inl h)) (λ _. t)))

  count_stops : OutOf 1 50 (length ws) → Stops 1 0 (judged_levels ws hs room)
  unfolding judged_levels
  count_stops o = first_stops 1 0 (counted (length ws)) _ (range_stops 1 0 1 50 (length ws) 1 0 o (inr (refl, inl refl)))

  lists_stop : (length hs ≡ length ws → ⊥) → Stops 2 0 (judged_levels ws hs room)
  unfolding judged_levels
  lists_stop o =
      later_stops 2 0 (counted (length ws)) _ (counted_yields 2 0 (omega arith))
      (λ _. first_stops 2 0 (same_length (length ws) (length hs)) _
      (require_stops 2 0 (eqb (length hs) (length ws)) 2 0 (ne_eqb _ _ o) (inr (refl, inl refl))))

  buffer_stops : room < length ws → Stops 2 0 (judged_levels ws hs room)
  unfolding judged_levels
  buffer_stops o =
      later_stops 2 0 (counted (length ws)) _ (counted_yields 2 0 (omega arith))
      (λ _. later_stops 2 0 (same_length (length ws) (length hs)) _ (lengths_yields 2 0 (inr (refl, inl refl)))
      (λ _. first_stops 2 0 (roomy (length ws) room) _
      (require_stops 2 0 (leb (length ws) room) 2 0 (lt-leb _ _ o) (inr (refl, inl refl)))))

  module _ (x : ℕ) where
    weight_stops : x < length ws → OutOf 1 20_000 (get_or ws x 0) → Stops 3 (1 + x) (judged_levels ws hs room)
    weight_stops l o =
        later 3 (1 + x) (omega arith)
        (first_stops 3 (1 + x) (weighed 1 ws) (raised 0 1 hs) (weighed_stops (1 + x) 1 ws x (omega arith) refl l o))

    height_stops : x < length hs → OutOf 1 2_000 (get_or hs x 0) ⊎ (get_or hs x 0 ≤ below 0 hs x)
        → Stops 4 (1 + x) (judged_levels ws hs room)
    height_stops l o =
        later 4 (1 + x) (omega arith)
        (later_stops 4 (1 + x) (weighed 1 ws) (raised 0 1 hs)
        (up_to_yields 3 4 (1 + x) (weighed 1 ws) (weighed_up_to 3 (omega arith) 1 ws) (omega arith))
        (λ _. raised_stops (1 + x) 0 1 hs x (omega arith) refl l o))

  -- where one applies
  pub levels_stop : (n q : ℕ) → LevelsApply ws hs room n q → Stops n q (judged_levels ws hs room)
  levels_stop n q (of_count (count o)) = count_stops o
  levels_stop n q (of_lengths (lists o)) = lists_stop o
  levels_stop n q (of_lengths (buffer o)) = buffer_stops o
  levels_stop n q (of_weights (weight x l o)) = weight_stops x l o
  levels_stop n q (of_heights (height x l o)) = height_stops x l (inl o)
  levels_stop n q (of_heights (rising x l o)) = height_stops x l (inr o)
