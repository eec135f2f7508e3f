-- Weights and heights, judged level by level: which numbers they are refused with, and that a level to which 3 or 4 applies is refused,
-- or one below it.
-- Assumes nothing.
use mathlib.Core.Path.{◌≡◌, refl}
use mathlib.Core.List.{List, [], ◌∷◌}
use mathlib.Core.Logic.{◌⊎◌, inr, ⊎_elim}
use Prim.Native.Nat.{ℕ, zero, suc, ◌+◌, ◌≤◌, ◌<◌}
use native.Mathlib.Omega.{arith}
use lib.Dec.{ltb}
use lib.ListN.{length, get_or}
use borrow.Author.Tests.{le-ltb}
use Rattle.whole.specs.Cells.{below}
use Rattle.limits.specs.Applies.{OutOf}
use Rattle.limits.specs.Levels.{judged_weight, weighed, judged_height, raised}
use Rattle.limits.specs.Order.{NoLater}
use Rattle.limits.specs.Outcome.{require}
use Rattle.limits.specs.Ranges.{within}
use Rattle.limits.proofs.Precedence.{Stops, Yields, UpTo, both_up_to, require_up_to, within_up_to, first_stops, later_stops, both_yield, require_yields, require_stops, within_yields}
use Rattle.limits.proofs.NotAllowed.{range_stops}

pub weighed_up_to : (m : ℕ) → NoLater 3 m → (p : ℕ) (ws : List ℕ) → UpTo m (weighed p ws)
unfolding weighed
weighed_up_to m h p [] = tt
weighed_up_to m h p (w ∷ ws) =
    both_up_to m (judged_weight w p) (weighed (p + 1) ws) (within_up_to m 1 20_000 w 3 p h) (weighed_up_to m h (p + 1) ws)

pub raised_up_to : (b p : ℕ) (hs : List ℕ) → UpTo 4 (raised b p hs)
unfolding raised
raised_up_to b p [] = tt
raised_up_to b p (a ∷ hs) =
    both_up_to 4 (judged_height b a p) (raised a (p + 1) hs)
    (both_up_to 4 (within 1 2_000 a 4 p) (require (ltb b a) 4 p) (within_up_to 4 1 2_000 a 4 p (omega arith))
    (require_up_to 4 (ltb b a) 4 p (omega arith)))
    (raised_up_to a (p + 1) hs)

pub weighed_stops : (q p : ℕ) (ws : List ℕ) (x : ℕ) → 1 ≤ p → q ≡ p + x → x < length ws → OutOf 1 20_000 (get_or ws x 0) → Stops 3 q (weighed p ws)
unfolding weighed
weighed_stops q p [] x h e l o = absurd (omega arith)
weighed_stops q p (w ∷ ws) zero h e l o =
    first_stops 3 q (judged_weight w p) (weighed (p + 1) ws) (range_stops 3 q 1 20_000 w 3 p o (inr (refl, inr (h, omega arith))))
weighed_stops q p (w ∷ ws) (suc x) h e l o =
    later_stops 3 q (judged_weight w p) (weighed (p + 1) ws) (within_yields 3 q 1 20_000 w 3 p (inr (refl, inr (h, omega arith))))
    (λ _. weighed_stops q (p + 1) ws x (omega arith) (omega arith) (omega arith) o)

module _ (q p : ℕ) (h : 1 ≤ p) (b a : ℕ) where
  height_stops : p ≤ q → OutOf 1 2_000 a → Stops 4 q (judged_height b a p)
  height_stops l o =
      first_stops 4 q (within 1 2_000 a 4 p) (require (ltb b a) 4 p) (range_stops 4 q 1 2_000 a 4 p o (inr (refl, inr (h, l))))

  rising_stops : p ≤ q → a ≤ b → Stops 4 q (judged_height b a p)
  rising_stops l o =
      later_stops 4 q (within 1 2_000 a 4 p) (require (ltb b a) 4 p) (within_yields 4 q 1 2_000 a 4 p (inr (refl, inr (h, l))))
      (λ _. require_stops 4 q (ltb b a) 4 p (le-ltb b a o) (inr (refl, inr (h, l))))

  height_yields : p ≤ q → Yields 4 q (judged_height b a p)
  height_yields l =
      both_yield 4 q (within 1 2_000 a 4 p) (require (ltb b a) 4 p) (within_yields 4 q 1 2_000 a 4 p (inr (refl, inr (h, l))))
      (require_yields 4 q (ltb b a) 4 p (inr (refl, inr (h, l))))

pub raised_stops : (q b p : ℕ) (hs : List ℕ) (x : ℕ) → 1 ≤ p → q ≡ p + x → x < length hs
    → OutOf 1 2_000 (get_or hs x 0) ⊎ (get_or hs x 0 ≤ below b hs x) → Stops 4 q (raised b p hs)
unfolding raised
raised_stops q b p [] x h e l o = absurd (omega arith)
raised_stops q b p (a ∷ hs) zero h e l o =
    first_stops 4 q (judged_height b a p) (raised a (p + 1) hs)
    (⊎_elim (λ out. height_stops q p h b a (omega arith) out) (λ low. rising_stops q p h b a (omega arith) low) o)
raised_stops q b p (a ∷ hs) (suc x) h e l o =
    later_stops 4 q (judged_height b a p) (raised a (p + 1) hs) (height_yields q p h b a (omega arith))
    (λ _. raised_stops q a (p + 1) hs x (omega arith) (omega arith) (omega arith) o)
