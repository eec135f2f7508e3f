-- Weights and heights judged one after the other, from the i-th on.
-- Assumes nothing.
use mathlib.Core.Path.{◌≡◌}
use mathlib.Core.List.{List}
use Prim.Native.Nat.{ℕ, ◌+◌, ◌≤◌, ◌<◌}
use native.Mathlib.Numerals.{add-one}
use lib.ListN.{length, get_or, drop}
use lib.Seq.{drop-cons}
use Rattle.std.proofs.Math.ListN.{drop_of_length-le}
use Rattle.limits.specs.Outcome.{accepted, ◌>>◌}
use Rattle.limits.specs.Levels.{judged_weight, weighed, judged_height, raised}

module _ (ws : List ℕ) (p i : ℕ) (h : i < length ws) where
  pub weights_step : weighed p (drop i ws) ≡ (judged_weight (get_or ws i 0) p >> weighed (p + 1) (drop (i + 1) ws))
  unfolding weighed
  weights_step = rw (add-one i, drop-cons ws i 0 h)

pub weights_end : (ws : List ℕ) (p i : ℕ) → length ws ≤ i → weighed p (drop i ws) ≡ accepted tt
unfolding weighed
weights_end ws p i h = rw (drop_of_length-le ws h)

module _ (hs : List ℕ) (b p i : ℕ) (h : i < length hs) where
  pub heights_step : raised b p (drop i hs) ≡ (judged_height b (get_or hs i 0) p >> raised (get_or hs i 0) (p + 1) (drop (i + 1) hs))
  unfolding raised
  heights_step = rw (add-one i, drop-cons hs i 0 h)

pub heights_end : (hs : List ℕ) (b p i : ℕ) → length hs ≤ i → raised b p (drop i hs) ≡ accepted tt
unfolding raised
heights_end hs b p i h = rw (drop_of_length-le hs h)
