-- Which numbers drift, a floor and accidental moments are refused with, and at which places: 1, 2, 4, 23 and 24 of drift, 4 and 23 at a level; 23 and 25 of a floor,
-- at 0; 1 to 4, 19, 20 and 26 of moments, 3 and 4 at a level. In the order of their judgment these numbers rise, so that the first is 'the lowest number that
-- applies'.
--   OfDrift k    k is 1 to 4, 19, 20 or 23 to 26: a number of drift, of a floor or of moments
-- Assumes nothing.
use mathlib.Core.Path.{◌≡◌, refl}
use mathlib.Core.List.{List}
use mathlib.Core.Logic.{◌⊎◌, inl, inr, ⊎_elim}
use Prim.Native.Nat.{ℕ, ◌+◌, ◌≤◌, ◌<◌}
use native.Mathlib.Omega.{arith}
use lib.Dec.{T, leb→le}
use lib.IntN.{ℤ}
use borrow.Author.Tests.{le-leb}
use Rattle.whole.proofs.Range.{all_below, all_from}
use Rattle.limits.specs.Applies.{count, lists, buffer, height, rising}
use Rattle.limits.specs.DriftApplies.{displacement, limit, DriftApplies, of_height_count, of_drift_lengths, of_drift_heights, of_displacements, of_limit}
use Rattle.limits.specs.DriftApplies.{FloorApplies, largest, average, no_average, above_largest, dimension, MomentsApply, of_distribution, of_dimension}
use Rattle.limits.specs.FirstRefusal.{FirstRefusal}
use Rattle.limits.specs.Order.{InOrder, NoLater}
use Rattle.limits.specs.Outcome.{Outcome, refused}
use Rattle.limits.proofs.Ascending.{lower}
use Rattle.limits.proofs.InOrder.{in_order}
use Rattle.limits.proofs.Numbers.{numbered_distribution}
use Rattle.limits.proofs.Places.{NamedIn, named_distribution}

abbrev pub OfDrift : ℕ → Type 0
OfDrift k = ((1 ≤ k) × (k ≤ 4)) ⊎ (((19 ≤ k) × (k ≤ 20)) ⊎ ((23 ≤ k) × (k ≤ 26)))

-- ---- of each entry
pub numbered_drift : {hs : List ℕ} {zs : List ℤ} {m room n p : ℕ} → DriftApplies hs zs m room n p → OfDrift n
numbered_drift (of_height_count (count o)) = inl (omega arith)
numbered_drift (of_drift_lengths (lists o)) = inl (omega arith)
numbered_drift (of_drift_lengths (buffer o)) = inl (omega arith)
numbered_drift (of_drift_heights (height x l o)) = inl (omega arith)
numbered_drift (of_drift_heights (rising x l o)) = inl (omega arith)
numbered_drift (of_displacements (displacement x l o)) = inr (inr (omega arith))
numbered_drift (of_limit (limit o)) = inr (inr (omega arith))

pub numbered_floor : {l a n p : ℕ} → FloorApplies l a n p → OfDrift n
numbered_floor (largest o) = inr (inr (omega arith))
numbered_floor (average o) = inr (inr (omega arith))
numbered_floor (no_average e) = inr (inr (omega arith))
numbered_floor (above_largest o) = inr (inr (omega arith))

pub numbered_moments : {v t : ℕ} {ws hs : List ℕ} {d room n p : ℕ} → MomentsApply v t ws hs d room n p → OfDrift n
numbered_moments (of_distribution a) = ⊎_elim (λ h. inl h) (λ h. inr (inl h)) (numbered_distribution a)
numbered_moments (of_dimension (dimension o)) = inr (inr (omega arith))

-- ---- they stand in the order
pub of_drift_in_order : (n : ℕ) → OfDrift n → InOrder n
of_drift_in_order n (inl h) = in_order n (omega arith)
of_drift_in_order n (inr (inl h)) = in_order n (omega arith)
of_drift_in_order n (inr (inr h)) = in_order n (omega arith)

-- ---- and rise there: 'the lowest number that applies is given'
-- of all n from a on, k of them, and all m from b on, j of them, at once
module _ (a k b j : ℕ) (all : T (all_below (λ i. all_below (λ e. lower (a + i) (b + e)) j) k)) where
  block : (n m : ℕ) → a ≤ n → n < a + k → b ≤ m → m < b + j → NoLater n m → n ≤ m
  unfolding lower
  block n m an nk bm mj h =
      let row = all_from (λ q. all_below (λ e. lower q (b + e)) j) a k all n an nk in
      let cell = all_from (lower n) b j row m bm mj in
      leb→le n m (rw (le-leb _ _ h) at cell)

pub of_drift_rise : (n m : ℕ) → OfDrift n → OfDrift m → NoLater n m → n ≤ m
unfolding lower all_below
of_drift_rise n m (inl x) (inl y) h = block 1 4 1 4 tt n m x.0 (omega arith) y.0 (omega arith) h
of_drift_rise n m (inl x) (inr (inl y)) h = omega arith
of_drift_rise n m (inl x) (inr (inr y)) h = omega arith
of_drift_rise n m (inr (inl x)) (inl y) h = block 19 2 1 4 tt n m x.0 (omega arith) y.0 (omega arith) h
of_drift_rise n m (inr (inl x)) (inr (inl y)) h = block 19 2 19 2 tt n m x.0 (omega arith) y.0 (omega arith) h
of_drift_rise n m (inr (inl x)) (inr (inr y)) h = omega arith
of_drift_rise n m (inr (inr x)) (inl y) h = block 23 4 1 4 tt n m x.0 (omega arith) y.0 (omega arith) h
of_drift_rise n m (inr (inr x)) (inr (inl y)) h = block 23 4 19 2 tt n m x.0 (omega arith) y.0 (omega arith) h
of_drift_rise n m (inr (inr x)) (inr (inr y)) h = block 23 4 23 4 tt n m x.0 (omega arith) y.0 (omega arith) h

-- of any outcome that gives the first refusal of such numbers
pub lowest_of_drift : (A : ℕ → ℕ → Type 0) → ((n p : ℕ) → A n p → OfDrift n) → {X : Type 0} (o : Outcome X) (n p m q : ℕ) → o ≡ refused n p
    → FirstRefusal A o → A m q → n ≤ m
lowest_of_drift A numbered o n p m q e h a =
    of_drift_rise n m (numbered n p (h.refused_applies n p e)) (numbered m q a) (h.first_number n p m q e a)

-- ---- which of them name a place
pub named_drift : {hs : List ℕ} {zs : List ℤ} {m room n p : ℕ} → DriftApplies hs zs m room n p
    → (((n ≡ 4) ⊎ (n ≡ 23)) × (1 ≤ p)) ⊎ (((n ≡ 1) ⊎ ((n ≡ 2) ⊎ (n ≡ 24))) × (p ≡ 0))
named_drift (of_height_count (count o)) = inr (inl refl, refl)
named_drift (of_drift_lengths (lists o)) = inr (inr (inl refl), refl)
named_drift (of_drift_lengths (buffer o)) = inr (inr (inl refl), refl)
named_drift (of_drift_heights (height x l o)) = inl (inl refl, omega arith)
named_drift (of_drift_heights (rising x l o)) = inl (inl refl, omega arith)
named_drift (of_displacements (displacement x l o)) = inl (inr refl, omega arith)
named_drift (of_limit (limit o)) = inr (inr (inr refl), refl)

pub named_floor : {l a n p : ℕ} → FloorApplies l a n p → ((n ≡ 23) ⊎ (n ≡ 25)) × (p ≡ 0)
named_floor (largest o) = (inl refl, refl)
named_floor (average o) = (inl refl, refl)
named_floor (no_average e) = (inr refl, refl)
named_floor (above_largest o) = (inr refl, refl)

pub named_moments : {v t : ℕ} {ws hs : List ℕ} {d room n p : ℕ} → MomentsApply v t ws hs d room n p → NamedIn 3 6 n p
named_moments (of_distribution a) = named_distribution a
named_moments (of_dimension (dimension o)) = inr (inr (omega arith), refl)
