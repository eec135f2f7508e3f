-- What the order comes to. For 1 to 15, the refusals of a job and of a log, to be judged no later is to have no higher number: 'the lowest
-- number that applies is given'. And '17, then 16, precede everything for a sheet'; 18 stands where 5 to 7 stand,
-- after 1 to 4 and before 8 to 12; 19, then 20, stand after 1 to 4; 22, then 21, stand before all of
-- a job; 23 to 26, one after the other, stand after 1 to 4, 19 and 20.
--   OfBasin n         n is 1 to 4, 18 or 8 to 12
--   OfDistribution n  n is 1 to 4, 19 or 20
-- Assumes nothing.
use mathlib.Core.Path.{◌≡◌, ap}
use mathlib.Core.Bool.{Bool, true}
use mathlib.Core.Logic.{◌⊎◌, inl, inr}
use Prim.Native.Nat.{ℕ, ◌+◌, ◌≤◌}
use native.Mathlib.Omega.{arith}
use lib.Dec.{leb, leb→le, ltb, ltb→lt}
use borrow.Author.Tests.{le-leb}
use Rattle.whole.specs.Choice.{pick}
use Rattle.whole.proofs.Range.{all_below, all_from}
use Rattle.limits.specs.Order.{rank, Before, NoLater}

unfoldable pub lower : ℕ → ℕ → Bool
lower n m = pick (leb (rank n) (rank m)) (leb n m) true

pub lowest_first : (n m : ℕ) → (1 ≤ n) × (n ≤ 15) → (1 ≤ m) × (m ≤ 15) → NoLater n m → n ≤ m
unfolding lower all_below
lowest_first n m hn hm h =
    let row = all_from (λ k. all_below (λ i. lower k (1 + i)) 15) 1 15 tt n hn.0 (omega arith) in
    let cell = all_from (lower n) 1 15 row m hm.0 (omega arith) in
    leb→le n m (rw (le-leb _ _ h) at cell)

first : ℕ → Bool
first n = ltb (rank 16) (rank n)

pub sheet_first : Before 17 16 × ((n : ℕ) → (1 ≤ n) × (n ≤ 15) → Before 16 n) × Before 16 18
unfolding first all_below
sheet_first =
    (omega arith, λ n h. ltb→lt (rank 16) (rank n) (all_from first 1 15 tt n h.0 (omega arith)), omega arith)

before : ℕ → ℕ → Bool
before n m = ltb (rank n) (rank m)

pub zone_between : ((n : ℕ) → (1 ≤ n) × (n ≤ 4) → Before n 18) × ((n : ℕ) → (8 ≤ n) × (n ≤ 12) → Before 18 n)
unfolding before all_below
zone_between = (
  λ n h. ltb→lt (rank n) (rank 18) (all_from (λ k. before k 18) 1 4 tt n h.0 (omega arith)),
  λ n h. ltb→lt (rank 18) (rank n) (all_from (before 18) 8 5 tt n h.0 (omega arith)),
)

-- where there is no site the first number is the lowest, but for 18, which is judged before 8 to 12
abbrev pub OfBasin : ℕ → Type 0
OfBasin k = ((1 ≤ k) × (k ≤ 4)) ⊎ ((k ≡ 18) ⊎ ((8 ≤ k) × (k ≤ 12)))

pub lowest_or_zone : (n m : ℕ) → NoLater n m → OfBasin n → OfBasin m → (n ≤ m) ⊎ ((n ≡ 18) × (8 ≤ m))
lowest_or_zone n m h (inl low) (inl other) = inl (lowest_first n m (omega arith) (omega arith) h)
lowest_or_zone n m h (inl low) (inr (inl e)) = inl (omega arith)
lowest_or_zone n m h (inl low) (inr (inr other)) = inl (omega arith)
lowest_or_zone n m h (inr (inl e)) (inl other) = absurd (let k = zone_between.0 m other in omega (arith, ap rank e))
lowest_or_zone n m h (inr (inl e)) (inr (inl other)) = inl (omega arith)
lowest_or_zone n m h (inr (inl e)) (inr (inr other)) = inr (e, other.0)
lowest_or_zone n m h (inr (inr high)) (inl other) = inl (lowest_first n m (omega arith) (omega arith) h)
lowest_or_zone n m h (inr (inr high)) (inr (inl e)) = inl (omega arith)
lowest_or_zone n m h (inr (inr high)) (inr (inr other)) = inl (lowest_first n m (omega arith) (omega arith) h)

pub handed_after : ((n : ℕ) → (1 ≤ n) × (n ≤ 4) → Before n 19) × Before 19 20
unfolding before all_below
handed_after = (λ n h. ltb→lt (rank n) (rank 19) (all_from (λ k. before k 19) 1 4 tt n h.0 (omega arith)), omega arith)

-- 21 comes before all that a row's job can be refused with, and 22, of the whole call, before that
pub stretch_first : ((n : ℕ) → (1 ≤ n) × (n ≤ 12) → Before 21 n) × Before 21 18 × Before 22 21
unfolding before all_below
stretch_first =
    (λ n h. ltb→lt (rank 21) (rank n) (all_from (before 21) 1 12 tt n h.0 (omega arith)), omega arith, omega arith)

-- of the distribution the first number is the lowest
abbrev pub OfDistribution : ℕ → Type 0
OfDistribution k = ((1 ≤ k) × (k ≤ 4)) ⊎ ((19 ≤ k) × (k ≤ 20))

pub lowest_handed : (n m : ℕ) → NoLater n m → OfDistribution n → OfDistribution m → n ≤ m
unfolding lower all_below
lowest_handed n m h (inl low) (inl other) = lowest_first n m (omega arith) (omega arith) h
lowest_handed n m h (inl low) (inr other) = omega arith
lowest_handed n m h (inr high) (inl other) =
    let row = all_from (λ k. all_below (λ i. lower k (1 + i)) 4) 19 2 tt n high.0 (omega arith) in
    let cell = all_from (lower n) 1 4 row m other.0 (omega arith) in
    leb→le n m (rw (le-leb _ _ h) at cell)
lowest_handed n m h (inr high) (inr other) =
    let row = all_from (λ k. all_below (λ i. lower k (19 + i)) 2) 19 2 tt n high.0 (omega arith) in
    let cell = all_from (lower n) 19 2 row m other.0 (omega arith) in
    leb→le n m (rw (le-leb _ _ h) at cell)

-- 23 to 26 'follow 1 to 4, 19 and 20', each after those below it
pub drift_after : ((n : ℕ) → (1 ≤ n) × (n ≤ 4) → Before n 23) × Before 20 23 × Before 23 24 × Before 24 25 × Before 25 26
unfolding before all_below
drift_after =
    (λ n h. ltb→lt (rank n) (rank 23) (all_from (λ k. before k 23) 1 4 tt n h.0 (omega arith)), omega arith, omega arith, omega arith, omega arith)
