-- Answers of which each accepted one has a cell, and how much V_D they come to at most.
--   AllSorted os    so is each of os
-- Assumes nothing.
use mathlib.Core.List.{List, [], ◌∷◌, map}
use Prim.Native.Nat.{◌*◌, ◌≤◌}
use native.Mathlib.Omega.{arith}
use lib.ListN.{length}
use Rattle.whole.specs.Cells.{sum}
use Rattle.limits.specs.Outcome.{Outcome, accepted, refused}
use Rattle.district_call.specs.declared.weighed.Weighed.{Weighed}
use Rattle.district_call.specs.Report.{vd_of}
use Rattle.district_call.specs.Tally.{Sorted}

abbrev pub AllSorted : List (Outcome Weighed) → Type 0
AllSorted [] = Unit {0}
AllSorted (o ∷ os) = Sorted o × AllSorted os

pub all_sorted : {A : Type 0} (f : A → Outcome Weighed) → ((a : A) → Sorted (f a)) → (l : List A) → AllSorted (map f l)
all_sorted f h [] = tt
all_sorted f h (a ∷ l) = (h a, all_sorted f h l)

pub sum_low : (os : List (Outcome Weighed)) → AllSorted os → sum (map vd_of os) ≤ length os * 1_125_000_000
unfolding sum
sum_low [] s = omega arith
sum_low (accepted w ∷ os) s = omega (arith, sum_low os s.1, s.0.base)
sum_low (refused n p ∷ os) s = omega (arith, sum_low os s.1)
