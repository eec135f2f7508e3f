-- `whole::paper::digit` meets its contract. The invariant: c is at most 9, and no digit above it fits. The measure is c. Assumes nothing.
use Prim.Native.Nat.{ℕ, ◌*◌, ◌≤◌}
use Rattle.whole.specs.Digits.{taken}
use Rattle.whole.proofs.paper.digit.Given as goal

-- no digit above c fits
abbrev pub Above : ℕ → ℕ → ℕ → ℕ → ℕ → Type 0
Above d k p left c = (c ≤ 9) × ((j : ℕ) → taken d k (j * p) ≤ left → j ≤ c)

abbrev pub invariant-loop-c : goal.invariant-loop-c
invariant-loop-c l = Above l.d l.k l.p l.left l.c

abbrev pub decreases-loop-c : goal.decreases-loop-c
decreases-loop-c l = l.c
