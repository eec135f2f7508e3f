-- `whole::roots::largest` meets its contract. The invariant: the root is at least lo and below lo + width, which is at most top. The measure is
-- width. Assumes nothing.
use Prim.Native.Nat.{ℕ, ◌+◌, ◌*◌, ◌^◌, ◌≤◌, ◌<◌}
use Rattle.whole.proofs.roots.largest.Given as goal

abbrev pub Within : ℕ → ℕ → ℕ → ℕ → ℕ → ℕ → Type 0
Within m p n top lo width = (0 < width) × (lo + width ≤ top) × (m * lo ^ p ≤ n) × (n < m * (lo + width) ^ p)

abbrev pub invariant-loop-width : goal.invariant-loop-width
invariant-loop-width l = Within l.m l.p l.n l.top l.lo l.width

abbrev pub decreases-loop-width : goal.decreases-loop-width
decreases-loop-width l = l.width
