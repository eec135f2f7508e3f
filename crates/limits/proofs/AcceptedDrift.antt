-- What drift, a floor and accidental moments accept is allowed.
-- Assumes nothing.
use mathlib.Core.Path.{◌≡◌}
use mathlib.Core.List.{List}
use Prim.Native.Nat.{ℕ, ◌≤◌}
use lib.Dec.{leb, eqb}
use lib.IntN.{ℤ}
use lib.ListN.{length}
use borrow.Author.Tests.{leb-true, eqb-true}
use Rattle.limits.specs.Displacement.{displaced}
use Rattle.limits.specs.DriftLimit.{judged_drift_limit}
use Rattle.limits.specs.DriftAllowed.{AllowedDrift, AllowedFloor, AllowedMoments}
use Rattle.limits.specs.DriftJudging.{judged_drift, judged_moments}
use Rattle.limits.specs.Floor.{judged_unsigned, judged_average, judged_floor}
use Rattle.limits.specs.Judging.{judged_distribution}
use Rattle.limits.specs.Lengths.{same_length, roomy}
use Rattle.limits.specs.Levels.{counted, raised}
use Rattle.limits.specs.Outcome.{accepted}
use Rattle.limits.specs.Plan.{judged_dimension}
use Rattle.limits.proofs.AcceptedCalls.{distribution_allowed}
use Rattle.limits.proofs.AcceptedLevels.{heights_allowed}
use Rattle.limits.proofs.DisplacedStage.{displaced_sizes}
use Rattle.limits.proofs.Passed.{then_passed, require_passed, within_passed}

pub drift_allowed : (hs : List ℕ) (zs : List ℤ) (m room : ℕ) → judged_drift hs zs m room ≡ accepted tt
    → AllowedDrift hs zs m × (length hs ≤ room)
unfolding judged_drift
drift_allowed hs zs m room e =
    let count = then_passed (counted (length hs)) _ e in
    let lengths = then_passed (same_length (length hs) (length zs)) _ count.1 in
    let cells = then_passed (roomy (length hs) room) _ lengths.1 in
    let heights = then_passed (raised 0 1 hs) _ cells.1 in
    let sizes = then_passed (displaced 1 zs) (judged_drift_limit m) heights.1 in
    let n = within_passed 1 50 (length hs) 1 0 count.0 in
    let up = heights_allowed 0 1 hs heights.0 in (
      record {
        same = eqb-true (length zs) (length hs) (require_passed (eqb (length zs) (length hs)) 2 0 lengths.0);
        some = n.0;
        few = n.1;
        heights = λ x h. ((up x h).0, (up x h).1);
        rising = λ x h. (up x h).2;
        sizes = displaced_sizes 1 zs sizes.0;
        limit = within_passed 1 10_000 m 24 0 sizes.1;
      },
      leb-true (length hs) room (require_passed (leb (length hs) room) 2 0 cells.0),
    )

pub floor_allowed : (l a : ℕ) → judged_floor l a ≡ accepted tt → AllowedFloor l a
unfolding judged_floor
floor_allowed l a e =
    let most = then_passed (judged_unsigned l) _ e in
    let both = then_passed (judged_unsigned a) (judged_average l a) most.1 in
    record { largest = (within_passed 0 1_000_000 l 23 0 most.0).1; average = within_passed 1 l a 25 0 both.1 }

pub moments_allowed : (v t : ℕ) (ws hs : List ℕ) (d room : ℕ) → judged_moments v t ws hs d room ≡ accepted tt
    → AllowedMoments v t ws hs d × (length ws ≤ room)
unfolding judged_moments
moments_allowed v t ws hs d room e =
    let both = then_passed (judged_distribution v t ws hs room) (judged_dimension d) e in
    let all = distribution_allowed v t ws hs room both.0 in
    (record { levels = all.0; handed = all.2; dimension = within_passed 1 5_000 d 26 0 both.1 }, all.1)
