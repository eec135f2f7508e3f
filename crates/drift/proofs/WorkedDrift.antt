-- The worked frame, the worked floors and the worked moments of the manual (drift.md): the definitions, computed.
-- Assumes nothing.
use mathlib.Core.Path.{◌≡◌, refl}
use mathlib.Core.List.{List, [], ◌∷◌}
use Prim.Native.Nat.{ℕ}
use lib.IntN.{ℤ, pos, negsuc}
use Rattle.whole.specs.Cells.{cells}
use Rattle.whole.specs.Rounding.{up}
use Rattle.limits.specs.Displacement.{displaced}
use Rattle.limits.specs.DriftJudging.{judged_drift, judged_moments}
use Rattle.limits.specs.Floor.{judged_floor}
use Rattle.limits.specs.Handed.{judged_handed}
use Rattle.limits.specs.Judging.{judged_distribution}
use Rattle.limits.specs.Levels.{weighed, raised, judged_levels}
use Rattle.limits.specs.Outcome.{accepted, refused}
use Rattle.limits.specs.Ranges.{in_range, within}
use Rattle.storeys.specs.Storeys.{weight_height}
use Rattle.drift.specs.Accidental.{moments_of}
use Rattle.drift.specs.Drift.{within_limit, drift_of}
use Rattle.drift.specs.Torsion.{torsion_factor, torsion_of}

-- ---- a frame of six storeys, in dm and 0.01 mm, judged by 0.005: the first is 0.01 mm beyond the limit, the second at it; the fifth is beyond it, and its
-- ends lie on either side of 0
abbrev pub heights : List ℕ
heights = 45 ∷ 80 ∷ 115 ∷ 150 ∷ 185 ∷ 220 ∷ []

abbrev pub displacements : List ℤ
displacements = pos 2251 ∷ pos 4001 ∷ pos 2880 ∷ pos 1270 ∷ negsuc 699 ∷ negsuc 1639 ∷ []

pub worked_frame : drift_of heights displacements 50 6 ≡ accepted (0 ∷ 1 ∷ 1 ∷ 1 ∷ 0 ∷ 1 ∷ [])
unfolding drift_of judged_drift raised displaced within in_range within_limit cells
worked_frame = refl

-- two storeys of it in one line: the second is 0.01 mm beyond the limit of its own height, 35 dm; its height above the base is 80 dm
pub worked_storeys : drift_of (45 ∷ 80 ∷ []) (pos 2250 ∷ pos 4001 ∷ []) 50 2 ≡ accepted (1 ∷ 0 ∷ [])
unfolding drift_of judged_drift raised displaced within in_range within_limit cells
worked_storeys = refl

-- a displacement of −2^63 is taken, and refused with 23 at its level
pub least_refused : drift_of (45 ∷ 80 ∷ []) (pos 0 ∷ negsuc 9_223_372_036_854_775_807 ∷ []) 0 2 ≡ refused 23 2
unfolding drift_of judged_drift raised displaced within in_range
least_refused = refl

-- ---- floors by their largest and average displacements: 25,000·2500²/(36·2000²) is 1085.06 thousandths; the exact factor of the second is 4.0; equal
-- displacements
pub worked_floors : (torsion_of 2500 2000 ≡ accepted 1086) × (torsion_of 2400 1000 ≡ accepted 3000) × (torsion_of 1800 1800 ≡ accepted 695)
unfolding torsion_of judged_floor within in_range torsion_factor up
worked_floors = (refl, refl, refl)

-- ---- the forces of document 01's sheet, 166,071, 332,143 and 573,215 N, with a plan dimension of 240 dm
pub worked_moments : moments_of 1_071_429 1000 (5000 ∷ 5000 ∷ 5000 ∷ []) (100 ∷ 200 ∷ 300 ∷ []) 240 3
    ≡ accepted (record {
      positive = pos 199_285_200 ∷ pos 398_571_600 ∷ pos 687_858_000 ∷ [];
      negative = negsuc 199_285_199 ∷ negsuc 398_571_599 ∷ negsuc 687_857_999 ∷ [];
    })
unfolding moments_of judged_moments judged_distribution judged_levels judged_handed weighed raised within in_range cells up weight_height
worked_moments = refl
