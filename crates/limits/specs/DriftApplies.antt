-- When each refusal of drift, of torsion and of accidental moments applies: 1 to 4, 19 and 20 as Applies.antt has them, 23 to 26, part by part, then of each
-- call. Refusal n applies at place p. Level x, from 0, has place 1 + x.
--   DisplacementApplies zs n p    23: a displacement above a million in size
--   LimitApplies m n p            24: a limit that is 0 or above 10,000
--   DriftApplies hs zs m room n p     of drift: 1 and 2 of the heights, 4, 23, 24
--   FloorApplies l a n p          of torsion: 23 of the largest or the average displacement, 25 of the average
--   DimensionApplies d n p        26: a plan dimension
--   MomentsApply v t ws hs d room n p    of accidental moments: of their distribution, or 26
use Rattle.std.specs.Prelude.{◌≡◌, List, ℕ, ◌+◌, ◌<◌, ℤ, pos, length, get_or}
use Rattle.whole.specs.Signed.{size}
use Rattle.limits.specs.Applies.{OutOf, CountApplies, LengthsApply, HeightApplies, DistributionApplies}

pub data DisplacementApplies (zs : List ℤ) : ℕ → ℕ → Type 0 where
  displacement : (x : ℕ) → x < length zs → 1_000_000 < size (get_or zs x (pos 0)) → DisplacementApplies zs 23 (1 + x)

pub data LimitApplies (m : ℕ) : ℕ → ℕ → Type 0 where
  limit : OutOf 1 10_000 m → LimitApplies m 24 0

pub data DriftApplies (hs : List ℕ) (zs : List ℤ) (m room n p : ℕ) : Type 0 where
  of_height_count : CountApplies hs n p → DriftApplies hs zs m room n p
  of_drift_lengths : LengthsApply hs zs room n p → DriftApplies hs zs m room n p
  of_drift_heights : HeightApplies hs n p → DriftApplies hs zs m room n p
  of_displacements : DisplacementApplies zs n p → DriftApplies hs zs m room n p
  of_limit : LimitApplies m n p → DriftApplies hs zs m room n p

pub data FloorApplies (l a : ℕ) : ℕ → ℕ → Type 0 where
  largest : 1_000_000 < l → FloorApplies l a 23 0
  average : 1_000_000 < a → FloorApplies l a 23 0
  no_average : a ≡ 0 → FloorApplies l a 25 0
  above_largest : l < a → FloorApplies l a 25 0

pub data DimensionApplies (d : ℕ) : ℕ → ℕ → Type 0 where
  dimension : OutOf 1 5_000 d → DimensionApplies d 26 0

pub data MomentsApply (v t : ℕ) (ws hs : List ℕ) (d room n p : ℕ) : Type 0 where
  of_distribution : DistributionApplies v t ws hs room n p → MomentsApply v t ws hs d room n p
  of_dimension : DimensionApplies d n p → MomentsApply v t ws hs d room n p
