-- What counting asks for, so that no counter wraps and every accepted job has a cell.
--   Ratio w         a weight above 0, and V_D of at most 1,125 N for each kN of it; and at most 1,125,000,000 N
--   Sorted o        so is an accepted job
--   Small t         totals that one job more does not make wrap
--   LowCells cs     the same of cells
use Rattle.std.specs.Prelude.{ℕ, ◌*◌, ◌≤◌, ◌<◌, List, get_or}
use Rattle.limits.specs.Outcome.{Outcome, accepted, refused}
use Rattle.district_call.specs.declared.report.Totals.{Totals}
use Rattle.district_call.specs.declared.weighed.Weighed.{Weighed}

pub record Ratio (w : Weighed) : Type 0 where
  pub weight : 0 < w.weight
  pub most : w.figures.vd ≤ 1_125 * w.weight
  pub base : w.figures.vd ≤ 1_125_000_000

abbrev pub Sorted : Outcome Weighed → Type 0
Sorted (accepted w) = Ratio w
Sorted (refused n p) = Unit {0}

pub record Small (t : Totals) : Type 0 where
  pub accepted : t.accepted ≤ 1_000_000
  pub refused : t.refused ≤ 1_000_000
  pub sum : t.sum ≤ 1_000_000_000_000_000
  pub v : t.v ≤ 1_000_000
  pub vm : t.vm ≤ 1_000_000
  pub star : t.star ≤ 1_000_000

pub record LowCells (cs : List ℕ) : Type 0 where
  pub low : (k : ℕ) → get_or cs k 0 ≤ 1_000_000
