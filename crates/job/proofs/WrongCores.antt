-- Cores that demand 3 alone rules out: one that prints a constant base shear, and one that works out the top storey and copies it
-- downward. Document 01's worked sheet shows it, and the same sheet with weights of 1 kN.
--   Meets v u    of every accepted job the base shear v and the storey shears u meet demand 3
-- Assumes nothing.
use mathlib.Core.Path.{◌≡◌, refl}
use mathlib.Core.List.{List, [], ◌∷◌}
use Prim.Native.Nat.{ℕ, ◌-◌, ◌≤◌, ◌<◌}
use native.Mathlib.Omega.{arith}
use lib.Dec.{lit<, lit≤}
use lib.ListN.{length}
use Rattle.whole.specs.Cells.{sum}
use Rattle.whole.specs.Fraction.{over, plus}
use Rattle.whole.specs.Line.{between}
use Rattle.whole.specs.Rounding.{down}
use Rattle.whole.specs.Search.{bits_from, largest}
use Rattle.limits.specs.Kind.{judged_kind}
use Rattle.limits.specs.Frame.{judged_period, judged_frame}
use Rattle.limits.specs.Judging.{judged_job}
use Rattle.limits.specs.Levels.{weighed, raised, judged_levels}
use Rattle.limits.specs.Ranges.{in_range, within, among, listed}
use Rattle.limits.specs.Class.{judged_class}
use Rattle.limits.specs.Site.{judged_mapped, judged_near_fault, judged_site}
use Rattle.limits.specs.declared.kind.Kind.TheVariants.{Concrete}
use Rattle.limits.specs.declared.class.Class.TheVariants.{Hard}
use Rattle.response.specs.Factor.{factor}
use Rattle.response.specs.Period.{approximate, in_use}
use Rattle.response.specs.Ratio.{bent}
use Rattle.response.specs.Spectrum.{exact_spectrum}
use Rattle.base_shear.specs.Exact.{Roots}
use Rattle.base_shear.specs.Shears.{figures_at}
use Rattle.storeys.specs.Storeys.{weight_height}
use Rattle.margin.specs.Roots.{Lowering, Raising}
use Rattle.margin.proofs.Bound.{at_least_number, below_number}
use Rattle.job.proofs.Demand3.{demand3_accepted}
use Rattle.job.proofs.JobNumbers.{Job, site_line, frame_line, job_on, IsAccepted, Demand3Of, hazards}
use Rattle.job.proofs.JobNumbers.{printed, printed_under, exact, exact_under, margin}

abbrev pub Meets : (Job → ℕ) → (Job → ℕ → ℕ) → Type 0
Meets v u = (j : Job) → IsAccepted j → Demand3Of j (v j) (u j)

-- the core is none of them
pub core_meets : Meets printed printed_under
unfolding figures_at
core_meets j e = demand3_accepted j.ground j.frame j.weights j.heights _ j.given e

-- ---- the sheet, at any weights
abbrev sheet : List ℕ → Job
sheet ws =
    job_on (site_line 80 45 100 55 100 100 1) Hard (frame_line 2 1000 480 100 150) Concrete ws (100 ∷ 200 ∷ 300 ∷ [])

abbrev worked : Job
worked = sheet (5000 ∷ 5000 ∷ 5000 ∷ [])

abbrev light : Job
light = sheet (1 ∷ 1 ∷ 1 ∷ [])

both_accepted : IsAccepted worked × IsAccepted light
unfolding judged_job judged_levels weighed raised within in_range among listed judged_site judged_mapped judged_near_fault judged_class
    judged_frame judged_kind judged_period
both_accepted = (refl, refl)

-- the squares of the roots are 455/75 and 430/50: 5/2 and 3 are high, 2 is low
abbrev below : Roots
below = record { v = over 5 2; vm = over 3 1; star = over 2 1 }

abbrev above : Roots
above = record { v = over 2 1; vm = over 2 1; star = over 5 2 }

lowers : Lowering (hazards worked) below
lowers =
    record {
      v = record { sound = lit< tt; one = lit≤ tt; high = lit≤ tt };
      vm = record { sound = lit< tt; one = lit≤ tt; high = lit≤ tt };
      star = record { sound = lit< tt; one = lit≤ tt; low = lit≤ tt };
    }

raises : Raising (hazards worked) above
raises =
    record {
      v = record { sound = lit< tt; one = lit≤ tt; low = lit≤ tt };
      vm = record { sound = lit< tt; one = lit≤ tt; low = lit≤ tt };
      star = record { sound = lit< tt; one = lit≤ tt; high = lit≤ tt };
    }

-- ---- what demand 3 leaves of the figures
module _ (v : ℕ) (u : ℕ → ℕ) where
  -- a million newtons or more at the base of the sheet, and less than a thousand with weights of 1 kN
  base_worked : Demand3Of worked v u → 1_000_000 ≤ v
  unfolding sum between down largest bits_from approximate in_use exact_spectrum factor bent
  base_worked d =
      let h = d.base.never_below below lowers in
      at_least_number v 1_000_000 (exact worked below) h.0 h.1 (lit≤ tt)

  base_light : Demand3Of light v u → v < 1000
  unfolding sum between down largest bits_from approximate in_use exact_spectrum factor bent
  base_light d =
      let h = d.base.close above raises in
      below_number v 1000 (exact light above) (margin 6 light) h.1 (lit≤ tt)

  -- a million newtons or more under the sheet's lowest level, and less than 600,000 under its roof
  lowest_worked : Demand3Of worked v u → 1_000_000 ≤ u 0
  unfolding sum between down largest bits_from approximate in_use exact_spectrum factor bent weight_height
  lowest_worked d =
      let h = d.storeys.never_below 0 (lit< tt) below lowers in
      at_least_number (u 0) 1_000_000 (exact_under worked below 0) h.0 h.1 (lit≤ tt)

  roof_worked : Demand3Of worked v u → u 2 < 600_000
  unfolding sum between down largest bits_from approximate in_use exact_spectrum factor bent weight_height
  roof_worked d =
      let h = d.storeys.close 2 (lit< tt) above raises in
      below_number (u 2) 600_000 (exact_under worked above 2) (plus (margin 6 worked) (over 2 1)) h.1 (lit≤ tt)

-- ---- so no constant is the base shear of both, and the shear under the sheet's roof is not that under its lowest level
module _ (v : Job → ℕ) (u : Job → ℕ → ℕ) (meets : Meets v u) where
  pub no_constant : (c : ℕ) → ((j : Job) → IsAccepted j → v j ≡ c) → ⊥
  no_constant c same =
      omega (
        arith,
        base_worked (v worked) (u worked) (meets worked both_accepted.0),
        base_light (v light) (u light) (meets light both_accepted.1),
        same worked both_accepted.0,
        same light both_accepted.1,
      )

  pub no_roof_copied : ((j : Job) → IsAccepted j → (x : ℕ) → x < length j.weights → u j x ≡ u j (length j.weights - 1)) → ⊥
  no_roof_copied same =
      let copied : u worked 0 ≡ u worked 2 = same worked both_accepted.0 0 (lit< tt) in
      omega (
        arith,
        lowest_worked (v worked) (u worked) (meets worked both_accepted.0),
        roof_worked (v worked) (u worked) (meets worked both_accepted.0),
        copied,
      )
