-- Three accepted jobs that show how sharp demand 3 is, worked out by the checker: its margins cannot be much smaller, and its
-- fractions cannot stand the other way round.
--   heavy     a million kN: the base shear is above the exact one by more than four s-ths and a newton
--   tall      2,000 dm, T just below 3,572 ms: the shear under the roof is above the exact one by more than six s-ths and two newtons
--   stiff     with a low fraction in V the chain is above the printed base shear
-- Assumes nothing.
use mathlib.Core.Path.{refl}
use mathlib.Core.List.{[], ◌∷◌}
use Prim.Native.Nat.{◌+◌}
use lib.Dec.{lit<, lit≤}
use Rattle.whole.specs.Cells.{cells, sum}
use Rattle.whole.specs.Fraction.{over, plus, AtMost, Less}
use Rattle.whole.specs.Line.{between}
use Rattle.whole.specs.Root.{lower_root, upper_root}
use Rattle.whole.specs.Rounding.{up, down}
use Rattle.whole.specs.Search.{bits_from, largest, smallest}
use Rattle.whole.specs.Signed.{floor, ceiling}
use Rattle.limits.specs.Kind.{judged_kind}
use Rattle.limits.specs.Frame.{judged_period, judged_frame}
use Rattle.limits.specs.Judging.{judged_job}
use Rattle.limits.specs.Levels.{weighed, raised, judged_levels}
use Rattle.limits.specs.Ranges.{in_range, within, among, listed}
use Rattle.limits.specs.Class.{judged_class}
use Rattle.limits.specs.Site.{judged_mapped, judged_near_fault, judged_site}
use Rattle.limits.specs.declared.kind.Kind.TheVariants.{Steel, Concrete}
use Rattle.limits.specs.declared.class.Class.TheVariants.{Hard, Normal, Soft}
use Rattle.response.specs.Factor.{factor, lower_factor, upper_factor}
use Rattle.response.specs.Period.{approximate, in_use}
use Rattle.response.specs.Ratio.{bent, ratio, modified, blended}
use Rattle.response.specs.Spectrum.{exact_spectrum, spectrum}
use Rattle.response.specs.Unit.{unit}
use Rattle.base_shear.specs.Exact.{Roots}
use Rattle.base_shear.specs.Shears.{newtons, shear, star, base}
use Rattle.storeys.specs.Storeys.{weight_height}
use Rattle.margin.specs.Demand3.{LessBy, base_margin, storey_margin}
use Rattle.margin.specs.Roots.{High, Low, Raising}
use Rattle.job.proofs.JobNumbers.{Job, site_line, frame_line, job_on, IsAccepted, hazards, printed, printed_under, exact, exact_under, margin}

-- 50 levels of 20,000 kN, a decimetre apart
abbrev pub heavy : Job
heavy =
    job_on (site_line 50 30 100 45 149 143 2) Normal (frame_line 1 95 101 150 100) Steel (cells (λ x. 20_000) 50)
    (cells (λ x. x + 1) 50)

abbrev pub tall : Job
tall =
    job_on (site_line 80 30 100 50 147 165 3) Soft (frame_line 1 3568 446 150 192) Steel (12 ∷ 1 ∷ []) (1948 ∷ 2000 ∷ [])

abbrev pub stiff : Job
stiff =
    job_on (site_line 80 45 100 55 100 100 1) Hard (frame_line 2 200 480 100 150) Concrete (5000 ∷ 5000 ∷ 5000 ∷ [])
    (100 ∷ 200 ∷ 300 ∷ [])

pub all_accepted : IsAccepted heavy × IsAccepted tall × IsAccepted stiff
unfolding cells judged_job judged_levels weighed raised within in_range among listed judged_site judged_mapped judged_near_fault
    judged_class judged_frame judged_kind judged_period
all_accepted = (refl, refl, refl)

-- ---- the base
abbrev pub heavy_roots : Roots
heavy_roots = record { v = over 1 1; vm = over 41_005 40_601; star = over 2 1 }

pub heavy_raising : Raising (hazards heavy) heavy_roots
heavy_raising =
    record {
      v = record { sound = lit< tt; one = lit≤ tt; low = lit≤ tt };
      vm = record { sound = lit< tt; one = lit≤ tt; low = lit≤ tt };
      star = record { sound = lit< tt; one = lit≤ tt; high = lit≤ tt };
    }

-- printed 1,106,398,072 N, exact at these fractions 1,106,397,629.06 N; a ten-millionth is 107.14 N
pub over_four_units : AtMost (plus (exact heavy heavy_roots) (margin 4 heavy)) (over (printed heavy) 1)
    × LessBy (printed heavy) (exact heavy heavy_roots) (base_margin unit (hazards heavy) heavy.given.frame (sum heavy.weights))
unfolding cells sum between up down largest smallest bits_from lower_root upper_root floor ceiling approximate in_use spectrum
    exact_spectrum factor lower_factor upper_factor ratio modified blended bent newtons shear star base
over_four_units = (lit≤ tt, lit< tt)

-- ---- the storeys
abbrev pub tall_roots : Roots
tall_roots = record { v = over 1 1; vm = over 1 1; star = over 3 1 }

pub tall_raising : Raising (hazards tall) tall_roots
tall_raising =
    record {
      v = record { sound = lit< tt; one = lit≤ tt; low = lit≤ tt };
      vm = record { sound = lit< tt; one = lit≤ tt; low = lit≤ tt };
      star = record { sound = lit< tt; one = lit≤ tt; high = lit≤ tt };
    }

-- printed 321 N, exact 318.78 N; six ten-millionths are 0.004 N. The margin plus two newtons is six ten-millionths plus three newtons
pub over_two_newtons :
    AtMost (plus (exact_under tall tall_roots 1) (plus (margin 6 tall) (over 1 1))) (over (printed_under tall 1) 1)
    × LessBy (printed_under tall 1) (exact_under tall tall_roots 1) (storey_margin unit (hazards tall) tall.given.frame (sum tall.weights))
unfolding sum between up down largest smallest bits_from lower_root upper_root floor ceiling approximate in_use spectrum exact_spectrum
    factor lower_factor upper_factor ratio modified blended bent newtons shear star base weight_height
over_two_newtons = (lit≤ tt, lit< tt)

-- ---- the fractions
abbrev pub stiff_roots : Roots
stiff_roots = record { v = over 1 1; vm = over 3 1; star = over 2 1 }

-- as `Lowering` asks, but for V
pub stiff_fractions : Low (hazards stiff).design.square stiff_roots.v × High (hazards stiff).mce.square stiff_roots.vm
    × Low (hazards stiff).star.square stiff_roots.star
stiff_fractions = (
  record { sound = lit< tt; one = lit≤ tt; low = lit≤ tt },
  record { sound = lit< tt; one = lit≤ tt; high = lit≤ tt },
  record { sound = lit< tt; one = lit≤ tt; low = lit≤ tt },
)

-- printed 2,295,133 N, the chain 4,000,000 N
pub low_fraction_in_v : Less (over (printed stiff) 1) (exact stiff stiff_roots)
unfolding sum between up down largest smallest bits_from lower_root upper_root floor ceiling approximate in_use spectrum exact_spectrum
    factor lower_factor upper_factor ratio modified blended bent newtons shear star base
low_fraction_in_v = lit< tt
