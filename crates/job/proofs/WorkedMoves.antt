-- The building of document 01's worked sheet with a heavier roof: V_D rises, and the forces below the roof fall. And with another T, where a heavier
-- building has a lower V_D, and a larger R a higher V. The definition, computed.
-- Assumes nothing.
use Rattle.std.specs.Prelude.{Ok}
use mathlib.Core.Path.{◌≡◌, refl}
use mathlib.Core.List.{[], ◌∷◌}
use Prim.Native.Nat.{ℕ, ◌≤◌, ◌<◌}
use native.Mathlib.Omega.{arith}
use lib.ListN.{get_or}
use Rattle.whole.specs.Cells.{cells, sum}
use Rattle.whole.specs.Line.{between}
use Rattle.whole.specs.Root.{lower_root, upper_root}
use Rattle.whole.specs.Rounding.{up, down}
use Rattle.whole.specs.Search.{largest, smallest, bits_from}
use Rattle.whole.specs.Signed.{floor, ceiling}
use Rattle.limits.specs.declared.frame.FrameValues.{FrameValues}
use Rattle.limits.specs.declared.ground.GroundValues.{GroundValues}
use Rattle.limits.specs.Building.{judged_building}
use Rattle.limits.specs.Kind.{judged_kind}
use Rattle.limits.specs.Frame.{judged_period, judged_frame}
use Rattle.limits.specs.Judging.{judged_job, judged_shear_call}
use Rattle.limits.specs.Levels.{weighed, raised, judged_levels}
use Rattle.limits.specs.Outcome.{accepted}
use Rattle.limits.specs.Ranges.{in_range, among, within, listed}
use Rattle.limits.specs.Class.{judged_class}
use Rattle.limits.specs.Site.{judged_mapped, judged_near_fault, judged_site}
use Rattle.response.specs.Factor.{factor, lower_factor, upper_factor}
use Rattle.response.specs.Period.{approximate, in_use}
use Rattle.response.specs.Ratio.{bent, ratio, modified, blended}
use Rattle.response.specs.Spectrum.{exact_spectrum, spectrum}
use Rattle.base_shear.specs.declared.Figures.{Figures}
use Rattle.base_shear.specs.Shears.{newtons, shear, star, base, figures_at}
use Rattle.storeys.specs.Storeys.{weight_height, about}
use Rattle.job.specs.Job.{Results, job_of}
use Rattle.job.specs.Moves.{with_r, with_weight}
use Rattle.job.specs.ShearCall.{shear_call_of, Sheared}
use Rattle.job.proofs.Worked.{worked}
use Rattle.job.proofs.WorkedSheet.{plain, frame, weights, heights, figures}

-- ---- what is answered with no calculated period, 30 and 35 m high: T is 897 and 1,007 ms
abbrev of30 : Figures
of30 = figures 1_014_163 912_434 1_194_458 1_194_458 897

abbrev heavier_of35 : Figures
heavier_of35 = figures 963_606 866_948 1_134_913 1_134_913 1007

abbrev of35 : Figures
of35 = figures 903_380 812_764 1_063_981 1_063_981 1007

abbrev more_ductile_of30 : Figures
more_ductile_of30 = figures 1_012_253 910_537 1_194_458 1_194_458 897

-- with the roof of 5,000 kN, as on the sheet, and of 6,000 kN
abbrev light : Results
light =
    record {
      figures = figures 909_704 818_453 1_071_429 1_071_429 1000;
      columns = record { forces = 166_071 ∷ 332_143 ∷ 573_215 ∷ []; shears = 1_071_429 ∷ 905_358 ∷ 573_215 ∷ []; overturnings = 255_000_200 ∷ 147_857_300 ∷ 57_321_500 ∷ [] };
    }

abbrev heavy : Results
heavy =
    record {
      figures = figures 970_351 873_017 1_142_858 1_142_858 1000;
      columns = record { forces = 161_038 ∷ 322_078 ∷ 659_742 ∷ []; shears = 1_142_858 ∷ 981_820 ∷ 659_742 ∷ []; overturnings = 278_442_000 ∷ 164_156_200 ∷ 65_974_200 ∷ [] };
    }

answered : Sheared plain (frame 0 480) 15_000 300 (Ok of30) × Sheared plain (frame 0 480) 16_000 350 (Ok heavier_of35)
    × Sheared plain (frame 0 480) 15_000 350 (Ok of35) × Sheared plain (frame 0 481) 15_000 300 (Ok more_ductile_of30)
unfolding judged_site judged_mapped judged_near_fault judged_class judged_frame judged_kind judged_period shear_call_of judged_shear_call judged_building within
    in_range among listed between lower_root upper_root up down largest smallest bits_from factor lower_factor upper_factor approximate in_use bent ratio
    modified blended exact_spectrum spectrum newtons shear star base figures_at floor ceiling
answered = (refl, refl, refl, refl)

-- ---- a heavier roof: V_D rises, and the forces of both levels below it fall
pub heavier_roof : (job_of plain (frame 1000 480) weights heights 3 ≡ accepted light)
    × (job_of plain (frame 1000 480) (with_weight weights 2 6000) heights 3 ≡ accepted heavy)
    × (light.figures.vd < heavy.figures.vd)
    × (get_or heavy.columns.forces 0 0 < get_or light.columns.forces 0 0) × (get_or heavy.columns.forces 1 0 < get_or light.columns.forces 1 0)
unfolding job_of judged_job judged_levels weighed raised within in_range among listed judged_site judged_mapped judged_near_fault judged_class
    judged_frame judged_kind judged_period cells sum between lower_root upper_root up down largest smallest bits_from factor lower_factor
    upper_factor approximate in_use bent ratio modified blended exact_spectrum spectrum newtons shear star base figures_at weight_height about floor
    ceiling
heavier_roof = (worked, refl, omega arith, omega arith, omega arith)

-- ---- with nothing said of T neither a heavier building nor a larger R moves the figures the one way
-- 15,000 kN at 30 m have 1,194,458 N, and 16,000 kN at 35 m have 1,134,913 N
pub heavier_at_any_period_false : ((G : GroundValues) (f : FrameValues) (W h W' h' : ℕ) (n n' : Figures)
    → Sheared G f W h (Ok n) → Sheared G f W' h' (Ok n') → W ≤ W' → n.vd ≤ n'.vd) → ⊥
heavier_at_any_period_false p =
    let h = p plain (frame 0 480) 15_000 300 16_000 350 of30 heavier_of35 answered.0 answered.1 (omega arith) in
    omega (arith, h)

-- R = 4.80 at 35 m has V = 903,380 N, and R = 4.81 at 30 m has V = 1,012,253 N
pub larger_r_at_any_period_false : ((G : GroundValues) (f : FrameValues) (W h r h' : ℕ) (n n' : Figures)
    → Sheared G f W h (Ok n) → Sheared G (with_r f r) W h' (Ok n') → f.r ≤ r → n'.v ≤ n.v) → ⊥
larger_r_at_any_period_false p =
    let h = p plain (frame 0 480) 15_000 350 481 300 of35 more_ductile_of30 answered.2 answered.3 (omega arith) in
    omega (arith, h)
