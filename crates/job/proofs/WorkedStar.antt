-- The building of document 01's worked sheet with a larger R. V* rises, on its site, near a fault and in zone 3 of the Taipei Basin, while V, V_M and V_D
-- fall. Where V* is the largest V_D stays, so a larger R does not always lower it. The definition, computed.
-- Assumes nothing.
use Rattle.std.specs.Prelude.{Ok}
use mathlib.Core.Path.{refl}
use mathlib.Core.List.{List}
use Prim.Native.Nat.{ℕ, ◌<◌}
use native.Mathlib.Omega.{arith}
use Rattle.whole.specs.Cells.{cells, sum}
use Rattle.whole.specs.Line.{between}
use Rattle.whole.specs.Root.{lower_root, upper_root}
use Rattle.whole.specs.Rounding.{up, down}
use Rattle.whole.specs.Search.{largest, smallest, bits_from}
use Rattle.whole.specs.Signed.{floor, ceiling}
use Rattle.limits.specs.declared.frame.FrameValues.{FrameValues}
use Rattle.limits.specs.declared.ground.GroundValues.{GroundValues}
use Rattle.limits.specs.declared.ground.GroundValues.TheVariants.{Basin}
use Rattle.limits.specs.Kind.{judged_kind}
use Rattle.limits.specs.Frame.{judged_period, judged_frame}
use Rattle.limits.specs.Judging.{judged_job}
use Rattle.limits.specs.Levels.{weighed, raised, judged_levels}
use Rattle.limits.specs.Ranges.{in_range, among, within, listed}
use Rattle.limits.specs.Class.{judged_class}
use Rattle.limits.specs.Site.{judged_mapped, judged_near_fault, judged_site}
use Rattle.limits.specs.Zone.{judged_zone}
use Rattle.response.specs.Factor.{factor, lower_factor, upper_factor}
use Rattle.response.specs.Period.{approximate, in_use}
use Rattle.response.specs.Ratio.{bent, ratio, modified, blended}
use Rattle.response.specs.Spectrum.{exact_spectrum, spectrum}
use Rattle.base_shear.specs.declared.Figures.{Figures}
use Rattle.base_shear.specs.Shears.{newtons, shear, star, base, figures_at}
use Rattle.storeys.specs.Storeys.{weight_height, about}
use Rattle.job.specs.Job.{job_of, Figured}
use Rattle.job.specs.Moves.{with_r}
use Rattle.job.proofs.WorkedSheet.{site_with, plain, frame, weights, heights, figures}

abbrev near_fault : GroundValues
near_fault = site_with 112 123 118 136

-- ---- what is answered at 1.00 and at a larger R: on the site at 1,000 ms, near a fault at 500 ms, in zone 3
abbrev site100 : Figures
site100 = figures 2_700_000 3_071_429 900_000 3_071_429 1000

abbrev site175 : Figures
site175 = figures 2_142_858 2_195_920 1_071_429 2_195_920 1000

abbrev near_fault100 : Figures
near_fault100 = figures 4_480_000 5_900_000 1_333_334 5_900_000 500

abbrev near_fault400 : Figures
near_fault400 = figures 2_291_103 2_362_834 1_904_762 2_362_834 500

abbrev zone100 : Figures
zone100 = figures 3_257_143 4_000_000 1_302_858 4_000_000 1000

abbrev zone400 : Figures
zone400 = figures 1_756_098 1_488_569 1_714_286 1_756_098 1000

-- and at 4.80 and 6.00 on the site
abbrev site480 : Figures
site480 = figures 909_704 818_453 1_071_429 1_071_429 1000

abbrev site600 : Figures
site600 = figures 741_759 654_763 1_071_429 1_071_429 1000

abbrev Job : GroundValues → FrameValues → Figures → Type 0
Job s f n = Figured s f weights heights (Ok n)

answered : Job plain (frame 1000 100) site100 × Job plain (frame 1000 175) site175
    × Job near_fault (frame 500 100) near_fault100 × Job near_fault (frame 500 400) near_fault400
    × Job (Basin 3) (frame 1000 100) zone100 × Job (Basin 3) (frame 1000 400) zone400
    × Job plain (frame 1000 480) site480 × Job plain (frame 1000 600) site600
unfolding job_of judged_job judged_levels weighed raised within in_range among listed judged_site judged_mapped judged_near_fault judged_class
    judged_zone judged_frame judged_kind judged_period cells sum between lower_root upper_root up down largest smallest bits_from factor lower_factor
    upper_factor approximate in_use bent ratio modified blended exact_spectrum spectrum newtons shear star base figures_at weight_height about floor
    ceiling
answered = (refl, refl, refl, refl, refl, refl, refl, refl)

-- ---- V* rises with R, and the other three fall: two accepted jobs that differ in R alone
abbrev StarRises : GroundValues → FrameValues → ℕ → Figures → Figures → Type 0
StarRises s f r n n' =
    Job s f n × Job s (with_r f r) n' × (f.r < r) × (n.star < n'.star) × (n'.v < n.v) × (n'.vm < n.vm) × (n'.vd < n.vd)

-- R = 1.00 and R = 1.75: 900,000 and 1,071,429 N
pub star_rises : StarRises plain (frame 1000 100) 175 site100 site175
star_rises = (answered.0, answered.1, omega arith, omega arith, omega arith, omega arith, omega arith)

-- R = 1.00 and R = 4.00: 1,333,334 and 1,904,762 N
pub star_rises_near_fault : StarRises near_fault (frame 500 100) 400 near_fault100 near_fault400
star_rises_near_fault = (answered.2, answered.3, omega arith, omega arith, omega arith, omega arith, omega arith)

-- R = 1.00 and R = 4.00: 1,302,858 and 1,714,286 N
pub star_rises_in_basin : StarRises (Basin 3) (frame 1000 100) 400 zone100 zone400
star_rises_in_basin = (answered.4, answered.5, omega arith, omega arith, omega arith, omega arith, omega arith)

-- ---- V_D does not always fall: R = 4.80 and R = 6.00 have 1,071,429 N
pub larger_r_always_lowers_false : ((G : GroundValues) (f : FrameValues) (ws hs : List ℕ) (r : ℕ) (n n' : Figures)
    → Figured G f ws hs (Ok n) → Figured G (with_r f r) ws hs (Ok n') → f.r < r → n'.vd < n.vd) → ⊥
larger_r_always_lowers_false p =
    let h = p plain (frame 1000 480) weights heights 600 site480 site600 answered.6 answered.7 (omega arith) in
    omega (arith, h)
