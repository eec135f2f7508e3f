-- The worked sheet in each zone of the Taipei Basin: accepted, with these results. The definition, computed.
--   in_zone z      the job of the worked sheet's frame and levels in zone z
--   resulted ..    V, V_M, V* and V_D at T = 1,000 ms; forces, shears and overturning moments, lowest level first
-- Assumes nothing.
use mathlib.Core.Path.{◌≡◌, refl}
use mathlib.Core.List.{[], ◌∷◌}
use Prim.Native.Nat.{ℕ}
use Rattle.whole.specs.Cells.{cells, sum}
use Rattle.whole.specs.Root.{lower_root, upper_root}
use Rattle.whole.specs.Rounding.{up, down}
use Rattle.whole.specs.Search.{largest, smallest, bits_from}
use Rattle.whole.specs.Signed.{floor, ceiling}
use Rattle.limits.specs.Kind.{judged_kind}
use Rattle.limits.specs.Frame.{judged_period, judged_frame}
use Rattle.limits.specs.Judging.{judged_job}
use Rattle.limits.specs.Levels.{weighed, raised, judged_levels}
use Rattle.limits.specs.Outcome.{Outcome}
use Rattle.limits.specs.Ranges.{in_range, among, within, listed}
use Rattle.limits.specs.declared.ground.GroundValues.TheVariants.{Basin}
use Rattle.limits.specs.Zone.{judged_zone}
use Rattle.response.specs.Factor.{factor, lower_factor, upper_factor}
use Rattle.response.specs.Period.{approximate, in_use}
use Rattle.response.specs.Ratio.{bent, ratio, modified, blended}
use Rattle.response.specs.Spectrum.{exact_spectrum, spectrum}
use Rattle.base_shear.specs.Shears.{newtons, shear, star, base, figures_at}
use Rattle.storeys.specs.Storeys.{weight_height, about}
use Rattle.job.specs.Job.{Results, job_of}
use Rattle.job.proofs.WorkedSheet.{frame, weights, heights, figures, resulted}

abbrev in_zone : ℕ → Outcome Results
in_zone z = job_of (Basin z) (frame 1000 480) weights heights 3

pub worked_basin : (in_zone 1 ≡ resulted (figures 1_917_367 1_873_973 1_714_286 1_917_367 1000) (297_191 ∷ 594_384 ∷ 1_025_792 ∷ [])
    (1_917_367 ∷ 1_620_176 ∷ 1_025_792 ∷ []) (456_333_500 ∷ 264_596_800 ∷ 102_579_200 ∷ []))
    × (in_zone 2 ≡ resulted (figures 1_720_550 1_535_010 1_714_286 1_720_550 1000) (266_685 ∷ 533_370 ∷ 920_495 ∷ [])
    (1_720_550 ∷ 1_453_865 ∷ 920_495 ∷ []) (409_491_000 ∷ 237_436_000 ∷ 92_049_500 ∷ []))
    × (in_zone 3 ≡ resulted (figures 1_522_143 1_248_292 1_714_286 1_714_286 1000) (265_714 ∷ 531_428 ∷ 917_144 ∷ [])
    (1_714_286 ∷ 1_448_572 ∷ 917_144 ∷ []) (408_000_200 ∷ 236_571_600 ∷ 91_714_400 ∷ []))
    × (in_zone 4 ≡ resulted (figures 1_256_158 1_011_905 1_457_143 1_457_143 1000) (225_857 ∷ 451_714 ∷ 779_572 ∷ [])
    (1_457_143 ∷ 1_231_286 ∷ 779_572 ∷ []) (346_800_100 ∷ 201_085_800 ∷ 77_957_200 ∷ []))
unfolding job_of judged_job judged_levels weighed raised within in_range among listed judged_zone judged_frame judged_kind
    judged_period cells sum lower_root upper_root up down largest smallest bits_from factor lower_factor upper_factor approximate
    in_use bent ratio modified blended exact_spectrum spectrum newtons shear star base figures_at weight_height about floor
    ceiling
worked_basin = (refl, refl, refl, refl)
