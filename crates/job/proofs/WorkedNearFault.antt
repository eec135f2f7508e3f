-- The worked sheet's building near a fault, at T = 500 ms: with a pair of near-fault factors for each hazard level, with the larger of the two pairs
-- for both levels, and with the smaller one for both. The larger overstates V by 111,973 N, and V_D by 51,077 N; the smaller understates
-- V_M by 175,776 N, and V_D by 60,896 N. The definition, computed.
--   near_fault nad nvd nam nvm    its job with these factors
-- Assumes nothing.
use mathlib.Core.Path.{◌≡◌, refl}
use mathlib.Core.List.{[], ◌∷◌}
use Prim.Native.Nat.{ℕ}
use Rattle.whole.specs.Cells.{cells, sum}
use Rattle.whole.specs.Line.{between}
use Rattle.whole.specs.Root.{lower_root, upper_root}
use Rattle.whole.specs.Rounding.{up, down}
use Rattle.whole.specs.Search.{largest, smallest, bits_from}
use Rattle.whole.specs.Signed.{floor, ceiling}
use Rattle.limits.specs.Kind.{judged_kind}
use Rattle.limits.specs.Frame.{judged_period, judged_frame}
use Rattle.limits.specs.Judging.{judged_job}
use Rattle.limits.specs.Levels.{weighed, raised, judged_levels}
use Rattle.limits.specs.Outcome.{Outcome}
use Rattle.limits.specs.Ranges.{in_range, among, within, listed}
use Rattle.limits.specs.Class.{judged_class}
use Rattle.limits.specs.Site.{judged_mapped, judged_near_fault, judged_site}
use Rattle.response.specs.Factor.{factor, lower_factor, upper_factor}
use Rattle.response.specs.Period.{approximate, in_use}
use Rattle.response.specs.Ratio.{bent, ratio, modified, blended}
use Rattle.response.specs.Spectrum.{exact_spectrum, spectrum}
use Rattle.base_shear.specs.Shears.{newtons, shear, star, base, figures_at}
use Rattle.storeys.specs.Storeys.{weight_height, about}
use Rattle.job.specs.Job.{Results, job_of}
use Rattle.job.proofs.WorkedSheet.{site_with, frame, weights, heights, figures, resulted}

abbrev near_fault : ℕ → ℕ → ℕ → ℕ → Outcome Results
near_fault nad nvd nam nvm = job_of (site_with nad nvd nam nvm) (frame 500 480) weights heights 3

pub worked_near_fault : (near_fault 112 123 118 136 ≡ resulted (figures 2_116_869 2_177_765 1_904_762 2_177_765 500) (362_960 ∷ 725_922 ∷ 1_088_883 ∷ [])
    (2_177_765 ∷ 1_814_805 ∷ 1_088_883 ∷ []) (508_145_300 ∷ 290_368_800 ∷ 108_888_300 ∷ []))
    × (near_fault 118 136 118 136 ≡ resulted (figures 2_228_842 2_177_765 1_904_762 2_228_842 500) (371_473 ∷ 742_948 ∷ 1_114_421 ∷ [])
    (2_228_842 ∷ 1_857_369 ∷ 1_114_421 ∷ []) (520_063_200 ∷ 297_179_000 ∷ 111_442_100 ∷ []))
    × (near_fault 112 123 112 123 ≡ resulted (figures 2_116_869 2_001_989 1_904_762 2_116_869 500) (352_811 ∷ 705_623 ∷ 1_058_435 ∷ [])
    (2_116_869 ∷ 1_764_058 ∷ 1_058_435 ∷ []) (493_936_200 ∷ 282_249_300 ∷ 105_843_500 ∷ []))
unfolding job_of judged_job judged_levels weighed raised within in_range among listed judged_site judged_mapped judged_near_fault
    judged_class judged_frame judged_kind judged_period cells sum between lower_root upper_root up down largest smallest bits_from factor
    lower_factor upper_factor approximate in_use bent ratio modified blended exact_spectrum spectrum newtons shear star base figures_at
    weight_height about floor ceiling
worked_near_fault = (refl, refl, refl)
