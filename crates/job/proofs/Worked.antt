-- Document 01's worked sheet is accepted, and its results are its listing's in ten-millionths: the definition, computed.
-- Assumes nothing.
use mathlib.Core.Path.{◌≡◌, refl}
use mathlib.Core.List.{[], ◌∷◌}
use Rattle.whole.specs.Cells.{cells, sum}
use Rattle.whole.specs.Line.{between}
use Rattle.whole.specs.Root.{lower_root, upper_root}
use Rattle.whole.specs.Rounding.{up, down}
use Rattle.whole.specs.Search.{largest, smallest, bits_from}
use Rattle.whole.specs.Signed.{floor, ceiling}
use Rattle.limits.specs.Kind.{judged_kind}
use Rattle.limits.specs.Frame.{judged_period, judged_frame}
use Rattle.limits.specs.Judging.{judged_job}
use Rattle.limits.specs.Levels.{weighed, raised, judged_levels}
use Rattle.limits.specs.Ranges.{in_range, among, within, listed}
use Rattle.limits.specs.Class.{judged_class}
use Rattle.limits.specs.Site.{judged_mapped, judged_near_fault, judged_site}
use Rattle.response.specs.Factor.{factor, lower_factor, upper_factor}
use Rattle.response.specs.Period.{approximate, in_use}
use Rattle.response.specs.Ratio.{bent, ratio, modified, blended}
use Rattle.response.specs.Spectrum.{exact_spectrum, spectrum}
use Rattle.base_shear.specs.Shears.{newtons, shear, star, base, figures_at}
use Rattle.storeys.specs.Storeys.{weight_height, about}
use Rattle.job.specs.Job.{job_of}
use Rattle.job.proofs.WorkedSheet.{plain, frame, weights, heights, figures, resulted}

pub worked : job_of plain (frame 1000 480) weights heights 3
    ≡ resulted (figures 909_704 818_453 1_071_429 1_071_429 1000) (166_071 ∷ 332_143 ∷ 573_215 ∷ [])
    (1_071_429 ∷ 905_358 ∷ 573_215 ∷ []) (255_000_200 ∷ 147_857_300 ∷ 57_321_500 ∷ [])
unfolding job_of judged_job judged_levels weighed raised within in_range among listed judged_site judged_mapped judged_near_fault
    judged_class judged_frame judged_kind judged_period cells sum between lower_root upper_root up down largest smallest bits_from factor
    lower_factor upper_factor approximate in_use bent ratio modified blended exact_spectrum spectrum newtons shear star base figures_at
    weight_height about floor ceiling
worked = refl
