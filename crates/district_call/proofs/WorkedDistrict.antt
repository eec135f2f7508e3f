-- A district of five jobs, computed: a stretch outside the store; document 01's worked sheet, where V* governs; a job in the last cell, where V_M governs; a job at
-- the lower edge of cell 18 with V and V_M alike, which counts for V; and the worked sheet's building in zone 2 of the Taipei Basin. Its third and its fourth job
-- share no level, its second, fourth and fifth share all.
--   jobs, weights, heights    the jobs and the store
--   answers                   what each job is answered: `worked_answers`; rows and report of them: `worked_rows`, `worked_totals`, `worked_cells`
-- Assumes nothing.
use mathlib.Core.Path.{◌≡◌, refl}
use mathlib.Core.List.{List, [], ◌∷◌, map}
use Prim.Native.Nat.{ℕ}
use lib.ListN.{get_or}
use Rattle.whole.specs.Cells.{cells, sum}
use Rattle.whole.specs.Line.{between}
use Rattle.whole.specs.Root.{lower_root, upper_root}
use Rattle.whole.specs.Rounding.{up, down}
use Rattle.whole.specs.Search.{largest, smallest, bits_from}
use Rattle.whole.specs.Signed.{floor, ceiling}
use Rattle.limits.specs.Kind.{judged_kind}
use Rattle.limits.specs.District.{judged_stretch}
use Rattle.limits.specs.Frame.{judged_period, judged_frame}
use Rattle.limits.specs.Judging.{judged_job}
use Rattle.limits.specs.Levels.{weighed, raised, judged_levels}
use Rattle.limits.specs.Outcome.{Outcome, accepted, refused}
use Rattle.limits.specs.Ranges.{in_range, among, within, listed}
use Rattle.limits.specs.Class.{judged_class}
use Rattle.limits.specs.Site.{judged_mapped, judged_near_fault, judged_site}
use Rattle.limits.specs.Zone.{judged_zone}
use Rattle.response.specs.Factor.{factor, lower_factor, upper_factor}
use Rattle.response.specs.Period.{approximate, in_use}
use Rattle.response.specs.Ratio.{bent, ratio, modified, blended}
use Rattle.response.specs.Spectrum.{exact_spectrum, spectrum}
use Rattle.base_shear.specs.Shears.{newtons, shear, star, base, figures_at}
use Rattle.job.specs.Job.{job_of}
use Rattle.district_call.specs.declared.weighed.Weighed.{Weighed}
use Rattle.district_call.specs.District.{answers_to}
use Rattle.district_call.specs.Report.{how_many, thousandths, cell_of, by_v, by_vm, by_star, report_of}
use Rattle.district_call.specs.Row.{answer_to, row_of}
use Rattle.district_call.specs.Weighed.{weighed_job}

abbrev pub weights : List ℕ
weights = 5000 ∷ 5000 ∷ 5000 ∷ 1000 ∷ []

abbrev pub heights : List ℕ
heights = 100 ∷ 200 ∷ 300 ∷ 100 ∷ []

-- a job on a hard site, by its mapped values and N_A of the MCE level, of calculated period c, R, I, alpha-y, start and count
abbrev on_hard : ℕ → ℕ → ℕ → ℕ → ℕ → ℕ → ℕ → ℕ → ℕ → ℕ → ℕ → List ℕ
on_hard ssd s1d ssm s1m nam c r i α start count =
    0 ∷ 0 ∷ ssd ∷ s1d ∷ ssm ∷ s1m ∷ 100 ∷ 100 ∷ nam ∷ 100 ∷ 1 ∷ 2 ∷ c ∷ r ∷ i ∷ α ∷ start ∷ count ∷ []

-- and one in a zone of the Basin, whose site plays no part
abbrev in_zone : ℕ → List ℕ
in_zone z = 1 ∷ z ∷ 0 ∷ 0 ∷ 0 ∷ 0 ∷ 0 ∷ 0 ∷ 0 ∷ 0 ∷ 0 ∷ 2 ∷ 1000 ∷ 480 ∷ 100 ∷ 150 ∷ 0 ∷ 3 ∷ []

abbrev pub jobs : List (List ℕ)
jobs =
    on_hard 80 45 100 55 100 1000 480 100 150 5 1
    ∷ on_hard 80 45 100 55 100 1000 480 100 150 0 3
    ∷ on_hard 80 45 100 55 150 200 100 150 100 3 1
    ∷ on_hard 80 45 80 45 100 1000 100 100 150 0 3
    ∷ in_zone 2
    ∷ []

abbrev weighing : ℕ → ℕ → ℕ → ℕ → ℕ → ℕ → Outcome Weighed
weighing v vm star vd t w = accepted (record { figures = record { v = v; vm = vm; star = star; vd = vd; t = t }; weight = w })

abbrev pub answers : List (Outcome Weighed)
answers =
    refused 21 0
    ∷ weighing 909_704 818_453 1_071_429 1_071_429 1000 15_000
    ∷ weighing 600_000 1_125_000 200_000 1_125_000 200 1000
    ∷ weighing 2_700_000 2_700_000 900_000 2_700_000 1000 15_000
    ∷ weighing 1_720_550 1_535_010 1_714_286 1_720_550 1000 15_000
    ∷ []

pub worked_answers : answers_to jobs weights heights ≡ answers
unfolding answer_to weighed_job judged_stretch judged_zone job_of judged_job judged_levels weighed raised within in_range among listed judged_site judged_mapped
    judged_near_fault judged_class judged_frame judged_kind judged_period cells sum between lower_root upper_root up down largest smallest bits_from factor
    lower_factor upper_factor approximate in_use bent ratio modified blended exact_spectrum spectrum newtons shear star base figures_at floor ceiling
worked_answers = refl

pub worked_rows : map row_of answers
    ≡ (21 ∷ 0 ∷ 0 ∷ 0 ∷ 0 ∷ 0 ∷ 0 ∷ [])
    ∷ (0 ∷ 0 ∷ 909_704 ∷ 818_453 ∷ 1_071_429 ∷ 1_071_429 ∷ 1000 ∷ [])
    ∷ (0 ∷ 0 ∷ 600_000 ∷ 1_125_000 ∷ 200_000 ∷ 1_125_000 ∷ 200 ∷ [])
    ∷ (0 ∷ 0 ∷ 2_700_000 ∷ 2_700_000 ∷ 900_000 ∷ 2_700_000 ∷ 1000 ∷ [])
    ∷ (0 ∷ 0 ∷ 1_720_550 ∷ 1_535_010 ∷ 1_714_286 ∷ 1_720_550 ∷ 1000 ∷ [])
    ∷ []
unfolding row_of
worked_rows = refl

pub worked_totals : (report_of answers).totals
    ≡ record { accepted = 4; refused = 1; sum = 6_616_979; v = 2; vm = 1; star = 1 }
unfolding report_of how_many by_v by_vm by_star sum
worked_totals = refl

-- cells 7, 11 and 18 and the last, 112, hold one job each; cell 17, below the edge at which one stands, holds none
pub worked_cells : (get_or (report_of answers).cells 7 0 ≡ 1)
    × (get_or (report_of answers).cells 11 0 ≡ 1)
    × (get_or (report_of answers).cells 17 0 ≡ 0)
    × (get_or (report_of answers).cells 18 0 ≡ 1)
    × (get_or (report_of answers).cells 112 0 ≡ 1)
unfolding report_of how_many cells cell_of thousandths down
worked_cells = (refl, refl, refl, refl, refl)
