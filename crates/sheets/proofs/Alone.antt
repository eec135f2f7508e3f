-- A row of a file is what the sheet alone is given: number, place and the five figures of its outcome (`outcome_of`), which the listing of the sheet prints.
--   sheet_weight s    W of what the sheet s holds, where it is read
-- Assumes nothing.
use mathlib.Core.Path.{◌≡◌, refl, ap, ◌∙◌}
use mathlib.Core.List.{List, ◌∷◌}
use Prim.Native.Nat.{ℕ}
use Rattle.whole.specs.Cells.{sum}
use Rattle.limits.specs.Outcome.{Outcome, accepted, refused, number, place, values, ◌>>=◌}
use Rattle.job.specs.Job.{Results}
use Rattle.job.specs.ShearCall.{five}
use Rattle.sheet.specs.Listing.{job_of_sheet, outcome_of}
use Rattle.sheet.specs.Reading.{read_sheet}
use Rattle.sheet.specs.Sheet.{Sheet}
use Rattle.district_call.specs.declared.weighed.Weighed.{Weighed}
use Rattle.district_call.specs.Row.{row_of}
use Rattle.district_call.specs.Weighed.{weighed_job}
use Rattle.sheets.specs.Answers.{weighed_sheet, sheet_answer}

abbrev weight_in : Outcome Sheet → ℕ
weight_in (accepted r) = sum r.levels.weights
weight_in (refused n p) = 0

abbrev pub sheet_weight : List ℕ → ℕ
sheet_weight s = weight_in (read_sheet s)

-- figures with a weight
abbrev pub weighed_by : ℕ → Results → Weighed
weighed_by W r = record { figures = r.figures; weight = W }

-- the answer to a sheet is its outcome, without the levels and with W
pub answer_is : (s : List ℕ) → sheet_answer s ≡ (outcome_of s >>= λ r. accepted (weighed_by (sheet_weight s) r))
unfolding sheet_answer weighed_job
answer_is s = go (read_sheet s)
  where
    of_job : (W : ℕ) (o : Outcome Results)
        → ((o >>= λ r. accepted r.figures) >>= λ n. accepted (record { figures = n; weight = W })) ≡ (o >>= λ r. accepted (weighed_by W r))
    of_job W (accepted r) = refl
    of_job W (refused n p) = refl

    go : (o : Outcome Sheet) → (o >>= weighed_sheet) ≡ ((o >>= job_of_sheet) >>= λ r. accepted (weighed_by (weight_in o) r))
    go (accepted r) = of_job (sum r.levels.weights) (job_of_sheet r)
    go (refused n p) = refl

-- number, place and figures of the row, whatever the sheet
pub row_alone : (s : List ℕ) → row_of (sheet_answer s) ≡ number (outcome_of s) ∷ place (outcome_of s) ∷ values (λ r. five r.figures) 5 (outcome_of s)
unfolding row_of
row_alone s = ap row_of (answer_is s) ∙ go (outcome_of s)
  where
    go : (o : Outcome Results) → row_of (o >>= λ r. accepted (weighed_by (sheet_weight s) r)) ≡ number o ∷ place o ∷ values (λ r. five r.figures) 5 o
    go (accepted r) = refl
    go (refused n p) = refl
