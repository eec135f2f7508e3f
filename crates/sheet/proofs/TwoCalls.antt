-- 'The sheet program uses both, printing and refusing as before': what a sheet is given is what the shear call and the distribution make in
-- turn of what it holds; and its refusal is never 19 or 20.
-- Assumes nothing.
use mathlib.Core.Path.{◌≡◌, refl}
use mathlib.Core.List.{List}
use Prim.Native.Nat.{ℕ, ◌≤◌}
use native.Mathlib.Omega.{arith}
use lib.ListN.{length}
use Rattle.limits.specs.Outcome.{Outcome, accepted, refused, ◌>>=◌}
use Rattle.limits.proofs.Numbers.{numbered_levels, at_most_18}
use Rattle.job.specs.InTurn.{in_turn}
use Rattle.job.specs.Job.{Results}
use Rattle.job.proofs.InTurn.{job_in_turn}
use Rattle.sheet.proofs.Foremost.{sheet_first}
use Rattle.sheet.specs.Applies.{SheetApplies, long, line, of_job}
use Rattle.sheet.specs.Listing.{job_of_sheet, outcome_of}
use Rattle.sheet.specs.Reading.{read_sheet}
use Rattle.sheet.specs.Sheet.{Sheet}

-- the two calls in turn, of what a sheet holds
abbrev pub sheet_in_turn : Sheet → Outcome Results
sheet_in_turn r = in_turn r.ground r.frame r.levels.weights r.levels.heights (length r.levels.weights)

pub sheet_in_turn_lem : (s : List ℕ) → outcome_of s ≡ (read_sheet s >>= sheet_in_turn)
sheet_in_turn_lem s = go (read_sheet s)
  where
    go : (o : Outcome Sheet) → (o >>= job_of_sheet) ≡ (o >>= sheet_in_turn)
    go (accepted r) = job_in_turn r.ground r.frame r.levels.weights r.levels.heights (length r.levels.weights)
    go (refused n p) = refl

-- ---- the numbers of a sheet end at 18, as those of a job do
of_sheets : (s : List ℕ) (n p : ℕ) → SheetApplies s n p → n ≤ 18
of_sheets s n p (long h) = omega arith
of_sheets s n p (line f) = omega arith
of_sheets s n p (of_job ls t is a) = (at_most_18 _ (λ n p. numbered_levels) _ _ a).1

pub never_19_nor_20 : (s : List ℕ) (n p : ℕ) → outcome_of s ≡ refused n p → n ≤ 18
never_19_nor_20 s n p e = of_sheets s n p ((sheet_first s).refused_applies n p e)
