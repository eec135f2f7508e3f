-- When each refusal of a sheet applies: 'What comes back when data is bad', 17 and 16, and 1 to 12 and 18 of the job of what it holds.
--   HeldApplies r n p     refusal n applies at place p to the job of what a sheet holds
--   SheetApplies s n p    refusal n applies at place p to the bytes s: 17 where they are over 4,096; 16 at the first line that is
--                         otherwise; and where the lines are as they may be, what applies to their job
use Rattle.std.specs.Prelude.{◌≡◌, List, ℕ, ◌<◌, length}
use Rattle.limits.specs.Applies.{JobApplies}
use Rattle.sheet.specs.Layouts.{Line, lines_laid, LaidLines}
use Rattle.sheet.specs.Otherwise.{FirstOtherwise}
use Rattle.sheet.specs.Sheet.{sheet_form, Sheet, sheet_of}

abbrev pub HeldApplies : Sheet → ℕ → ℕ → Type 0
HeldApplies r = JobApplies r.ground r.frame r.levels.weights r.levels.heights (length r.levels.weights)

pub data SheetApplies (s : List ℕ) : ℕ → ℕ → Type 0 where
  long : 4_096 < length s → SheetApplies s 17 0
  line : {p : ℕ} → FirstOtherwise sheet_form p s → SheetApplies s 16 p
  of_job : {n p : ℕ} (ls : List Line) → LaidLines sheet_form ls → s ≡ lines_laid ls → HeldApplies (sheet_of ls) n p
      → SheetApplies s n p
