-- 'Sheet and listing': how a sheet is read, and the code's answers.
--   sheet_lines bytes       what the lines of a sheet hold, or 16 at the first that is otherwise
--   level_lines bytes       what the lines from line 3 on hold
--   read_sheet bytes        17 at 0 where there are over 4,096 bytes; else what the lines hold
--   kept_most               how many levels are kept: one more than a job may have, so that the job can refuse the count
--   kept l, cells_of l      the first of a list, as many as are kept; in as many cells, zeros in the rest
--   ground_line_answer o          the code's answer to the reading o of line 1: the ground that it holds, and the bytes after it; none where it is
--                          otherwise
--   levels_kept ls          the code's cells of the levels ls, and how many are kept
--   levels_read o, sheet_read o          the code's answer to the outcome o, its weights and heights in cells
-- A sheet without level lines is read: 1 is refused by the job.
use Rattle.std.specs.Prelude.{List, ℕ, ◌+◌, leb, length, take, Option, Some, None, Ok, Err}
use Rattle.whole.specs.Cells.{laid}
use Rattle.limits.specs.declared.ground.GroundValues.{GroundValues}
use Rattle.limits.specs.Judging.{given_values}
use Rattle.limits.specs.Outcome.{Outcome, Answer, accepted, refused, zeros, require, ◌>>=◌, ◌>>◌}
use Rattle.sheet.specs.declared.levels.LevelsRead.{LevelsRead}
use Rattle.sheet.specs.declared.reader.SheetRead.{SheetRead}
use Rattle.sheet.specs.Lines.{Front, read_from}
use Rattle.sheet.specs.Sheet.{sheet_form, level_form, ground_of, Levels, levels_of, Sheet, sheet_of}

unfoldable pub sheet_lines : List ℕ → Outcome Sheet
sheet_lines s = do
  ls ← read_from 1 sheet_form s
  accepted (sheet_of ls)

unfoldable pub level_lines : List ℕ → Outcome Levels
level_lines s = do
  ls ← read_from 3 level_form s
  accepted (levels_of ls)

unfoldable pub read_sheet : List ℕ → Outcome Sheet
read_sheet s = do
  require (leb (length s) 4_096) 17 0
  sheet_lines s

abbrev pub kept_most : ℕ
kept_most = 50 + 1

abbrev pub kept : List ℕ → List ℕ
kept l = take kept_most l

abbrev pub cells_of : List ℕ → List ℕ
cells_of l = laid (kept l) (zeros kept_most)

unfoldable pub ground_line_answer : Outcome Front → Option (GroundValues × List ℕ)
ground_line_answer (accepted x) = Some (ground_of x.line, x.rest)
ground_line_answer (refused n p) = None

abbrev pub levels_kept : Levels → LevelsRead
levels_kept ls = record { weights = cells_of ls.weights; heights = cells_of ls.heights; count = length (kept ls.weights) }

unfoldable pub levels_read : Outcome Levels → Answer LevelsRead
levels_read (accepted ls) = Ok (levels_kept ls)
levels_read (refused n p) = Err (record { number = n; place = p })

unfoldable pub sheet_read : Outcome Sheet → Answer SheetRead
sheet_read (accepted r) = Ok (record { given = given_values r.ground r.frame; levels = levels_kept r.levels })
sheet_read (refused n p) = Err (record { number = n; place = p })
