-- What each sheet of a file is answered.
--   weighed_sheet r    of what a sheet holds: the answer to its job, with its total weight
--   sheet_answer s     of the bytes s of a sheet: 17, then 16, as the sheet alone is refused; else of what it holds
--   answers_in s       of each sheet of the file s, in order
use Rattle.std.specs.Prelude.{List, map, ℕ}
use Rattle.limits.specs.Outcome.{Outcome, ◌>>=◌}
use Rattle.sheet.specs.Reading.{read_sheet}
use Rattle.sheet.specs.Sheet.{Sheet}
use Rattle.district_call.specs.declared.weighed.Weighed.{Weighed}
use Rattle.district_call.specs.Weighed.{weighed_job}
use Rattle.sheets.specs.Split.{sheets_in}

abbrev pub weighed_sheet : Sheet → Outcome Weighed
weighed_sheet r = weighed_job r.ground r.frame r.levels.weights r.levels.heights

unfoldable pub sheet_answer : List ℕ → Outcome Weighed
sheet_answer s = read_sheet s >>= weighed_sheet

abbrev pub answers_in : List ℕ → List (Outcome Weighed)
answers_in s = map sheet_answer (sheets_in s)
