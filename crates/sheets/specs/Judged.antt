-- Number 22 of a file of sheets: 'over 256 jobs'.
--   bytes_most           as many bytes as 256 sheets of 4,096 have with an empty line each: a file that has more is not read to its end
--   judged_file s        22 at 0 where the file s has more bytes, or over 256 sheets
--   FileApplies s n p    refusal n applies at place p to the whole file
use Rattle.std.specs.Prelude.{List, ℕ, ◌<◌, leb, length}
use Rattle.limits.specs.Outcome.{Outcome, Done, require, ◌>>◌}
use Rattle.sheets.specs.Split.{sheets_in}

abbrev pub bytes_most : ℕ
bytes_most = 1_048_832

unfoldable pub judged_file : List ℕ → Outcome Done
judged_file s = do
  require (leb (length s) bytes_most) 22 0
  require (leb (length (sheets_in s)) 256) 22 0

pub data FileApplies (s : List ℕ) : ℕ → ℕ → Type 0 where
  long : bytes_most < length s → FileApplies s 22 0
  many : 256 < length (sheets_in s) → FileApplies s 22 0
