-- A file of sheets is given the first refusal that applies to the whole, 22; and each of its sheets the first that applies to it, as the sheet alone is:
-- 17, then 16 at a line of its own, then what its job is given.
-- Assumes nothing.
use mathlib.Core.Path.{refl, sym, subst}
use mathlib.Core.List.{List}
use mathlib.Core.Logic.{inl, inr}
use Prim.Native.Nat.{ℕ}
use lib.Dec.{leb}
use lib.ListN.{length}
use borrow.Author.Tests.{leb-false, lt-leb}
use Rattle.limits.specs.FirstRefusal.{FirstRefusal}
use Rattle.limits.specs.Outcome.{require}
use Rattle.limits.proofs.First.{first_refusal, first_of_value, first_then_value}
use Rattle.limits.proofs.Precedence.{Stops, first_stops, later_stops, require_yields, require_stops}
use Rattle.limits.proofs.Told.{Told, then_told, require_told}
use Rattle.sheet.specs.Applies.{SheetApplies}
use Rattle.sheet.specs.Listing.{outcome_of}
use Rattle.sheet.proofs.Foremost.{sheet_first}
use Rattle.sheets.proofs.Alone.{sheet_weight, weighed_by, answer_is}
use Rattle.sheets.specs.Answers.{sheet_answer, answers_in}
use Rattle.sheets.specs.Judged.{bytes_most, judged_file, FileApplies, long, many}
use Rattle.sheets.specs.Listing.{file_of}
use Rattle.sheets.specs.Split.{sheets_in}

module _ (s : List ℕ) where
  stops : (n q : ℕ) → FileApplies s n q → Stops n q (judged_file s)
  unfolding judged_file
  stops n q (long h) =
      first_stops 22 0 (require (leb (length s) bytes_most) 22 0) _
      (require_stops 22 0 (leb (length s) bytes_most) 22 0 (lt-leb _ _ h) (inr (refl, inl refl)))
  stops n q (many h) =
      later_stops 22 0 (require (leb (length s) bytes_most) 22 0) _
      (require_yields 22 0 (leb (length s) bytes_most) 22 0 (inr (refl, inl refl)))
      (λ _. require_stops 22 0 (leb (length (sheets_in s)) 256) 22 0 (lt-leb _ _ h) (inr (refl, inl refl)))

  told : Told (FileApplies s) (judged_file s)
  unfolding judged_file
  told =
      then_told (FileApplies s) (require (leb (length s) bytes_most) 22 0) _
      (require_told (FileApplies s) (leb (length s) bytes_most) 22 0 (λ e. long (leb-false _ _ e)))
      (λ _. require_told (FileApplies s) (leb (length (sheets_in s)) 256) 22 0 (λ e. many (leb-false _ _ e)))

  judged_first : FirstRefusal (FileApplies s) (judged_file s)
  judged_first = first_refusal (FileApplies s) (judged_file s) stops told

  pub file_first : FirstRefusal (FileApplies s) (file_of s)
  unfolding file_of
  file_first = first_then_value (FileApplies s) (judged_file s) (answers_in s) judged_first

-- a sheet of the file
pub row_first : (s : List ℕ) → FirstRefusal (SheetApplies s) (sheet_answer s)
row_first s =
    subst (FirstRefusal (SheetApplies s)) (sym (answer_is s))
    (first_of_value (SheetApplies s) (outcome_of s) (weighed_by (sheet_weight s)) (sheet_first s))
