-- The report of a file of sheets that was taken is as that of a call: cells add up to the accepted sheets, accepted and refused to the sheets, the three governing
-- counts to the accepted; the sum fits; of no sheet at all it is zeros.
-- Assumes nothing.
use mathlib.Core.Path.{◌≡◌, refl}
use mathlib.Core.Bool.{Bool, true, false}
use mathlib.Core.List.{List}
use Prim.Native.Nat.{ℕ, ◌≤◌}
use lib.Dec.{leb}
use lib.ListN.{length}
use borrow.Author.Tests.{leb-true}
use Rattle.limits.specs.Outcome.{Outcome, accepted, refused, Done, require, ◌>>◌}
use Rattle.limits.proofs.Passed.{never, then_passed}
use Rattle.district_call.specs.declared.weighed.Weighed.{Weighed}
use Rattle.district_call.specs.Report.{report_of}
use Rattle.district_call.proofs.CallReports.{Reported, reported_of}
use Rattle.sheets.specs.Answers.{sheet_answer, answers_in}
use Rattle.sheets.specs.Judged.{bytes_most, judged_file}
use Rattle.sheets.specs.Listing.{file_of}
use Rattle.sheets.specs.Split.{sheets_in}
use Rattle.sheets.proofs.Answered.{answer_sorted}

module _ (s : List ℕ) where
  -- a file that is taken has at most 256 sheets
  few : judged_file s ≡ accepted tt → length (sheets_in s) ≤ 256
  unfolding judged_file
  few e =
      go (leb (length (sheets_in s)) 256) refl
      (then_passed (require (leb (length s) bytes_most) 22 0) (require (leb (length (sheets_in s)) 256) 22 0) e).1
    where
      go : (t : Bool) → leb (length (sheets_in s)) 256 ≡ t → require t 22 0 ≡ accepted tt → length (sheets_in s) ≤ 256
      go true l h = leb-true _ _ l
      go false l h = absurd (never h)

  pub file_reported : (os : List (Outcome Weighed)) → file_of s ≡ accepted os → Reported (sheets_in s) (report_of (answers_in s))
  unfolding file_of
  file_reported os e = reported_of sheet_answer answer_sorted (sheets_in s) (few (passed (judged_file s) e))
    where
      passed : (o : Outcome Done) → (o >> accepted (answers_in s)) ≡ accepted os → o ≡ accepted tt
      passed (accepted u) h = refl
      passed (refused n p) h = absurd (never h)
