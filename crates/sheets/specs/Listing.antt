-- What is printed for a file of sheets, and the code's answer.
--   row_line i o          the line of sheet i, from 1, that is answered o: its number, then number, place, V, V_M, V*, V_D, T of its row
--   row_lines os          the rows of the answers os
--   totals_line t         the line of the totals t: accepted, refused, the sum of V_D, how often V, V_M and V* governed
--   cell_line k c         the line of cell k: its lowest thousandth, its highest, and how many jobs c it holds;  cell_lines cs    of the cells cs
--   report_lines r        the lines of the report r
--   file_of s             the answers to the sheets of the file s; or 22 for the whole
--   listing o            what is printed for it: rows and report, or the one line of a refusal
--   district_listing s    what is printed for the file s
--   longest              as many bytes as the longest listing may have: 20 digits a number, 256 rows, 113 cells
--   PutsFile s old held p    a buffer that held old holds `held`, with what is printed for s over its first cells and the rest as it was; p says its
--                        length and what is refused
use Rattle.std.specs.Prelude.{◌≡◌, List, [], ◌∷◌, ◌++◌, ℕ, ◌+◌, ◌*◌}
use Rattle.limits.specs.Outcome.{Outcome, accepted, refused, ◌>>◌}
use Rattle.text.specs.Bytes.{bytes}
use Rattle.text.specs.Writing.{laid_out}
use Rattle.sheet.specs.declared.Put.{Put}
use Rattle.sheet.specs.Listing.{refusal, Written, told}
use Rattle.district_call.specs.declared.report.Report.{Report}
use Rattle.district_call.specs.declared.report.Totals.{Totals}
use Rattle.district_call.specs.declared.weighed.Weighed.{Weighed}
use Rattle.district_call.specs.Report.{report_of}
use Rattle.district_call.specs.Row.{row_of}
use Rattle.sheets.specs.Answers.{answers_in}
use Rattle.sheets.specs.Judged.{judged_file}
use Rattle.sheets.specs.Numbered.{numbered}

unfoldable pub row_line : ℕ → Outcome Weighed → List ℕ
row_line i o = laid_out (bytes "row") (i ∷ row_of o)

abbrev pub row_lines : List (Outcome Weighed) → List ℕ
row_lines os = numbered row_line 1 os

unfoldable pub totals_line : Totals → List ℕ
totals_line t = laid_out (bytes "report") (t.accepted ∷ t.refused ∷ t.sum ∷ t.v ∷ t.vm ∷ t.star ∷ [])

unfoldable pub cell_line : ℕ → ℕ → List ℕ
cell_line k c = laid_out (bytes "cell") (10 * k ∷ (10 * k + 9) ∷ c ∷ [])

abbrev pub cell_lines : List ℕ → List ℕ
cell_lines cs = numbered cell_line 0 cs

abbrev pub report_lines : Report → List ℕ
report_lines r = totals_line r.totals ++ cell_lines r.cells

unfoldable pub file_of : List ℕ → Outcome (List (Outcome Weighed))
file_of s = do
  judged_file s
  accepted (answers_in s)

unfoldable pub listing : Outcome (List (Outcome Weighed)) → List ℕ
listing (accepted os) = row_lines os ++ report_lines (report_of os)
listing (refused n p) = refusal n p

unfoldable pub district_listing : List ℕ → List ℕ
district_listing s = listing (file_of s)

abbrev pub longest : ℕ
longest = 51_849

pub record PutsFile (s old held : List ℕ) (p : Put) : Type 0 where
  pub listed : Written (district_listing s) old held p.length
  pub refusal_is : p.refusal ≡ told (file_of s)
