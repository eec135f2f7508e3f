-- A whole district in one call: jobs js of eighteen numbers each, a store of weights ws in kN and heights hs in dm, a row buffer of `room` rows.
--   answers_to js ws hs       what each job is answered
--   district_of js ws hs room     the report, or 22 for the whole call
--   reported o               the report that comes back: of no job where the call is refused, which is zeros
--   filled_rows o os old      what the row buffer holds after that held old: a row for each answer of os, the rest as it was; where the call is refused, all
--                            as it was
--   DistrictAnswers js ws hs old a held    a is the answer, and held what the row buffer holds that held old
use Rattle.std.specs.Prelude.{◌≡◌, List, [], map, ℕ, length}
use Rattle.whole.specs.Cells.{laid}
use Rattle.limits.specs.District.{judged_district}
use Rattle.limits.specs.Outcome.{Outcome, Answer, accepted, refused, outcome, ◌>>◌}
use Rattle.district_call.specs.declared.report.Report.{Report}
use Rattle.district_call.specs.declared.weighed.Weighed.{Weighed}
use Rattle.district_call.specs.Entered.{entered}
use Rattle.district_call.specs.Report.{report_of}
use Rattle.district_call.specs.Row.{answer_to, row_of}

abbrev pub answers_to : List (List ℕ) → List ℕ → List ℕ → List (Outcome Weighed)
answers_to js ws hs = map (λ j. answer_to ws hs (entered j)) js

unfoldable pub district_of : List (List ℕ) → List ℕ → List ℕ → ℕ → Outcome Report
district_of js ws hs room = do
  judged_district (length js) (length ws) (length hs) room
  accepted (report_of (answers_to js ws hs))

abbrev pub reported : Outcome Report → Report
reported (accepted r) = r
reported (refused n p) = report_of []

abbrev pub filled_rows : Outcome Report → List (Outcome Weighed) → List (List ℕ) → List (List ℕ)
filled_rows (accepted r) os old = laid (map row_of os) old
filled_rows (refused n p) os old = old

pub record DistrictAnswers (js : List (List ℕ)) (ws hs : List ℕ) (old : List (List ℕ)) (a : Answer Report) (held : List (List ℕ)) : Type 0 where
  pub answer : outcome a ≡ district_of js ws hs (length old)
  pub rows : held ≡ filled_rows (district_of js ws hs (length old)) (answers_to js ws hs) old
