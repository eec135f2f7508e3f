-- `linked::rukeshomaji_district` meets its contract. Assumes nothing.
use Rattle.std.specs.Prelude.{Ok, Err}
use Rattle.std.specs.Result.{result_err}
use mathlib.Core.Path.{◌≡◌, refl, ap, ◌∙◌}
use Prim.Native.Nat.{ℕ}
use Rattle.limits.specs.Outcome.{Answer, number, outcome}
use Rattle.district_call.specs.declared.report.Report.{Report}
use Rattle.linked.specs.Linked.{said, report_numbers}
use Rattle.linked.proofs.Reports.{district_replies}
use Rattle.linked.proofs.rukeshomaji_district.Goals as goal

number_said : (a : Answer Report) → (said (result_err a)).0 ≡ number (outcome a)
number_said (Ok r) = refl
number_said (Err r) = refl

pub returns : goal.returns
returns c =
    let a = c.args in
    district_replies a.jobs.now a.weights.now a.heights.now a.rows.now _ c.district-a.ensures
    (ap (λ (x : ℕ × ℕ). x.0) (c.said-number.ensures ∙ ap said c.err.ensures.value) ∙ number_said c.district-a.result)
    (c.put_report.ensures ∙ ap report_numbers c.reported.ensures)
