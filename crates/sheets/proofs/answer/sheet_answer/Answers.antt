-- `sheets::answer::sheet_answer` meets its contract. Assumes nothing.
use mathlib.Core.Path.{sym, ap, ◌∙◌}
use Rattle.limits.specs.Outcome.{outcome}
use Rattle.limits.proofs.Exit.{handed_on}
use Rattle.sheet.proofs.SheetAnswered.{sheet_taken}
use Rattle.sheets.proofs.Answered.{answer_taken, answer_refused}
use Rattle.sheets.proofs.answer.sheet_answer.Goals as goal

pub returns-in_err-read : goal.returns-in_err-read
returns-in_err-read c =
    ap outcome (handed_on c.from_residual.result _ c.from_residual.ensures.1)
    ∙ sym (answer_refused c.args.s.now _ c.read_sheet.ensures _ c.in_err-read.was)

pub weights-requires : goal.weights-requires
weights-requires c = (sheet_taken _ _ c.read_sheet.ensures _ c.in_ok-read.was).room

pub heights-requires : goal.heights-requires
heights-requires c = (sheet_taken _ _ c.read_sheet.ensures _ c.in_ok-read.was).room

pub returns : goal.returns
returns c =
    c.weighed_job.ensures ∙ answer_taken c.args.s.now _ c.read_sheet.ensures _ c.in_ok-read.was c.weights.ensures c.heights.ensures
