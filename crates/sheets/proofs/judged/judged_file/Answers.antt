-- `sheets::judged::judged_file` meets its contract. Assumes nothing.
use mathlib.Core.Path.{ap, ◌∙◌}
use borrow.Author.Tests.{le-leb, lt-leb}
use Rattle.limits.specs.declared.refusal.Refusal.{Refusal}
use Rattle.limits.specs.Outcome.{refused}
use Rattle.sheets.specs.Judged.{judged_file}
use Rattle.sheets.proofs.judged.judged_file.Goals as goal
use Rattle.sheets.proofs.judged.judged_file.Goals.{else-file-le-BYTES_MOST-via-then-file-le-BYTES_MOST+else-count_sheets-le-JOBS_MOST, else-file-le-BYTES_MOST-via-else-file-le-BYTES_MOST}

pub returns-then-count_sheets-le-JOBS_MOST : goal.returns-then-count_sheets-le-JOBS_MOST
unfolding judged_file
returns-then-count_sheets-le-JOBS_MOST c = simp (le-leb _ _ c.if-file-le-BYTES_MOST.true) (rw (← c.count_sheets.ensures) (simp (le-leb _ _ c.if-count_sheets-le-JOBS_MOST.true)))

pub returns-else-file-le-BYTES_MOST : goal.returns-else-file-le-BYTES_MOST
unfolding judged_file
returns-else-file-le-BYTES_MOST c =
    ap (λ (x : Refusal). refused x.number x.place) c.into.ensures
    ∙ elim c.else-file-le-BYTES_MOST.branch [
      | else-file-le-BYTES_MOST-via-then-file-le-BYTES_MOST+else-count_sheets-le-JOBS_MOST w ↦ simp (le-leb _ _ w.if-file-le-BYTES_MOST.true) (rw (← w.count_sheets.ensures) (simp (lt-leb _ _ w.if-count_sheets-le-JOBS_MOST.false)))
      | else-file-le-BYTES_MOST-via-else-file-le-BYTES_MOST w ↦ simp (lt-leb _ _ w.if-file-le-BYTES_MOST.false)
    ]
