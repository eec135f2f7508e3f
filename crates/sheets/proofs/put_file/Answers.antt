-- `sheets::put_file` meets its contract. Assumes nothing.
use borrow.Author.Rules.{rules}
use mathlib.Core.Path.{refl, sym, ap, ◌∙◌}
use Rattle.limits.specs.Outcome.{outcome}
use Rattle.text.proofs.Spliced.{room_first, writes_room, writes_more}
use Rattle.district_call.specs.Report.{report_of}
use Rattle.sheets.proofs.Listed.{puts_refused, file_judged, file_few, file_room, puts_lines, report_cells}
use Rattle.sheets.specs.Answers.{answers_in}
use Rattle.sheets.specs.Listing.{row_lines, report_lines}
use Rattle.sheets.proofs.put_file.Goals as goal

pub returns-in-Err : goal.returns-in-Err
returns-in-Err c =
    puts_refused c.args.file.now (sym c.judged_file.ensures ∙ ap outcome c.in-Err.is) c.put_refused.ensures

pub put_rows-report-requires : goal.put_rows-report-requires
put_rows-report-requires c =
    let s = c.args.file.now in
    let taken = file_judged s c.judged_file.ensures c.in_default.not-Err in
    (file_few s taken, room_first (row_lines (answers_in s)) (report_lines (report_of (answers_in s))) (file_room s taken refl c.requires))

pub put_report-requires : goal.put_report-requires
put_report-requires c =
    let s = c.args.file.now in
    let taken = file_judged s c.judged_file.ensures c.in_default.not-Err in
    let r = c.put_rows-report.ensures in
    rw r.report_value (report_cells (answers_in s), writes_room r.bytes (file_room s taken refl c.requires))

pub returns : goal.returns
returns c =
    let s = c.args.file.now in
    let taken = file_judged s c.judged_file.ensures c.in_default.not-Err in
    let r = c.put_rows-report.ensures in
    let same = sym (c.put_report.ensures.same_buffer ∙ r.same_buffer) in
    puts_lines s taken refl (search rules)
    (writes_more r.bytes (file_room s taken refl c.requires) (rw r.report_value at c.put_report.ensures.bytes))
