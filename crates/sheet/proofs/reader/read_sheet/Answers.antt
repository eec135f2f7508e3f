-- `sheet::reader::read_sheet` meets its contract. Assumes nothing.
use mathlib.Core.Path.{sym, ap, ◌∙◌}
use Rattle.std.specs.Prelude.{Err}
use Rattle.sheet.proofs.LaidRead.{sheet_long, sheet_lines_lem}
use Rattle.sheet.specs.Reading.{sheet_read}
use Rattle.sheet.proofs.reader.read_sheet.Goals as goal

pub returns-then-s-gt-BYTES_MOST : goal.returns-then-s-gt-BYTES_MOST
unfolding sheet_read
returns-then-s-gt-BYTES_MOST c = ap Err c.into.ensures ∙ ap sheet_read (sym (sheet_long _ c.if-s-gt-BYTES_MOST.true))

pub returns : goal.returns
returns c = c.sheet_lines.ensures ∙ ap sheet_read (sym (sheet_lines_lem _ c.if-s-gt-BYTES_MOST.false))
