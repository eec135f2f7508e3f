-- `sheet::put_sheet` meets its contract. Assumes nothing.
use mathlib.Core.Path.{sym}
use Rattle.sheet.proofs.SheetAnswered.{sheet_refused, sheet_taken}
use Rattle.sheet.proofs.Listings.{puts_as}
use Rattle.sheet.proofs.put_sheet.Goals as goal

pub returns-in-Err : goal.returns-in-Err
returns-in-Err c = puts_as (sym (sheet_refused c.args.s.now _ c.read_sheet.ensures _ c.in-Err.is)) c.put_refused.ensures

pub weights-requires : goal.weights-requires
weights-requires c = (sheet_taken _ _ c.read_sheet.ensures _ c.in-Ok.is).room

pub heights-requires : goal.heights-requires
heights-requires c = (sheet_taken _ _ c.read_sheet.ensures _ c.in-Ok.is).room

pub returns-in-Ok : goal.returns-in-Ok
returns-in-Ok c =
    puts_as ((sheet_taken _ _ c.read_sheet.ensures _ c.in-Ok.is).outcome c.weights.ensures c.heights.ensures) c.put_job.ensures
