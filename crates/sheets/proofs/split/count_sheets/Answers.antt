-- `sheets::split::count_sheets` meets its contract. Assumes nothing.
use mathlib.Core.Logic.{inl}
use native.Mathlib.Omega.{arith}
use Rattle.sheets.proofs.Parts.{sheets_most}
use Rattle.sheets.proofs.split.count_sheets.Goals as goal

pub count-requires-clause-fits : goal.count-requires-clause-fits
count-requires-clause-fits c = inl (omega (arith, sheets_most c.args.file.now))
