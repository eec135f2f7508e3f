-- `sheets::rows::put_rows` meets its contract. The invariant: so many sheets are answered, and their rows written.
-- Assumes nothing.
use mathlib.Core.Path.{◌≡◌}
use Rattle.sheets.proofs.Answering.{Answering}
use Rattle.sheets.specs.Split.{sheets_in}
use Rattle.sheets.proofs.rows.put_rows.Given as goal

abbrev pub invariant-loop-s : goal.invariant-loop-s
invariant-loop-s l =
    (goal.iterator-loop-s).can_next l.s-iterator × (goal.iterator-loop-s).is_finite l.s-iterator
    × (l.w.out.ghost_name ≡ l.initial.w.out.ghost_name)
    × Answering l.file l.initial.w l.w l.totals l.cells (sheets_in l.s-iterator.0.now) l.number
