-- The edges of a file, computed: empty lines alone, an empty line in front, two in a row, one after the last sheet, a last line without LF; and what a
-- sheet of no byte is refused with. That no byte is no sheet: `no_sheet` (Parts.antt).
-- Assumes nothing.
use mathlib.Core.Path.{◌≡◌, refl}
use mathlib.Core.List.{[], ◌∷◌}
use Rattle.limits.specs.Outcome.{refused}
use Rattle.text.specs.Bytes.{bytes}
use Rattle.text.specs.Line.{line}
use Rattle.text.specs.Reading.{starts, word}
use Rattle.sheet.specs.Lines.{line_in, lines_from}
use Rattle.sheet.specs.Reading.{sheet_lines, read_sheet}
use Rattle.sheets.specs.Answers.{sheet_answer}
use Rattle.sheets.specs.Split.{parts, filled, sheets_in}

pub empty_lines : (sheets_in (bytes "\n") ≡ [] ∷ []) × (sheets_in (bytes "\n\n") ≡ [] ∷ [] ∷ [])
unfolding sheets_in parts filled
empty_lines = (refl, refl)

pub in_front : sheets_in (bytes "\na\n") ≡ [] ∷ bytes "a\n" ∷ []
unfolding sheets_in parts filled
in_front = refl

pub in_a_row : sheets_in (bytes "a\n\n\nb\n") ≡ bytes "a\n" ∷ [] ∷ bytes "b\n" ∷ []
unfolding sheets_in parts filled
in_a_row = refl

pub after_the_last : sheets_in (bytes "a\n\nb\n\n") ≡ bytes "a\n" ∷ bytes "b\n" ∷ []
unfolding sheets_in parts filled
after_the_last = refl

pub without_lf : (sheets_in (bytes "a\n\nb") ≡ bytes "a\n" ∷ bytes "b" ∷ []) × (sheets_in (bytes "a") ≡ bytes "a" ∷ [])
unfolding sheets_in parts filled
without_lf = (refl, refl)

pub no_byte_refused : sheet_answer [] ≡ refused 16 1
unfolding sheet_answer read_sheet sheet_lines lines_from line_in line word starts
no_byte_refused = refl
