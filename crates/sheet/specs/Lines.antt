-- How the lines of a text are read, each from where the one before it ended.
--   Front                 the line at the front of bytes, and the bytes after it
--   fitted w r bytes o    the line of the word w that the reading r found at the front of the bytes; else o
--   line_in p ks bytes    line p, at the front of the bytes, by the first of the layouts ks that it fits; 16 at p where it
--                             fits none
--   lines_from most p f bytes  line p and all later lines of a text of form f, fewer than `most`; or 16 at the first that is
--                             otherwise
--   read_from p f bytes        the same, however many: each has a byte, so there are no more lines than bytes
-- A line that lacks its LF, or that must be there and is not, is otherwise.
use Rattle.std.specs.Prelude.{List, [], ◌∷◌, ℕ, zero, suc, ◌+◌, length, drop}
use Rattle.whole.specs.Choice.{pick}
use Rattle.limits.specs.Outcome.{Outcome, accepted, refused, ◌>>=◌}
use Rattle.text.specs.Line.{line}
use Rattle.text.specs.Reading.{Reading, found, otherwise}
use Rattle.sheet.specs.Layouts.{Layout, Line, Form, first_of, past, ended}

pub record Front : Type 0 where
  pub line : Line
  pub rest : List ℕ

-- what was read of the word w and its numbers; where that is nothing, o
abbrev pub fitted : List ℕ → Reading (List ℕ) → List ℕ → Outcome Front → Outcome Front
fitted w (found ns n) s o = accepted (record { line = record { word = w; numbers = ns }; rest = drop n s })
fitted w otherwise s o = o

unfoldable pub line_in : ℕ → List Layout → List ℕ → Outcome Front
line_in p [] s = refused 16 p
line_in p (k ∷ ks) s = fitted k.word (line k.word k.numbers s) s (line_in p ks s)

unfoldable pub lines_from : ℕ → ℕ → Form → List ℕ → Outcome (List Line)
lines_from zero p f s = refused 16 p
lines_from (suc most) p f s = pick (ended f s) (accepted []) (do
  x ← line_in p (first_of f) s
  ls ← lines_from most (p + 1) (past f) x.rest
  accepted (x.line ∷ ls))

abbrev pub read_from : ℕ → Form → List ℕ → Outcome (List Line)
read_from p f s = lines_from (suc (length s)) p f s
