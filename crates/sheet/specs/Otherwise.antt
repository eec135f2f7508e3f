-- 'The first line that is otherwise, or a last line without LF, is 16 at its own number', of a text of any form.
--   FirstOtherwise f p bytes    line p, from 1, is the first that is otherwise. `here`: the text may not end there, and no line that
--                               it may have stands at the front. `after`: such a line stands there, and the first that is
--                               otherwise is among those after it
use Rattle.std.specs.Prelude.{◌≡◌, false, List, ◌++◌, ℕ, suc}
use Rattle.sheet.specs.Layouts.{Line, Form, first_of, past, ended, line_laid, LaidLine}

pub data FirstOtherwise : Form → ℕ → List ℕ → Type 0 where
  here : {f : Form} {s : List ℕ} → ended f s ≡ false
      → ((l : Line) (x : List ℕ) → LaidLine (first_of f) l → s ≡ line_laid l ++ x → ⊥) → FirstOtherwise f 1 s
  after : {f : Form} {p : ℕ} {s : List ℕ} (l : Line) → LaidLine (first_of f) l → FirstOtherwise (past f) p s
      → FirstOtherwise f (suc p) (line_laid l ++ s)
