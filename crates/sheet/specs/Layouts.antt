-- The lines of a text, each laid out as one of the layouts that it may have.
--   Layout               a word, and how many numbers follow it
--   Line, layout_of l    a line's word and its numbers; the layout that l has
--   Form                 what the lines of a text may be: `heads`, the layouts of each of the first lines, which must be there;
--                     `later`, those of all later lines, up to the end
--   first_of f        what the first line of a text of form f may be;  past f    the form of what is after it
--   none l            l is empty
--   ended f bytes     a text of form f may end there: no line that must be there is left, and no byte
--   line_laid l       the bytes of a line;  lines_laid ls    of lines one after the other
--   LaidLine ks l     l has one of the layouts ks, and its numbers have at most 9 digits each
--   LaidLines f ls    ls are all the lines of a text of form f
use Rattle.std.specs.Prelude.{◌≡◌, Bool, true, false, ◌&&◌, ℕ, length, get_or, drop}
use mathlib.Core.List.{List, [], ◌∷◌, ◌++◌, Memᴰ}
use Rattle.text.specs.Writing.{laid_out, AllShort}

pub record Layout : Type 0 where
  pub word : List ℕ
  pub numbers : ℕ

pub record Line : Type 0 where
  pub word : List ℕ
  pub numbers : List ℕ

abbrev pub layout_of : Line → Layout
layout_of l = record { word = l.word; numbers = length l.numbers }

pub record Form : Type 0 where
  pub heads : List (List Layout)
  pub later : List Layout

abbrev pub first_of : Form → List Layout
first_of f = get_or f.heads 0 f.later

abbrev pub past : Form → Form
past f = record { heads = drop 1 f.heads; later = f.later }

abbrev pub none : {A : Type 0} → List A → Bool
none [] = true
none (a ∷ l) = false

abbrev pub ended : Form → List ℕ → Bool
ended f s = none f.heads && none s

abbrev pub line_laid : Line → List ℕ
line_laid l = laid_out l.word l.numbers

abbrev pub lines_laid : List Line → List ℕ
lines_laid [] = []
lines_laid (l ∷ ls) = line_laid l ++ lines_laid ls

pub record LaidLine (ks : List Layout) (l : Line) : Type 0 where
  pub layout : Memᴰ (layout_of l) ks
  pub short : AllShort l.numbers

abbrev pub LaidLines : Form → List Line → Type 0
LaidLines f [] = none f.heads ≡ true
LaidLines f (l ∷ ls) = LaidLine (first_of f) l × LaidLines (past f) ls
