-- A line: its fields are separated by one tab, and LF ends it.
--   tab, lf          the two bytes
--   field            one tab, and a number
--   fields k         k of them
--   line w k         the word w, k numbers, LF: the numbers
use Rattle.std.specs.Prelude.{List, [], ◌∷◌, ℕ, zero, suc}
use Rattle.text.specs.Bytes.{bytes}
use Rattle.text.specs.Number.{number}
use Rattle.text.specs.Reading.{Reader, read, word, ◌>>=◌, ◌>>◌}

abbrev pub tab : List ℕ
tab = bytes "\t"

abbrev pub lf : List ℕ
lf = bytes "\n"

unfoldable pub field : Reader ℕ
field = do
  word tab
  number

unfoldable pub fields : ℕ → Reader (List ℕ)
fields zero = read []
fields (suc k) = do
  n ← field
  ns ← fields k
  read (n ∷ ns)

unfoldable pub line : List ℕ → ℕ → Reader (List ℕ)
line w k = do
  word w
  ns ← fields k
  word lf
  read ns
