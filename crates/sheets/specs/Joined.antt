-- Sheets put into a file.
--   no_empty_line fresh s    no empty line stands in the bytes s; `fresh` says that s begins at the start of a line
--   closed fresh s           s ends at the start of a line: with LF, or with no byte where it begins there
--   joined ss                the sheets ss one after the other, with an empty line between two
--   Sound s                  s has a byte and no empty line, and its last line ends with LF;  AllSound ss    so has each of ss
use Rattle.std.specs.Prelude.{◌≡◌, Bool, true, ◌&&◌, not, List, [], ◌∷◌, ◌++◌, ℕ, ◌<◌, length}
use Rattle.sheets.specs.Split.{is_lf}

unfoldable pub no_empty_line : Bool → List ℕ → Bool
no_empty_line fresh [] = true
no_empty_line fresh (b ∷ s) = not (fresh && is_lf b) && no_empty_line (is_lf b) s

unfoldable pub closed : Bool → List ℕ → Bool
closed fresh [] = fresh
closed fresh (b ∷ s) = closed (is_lf b) s

unfoldable pub joined : List (List ℕ) → List ℕ
joined [] = []
joined (s ∷ []) = s
joined (s ∷ t ∷ ss) = s ++ (10 ∷ joined (t ∷ ss))

pub record Sound (s : List ℕ) : Type 0 where
  pub some : 0 < length s
  pub whole : no_empty_line true s ≡ true
  pub ended : closed true s ≡ true

abbrev pub AllSound : List (List ℕ) → Type 0
AllSound [] = Unit {0}
AllSound (s ∷ ss) = Sound s × AllSound ss
