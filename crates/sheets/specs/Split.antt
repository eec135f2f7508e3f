-- A file of sheets: sheets one after the other. An empty line, which is an LF at the start of a line, ends a sheet and is no part of it.
--   is_lf b             b is the byte LF
--   before b ps         the byte b in front of the first of ps
--   placed t b ps       a sheet that ends before ps, where the test t says that b is an empty line; else b in front
--   parts fresh s       what stands between the empty lines of the bytes s; `fresh` says that s begins at the start of a line
--   filled ps           ps without the last, where that has no byte
--   sheets_in s         the sheets of a file: what stands after the last empty line is one where it has a byte
--   first_in fresh s    the first part of s
use Rattle.std.specs.Prelude.{Bool, true, false, ◌&&◌, List, [], ◌∷◌, ℕ, eqb, get_or}

abbrev pub is_lf : ℕ → Bool
is_lf b = eqb b 10

abbrev pub before : ℕ → List (List ℕ) → List (List ℕ)
before b [] = (b ∷ []) ∷ []
before b (p ∷ ps) = (b ∷ p) ∷ ps

abbrev pub placed : Bool → ℕ → List (List ℕ) → List (List ℕ)
placed true b ps = [] ∷ ps
placed false b ps = before b ps

unfoldable pub parts : Bool → List ℕ → List (List ℕ)
parts fresh [] = [] ∷ []
parts fresh (b ∷ s) = placed (fresh && is_lf b) b (parts (is_lf b) s)

unfoldable pub filled : List (List ℕ) → List (List ℕ)
filled [] = []
filled ([] ∷ []) = []
filled ((b ∷ p) ∷ []) = (b ∷ p) ∷ []
filled (p ∷ q ∷ ps) = p ∷ filled (q ∷ ps)

unfoldable pub sheets_in : List ℕ → List (List ℕ)
sheets_in s = filled (parts true s)

abbrev pub first_in : Bool → List ℕ → List ℕ
first_in fresh s = get_or (parts fresh s) 0 []
