-- Displacements counted the other way: what a theorem of drift speaks of.
--   reversed zs    the displacements zs with their signs reversed
use Rattle.std.specs.Prelude.{List, [], ◌∷◌, ℤ, neg_ℤ}

unfoldable pub reversed : List ℤ → List ℤ
reversed [] = []
reversed (z ∷ zs) = neg_ℤ z ∷ reversed zs
