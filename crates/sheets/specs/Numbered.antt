-- The lines of a list, one after the other.
--   numbered f i l    the bytes f i a of each element a of l, which are numbered upward from i
use Rattle.std.specs.Prelude.{List, [], ◌∷◌, ◌++◌, ℕ, ◌+◌}

unfoldable pub numbered : {A : Type 0} → (ℕ → A → List ℕ) → ℕ → List A → List ℕ
numbered f i [] = []
numbered f i (a ∷ l) = f i a ++ numbered f (i + 1) l
