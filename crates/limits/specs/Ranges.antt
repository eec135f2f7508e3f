-- Whether a number is allowed.
--   in_range least most x       from least to most
--   among values x              one of the values
--   within least most x n p     passes where x is from least to most, else refused with number n at place p
--   listed values x n p         passes where x is one of the values, else refused
use Rattle.std.specs.Prelude.{Bool, false, ◌&&◌, ◌||◌, List, [], ◌∷◌, ℕ, leb, eqb}
use Rattle.limits.specs.Outcome.{Outcome, Done, require}

unfoldable pub in_range : ℕ → ℕ → ℕ → Bool
in_range least most x = leb least x && leb x most

unfoldable pub among : List ℕ → ℕ → Bool
among [] x = false
among (v ∷ vs) x = eqb v x || among vs x

unfoldable pub within : ℕ → ℕ → ℕ → ℕ → ℕ → Outcome Done
within least most x n p = require (in_range least most x) n p

unfoldable pub listed : List ℕ → ℕ → ℕ → ℕ → Outcome Done
listed vs x n p = require (among vs x) n p
