-- Whether a number is among the values: what the library's `contains` answers.
-- Assumes nothing.
use mathlib.Core.Path.{◌≡◌, refl, ap}
use mathlib.Core.List.{List, [], ◌∷◌}
use mathlib.Core.Bool.{◌||◌}
use Prim.Native.Nat.{ℕ}
use lib.Dec.{eqb}
use Rattle.std.specs.List.{list_any}
use Rattle.limits.specs.Ranges.{among}

pub any_among : (vs : List ℕ) (x : ℕ) → list_any (λ y. eqb y x) vs ≡ among vs x
unfolding among
any_among [] x = refl
any_among (v ∷ vs) x = ap (λ b. eqb v x || b) (any_among vs x)
