-- A value that is out of its range, or not listed, is refused; and what a judgment of values that are listed refuses with.
-- Assumes nothing.
use mathlib.Core.Path.{◌≡◌, refl, sym}
use mathlib.Core.Bool.{false}
use mathlib.Core.List.{List, [], ◌∷◌}
use mathlib.Core.Logic.{⊎_elim}
use Prim.Native.Nat.{ℕ, ◌≤◌}
use native.Mathlib.Omega.{arith}
use borrow.Author.Tests.{ne_eqb}
use Rattle.limits.specs.Applies.{OutOf, NotListed}
use Rattle.limits.specs.Order.{NoLater}
use Rattle.limits.specs.Ranges.{among, within, listed}
use Rattle.limits.proofs.Precedence.{Ahead, Stops, Yields, UpTo, require_up_to, require_yields, require_stops, within_stops}

outside : (least most x : ℕ) → OutOf least most x → (least ≤ x) × (x ≤ most) → ⊥
outside least most x o inside = ⊎_elim (λ a. omega arith) (λ a. omega arith) o

not_among : (vs : List ℕ) (x : ℕ) → NotListed vs x → among vs x ≡ false
unfolding among
not_among [] x n = refl
not_among (v ∷ vs) x n = rw (ne_eqb v x (λ e. n.0 (sym e))) (not_among vs x n.1)

module _ (n q : ℕ) where
  pub range_stops : (least most x m p : ℕ) → OutOf least most x → Ahead n q m p → Stops n q (within least most x m p)
  range_stops least most x m p o a = within_stops n q least most x m p (outside least most x o) a

  pub listed_yields : (vs : List ℕ) (x m p : ℕ) → Ahead n q m p → Yields n q (listed vs x m p)
  unfolding listed
  listed_yields vs x m p a = require_yields n q (among vs x) m p a

  pub listed_stops : (vs : List ℕ) (x m p : ℕ) → NotListed vs x → Ahead n q m p → Stops n q (listed vs x m p)
  unfolding listed
  listed_stops vs x m p o a = require_stops n q (among vs x) m p (not_among vs x o) a

pub listed_up_to : (m : ℕ) (vs : List ℕ) (x k p : ℕ) → NoLater k m → UpTo m (listed vs x k p)
unfolding listed
listed_up_to m vs x k p h = require_up_to m (among vs x) k p h
