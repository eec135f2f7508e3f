-- 'The lowest number that applies is given, at its lowest place', where 'lowest' means first in the order in which they are judged; and 'data to which no
-- refusal number applies is accepted'. Of any outcome o, whatever A says when a refusal applies: A n p, number n applies at place p.
--   FirstRefusal A o
--     refused_applies            a refusal that is given applies
--     first_number               none that applies is judged before it
--     lowest_place               where it applies at a place above 0, it is given at such a place, and at no higher one
--     accepted_unless_refused    where none applies, data is accepted
--     accepted_none              and where one applies, it is not
use Rattle.std.specs.Prelude.{◌≡◌, ℕ, ◌+◌, ◌≤◌}
use Rattle.limits.specs.Order.{NoLater}
use Rattle.limits.specs.Outcome.{Outcome, accepted, refused}

pub record FirstRefusal {X : Type 0} (A : ℕ → ℕ → Type 0) (o : Outcome X) : Type 0 where
  pub refused_applies : (n p : ℕ) → o ≡ refused n p → A n p
  pub first_number : (n p m q : ℕ) → o ≡ refused n p → A m q → NoLater n m
  pub lowest_place : (n p i : ℕ) → o ≡ refused n p → A n (1 + i) → (1 ≤ p) × (p ≤ 1 + i)
  pub accepted_unless_refused : ((n p : ℕ) → A n p → ⊥) → (x : X) × (o ≡ accepted x)
  pub accepted_none : (x : X) (n p : ℕ) → o ≡ accepted x → A n p → ⊥
