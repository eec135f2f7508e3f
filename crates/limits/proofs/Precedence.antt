-- Which refusal comes first, and what that is of judgments taken one after the other.
--   Ahead n q m p    m at p comes no later than n at q: a number judged before n, or n at no higher place; place 0 comes last
--   Stops n q o      the outcome o is a refusal that comes no later than n at q
--   Yields n q o     the outcome o is no refusal, or one that comes no later than n at q
--   UpTo m o         the outcome o is no refusal, or one of a number judged no later than m
-- Assumes nothing.
use mathlib.Core.Path.{◌≡◌, refl, ap}
use mathlib.Core.Bool.{Bool, true, false, ◌&&◌}
use mathlib.Core.Logic.{◌⊎◌, inl, ⊎_elim}
use Prim.Native.Nat.{ℕ, ◌+◌, ◌≤◌}
use native.Mathlib.Omega.{arith}
use lib.Dec.{leb}
use borrow.Author.Tests.{leb-true}
use Rattle.limits.specs.Order.{rank, Before, NoLater}
use Rattle.limits.specs.Outcome.{Outcome, accepted, refused, Done, require, ◌>>=◌, ◌>>◌}
use Rattle.limits.specs.Ranges.{in_range, within}
use Rattle.limits.proofs.Passed.{differ}

abbrev pub Ahead : ℕ → ℕ → ℕ → ℕ → Type 0
Ahead n q m p = Before m n ⊎ ((m ≡ n) × ((q ≡ 0) ⊎ ((1 ≤ p) × (p ≤ q))))

abbrev pub Stops : {A : Type 0} → ℕ → ℕ → Outcome A → Type 0
Stops n q (accepted a) = ⊥
Stops n q (refused m p) = Ahead n q m p

abbrev pub Yields : {A : Type 0} → ℕ → ℕ → Outcome A → Type 0
Yields n q (accepted a) = Unit {0}
Yields n q (refused m p) = Ahead n q m p

abbrev pub UpTo : {A : Type 0} → ℕ → Outcome A → Type 0
UpTo m (accepted a) = Unit {0}
UpTo m (refused k p) = NoLater k m

pub up_to_yields : {A : Type 0} (m n q : ℕ) (o : Outcome A) → UpTo m o → Before m n → Yields n q o
up_to_yields m n q (accepted a) u h = tt
up_to_yields m n q (refused k p) u h = inl (omega arith)

pub up_to_more : {A : Type 0} (m n : ℕ) (o : Outcome A) → UpTo m o → NoLater m n → UpTo n o
up_to_more m n (accepted a) u h = tt
up_to_more m n (refused k p) u h = omega (arith, u, h)

-- what a refusal that comes no later is: of a number judged no later than n, and where n is at a level, of n at a level not above it
pub stopped_number : (n q m p : ℕ) → Ahead n q m p → NoLater m n
stopped_number n q m p a = ⊎_elim (λ h. omega arith) (λ h. omega (arith, ap rank h.0)) a

pub stopped_place : (n i p : ℕ) → Ahead n (1 + i) n p → (1 ≤ p) × (p ≤ 1 + i)
stopped_place n i p a = ⊎_elim (λ h. absurd (omega arith)) (λ h. ⊎_elim (λ z. absurd (omega arith)) (λ r. r) h.1) a

module _ (m : ℕ) where
  pub both_up_to : {A : Type 0} (o : Outcome Done) (r : Outcome A) → UpTo m o → UpTo m r → UpTo m (o >> r)
  both_up_to (accepted u) r a b = b
  both_up_to (refused n p) r a b = a

  pub bound_up_to : {A B : Type 0} (o : Outcome A) (f : A → Outcome B) → UpTo m o → ((a : A) → UpTo m (f a)) → UpTo m (o >>= f)
  bound_up_to (accepted a) f u g = g a
  bound_up_to (refused n p) f u g = u

  pub require_up_to : (t : Bool) (k p : ℕ) → NoLater k m → UpTo m (require t k p)
  require_up_to true k p h = tt
  require_up_to false k p h = h

  pub within_up_to : (least most x k p : ℕ) → NoLater k m → UpTo m (within least most x k p)
  unfolding within
  within_up_to least most x k p h = require_up_to (in_range least most x) k p h

module _ (n q : ℕ) where
  pub first_stops : {A : Type 0} (o : Outcome Done) (r : Outcome A) → Stops n q o → Stops n q (o >> r)
  first_stops (accepted u) r s = absurd s
  first_stops (refused m p) r s = s

  pub later_stops : {A : Type 0} (o : Outcome Done) (r : Outcome A) → Yields n q o → (o ≡ accepted tt → Stops n q r)
      → Stops n q (o >> r)
  later_stops (accepted u) r y f = f refl
  later_stops (refused m p) r y f = y

  pub bound_stops : {A B : Type 0} (o : Outcome A) (f : A → Outcome B) → Stops n q o → Stops n q (o >>= f)
  bound_stops (accepted a) f s = absurd s
  bound_stops (refused m p) f s = s

  pub value_stops : {A B : Type 0} (o : Outcome A) (f : A → Outcome B) → Yields n q o → ((a : A) → Stops n q (f a))
      → Stops n q (o >>= f)
  value_stops (accepted a) f y g = g a
  value_stops (refused m p) f y g = y

  pub both_yield : {A : Type 0} (o : Outcome Done) (r : Outcome A) → Yields n q o → Yields n q r → Yields n q (o >> r)
  both_yield (accepted u) r y z = z
  both_yield (refused m p) r y z = y

  pub require_yields : (t : Bool) (m p : ℕ) → Ahead n q m p → Yields n q (require t m p)
  require_yields true m p a = tt
  require_yields false m p a = a

  pub require_stops : (t : Bool) (m p : ℕ) → t ≡ false → Ahead n q m p → Stops n q (require t m p)
  require_stops true m p e a = absurd (differ e)
  require_stops false m p e a = a

  pub within_yields : (least most x m p : ℕ) → Ahead n q m p → Yields n q (within least most x m p)
  unfolding within
  within_yields least most x m p a = require_yields (in_range least most x) m p a

  pub within_stops : (least most x m p : ℕ) → ((least ≤ x) × (x ≤ most) → ⊥) → Ahead n q m p → Stops n q (within least most x m p)
  unfolding within in_range
  within_stops least most x m p out a = require_stops _ m p (go (leb least x) (leb x most) refl refl) a
    where
      go : (b c : Bool) → leb least x ≡ b → leb x most ≡ c → (b && c) ≡ false
      go true true eb ec = absurd (out (leb-true least x eb, leb-true x most ec))
      go true false eb ec = refl
      go false c eb ec = refl
