-- What judgments that pass, one after the other, show.
-- Assumes nothing.
use mathlib.Core.Path.{◌≡◌, refl, sym, ap}
use mathlib.Core.Bool.{Bool, true, false, ◌&&◌}
use Prim.Native.Nat.{ℕ, ◌≤◌}
use native.Mathlib.Omega.{arith}
use lib.Dec.{leb}
use borrow.Author.Tests.{leb-true}
use Rattle.limits.specs.Outcome.{Outcome, accepted, refused, number, place, Done, require, ◌>>=◌, ◌>>◌}
use Rattle.limits.specs.Ranges.{in_range, within}

-- a refusal is no acceptance
pub never : {A : Type 0} {a : A} {n p : ℕ} → ◌≡◌ {A = Outcome A} (refused n p) (accepted a) → ⊥
never e = let z : ◌≡◌ {A = ℕ} 0 1 = cc in omega arith

-- a refusal is one number at one place
pub one_refusal : {A : Type 0} {n p m q : ℕ} → ◌≡◌ {A = Outcome A} (refused n p) (refused m q) → (n ≡ m) × (p ≡ q)
one_refusal e = (ap number e, ap place e)

-- what only makes something of a value refuses as that which gives the value
pub only : {A B : Type 0} {n q : ℕ} (o : Outcome A) (f : A → B) → (o >>= λ a. accepted (f a)) ≡ refused n q → o ≡ refused n q
only (accepted a) f e = absurd (never (sym e))
only (refused m p) f e = let r = one_refusal e in rw (r.0, r.1)

pub differ : true ≡ false → ⊥
differ e = let z : ◌≡◌ {A = ℕ} 0 1 = cc in omega arith

-- what is accepted is one value
pub one_value : {A : Type 0} {v w : A} → accepted v ≡ accepted w → v ≡ w
one_value e = cc

-- all are accepted where the last is
pub then_passed : {B : Type 0} {b : B} (o : Outcome Done) (q : Outcome B) → (o >> q) ≡ accepted b
    → (o ≡ accepted tt) × (q ≡ accepted b)
then_passed (accepted u) q e = (refl, e)
then_passed (refused n p) q e = absurd (never e)

-- what is refused before a value is handed on is refused by the judgment
pub then_refused : {A : Type 0} {n q : ℕ} (o : Outcome Done) (a : A) → (o >> accepted a) ≡ refused n q → o ≡ refused n q
then_refused (accepted u) a e = absurd (never (sym e))
then_refused (refused m p) a e = let r = one_refusal e in rw (r.0, r.1)

pub then_done : (o : Outcome Done) → (o >> accepted tt) ≡ o
then_done (accepted u) = refl
then_done (refused n p) = refl

pub bind_passed : {A B : Type 0} {b : B} (o : Outcome A) (f : A → Outcome B) → (o >>= f) ≡ accepted b
    → (a : A) × (o ≡ accepted a) × (f a ≡ accepted b)
bind_passed (accepted a) f e = (a, refl, e)
bind_passed (refused n p) f e = absurd (never e)

pub require_passed : (t : Bool) (n p : ℕ) → require t n p ≡ accepted tt → t ≡ true
require_passed true n p e = refl
require_passed false n p e = absurd (never e)

pub within_passed : (least most x n p : ℕ) → within least most x n p ≡ accepted tt → (least ≤ x) × (x ≤ most)
unfolding within in_range
within_passed least most x n p e = go (leb least x) (leb x most) refl refl (require_passed _ n p e)
  where
    go : (a b : Bool) → leb least x ≡ a → leb x most ≡ b → (a && b) ≡ true → (least ≤ x) × (x ≤ most)
    go true true ea eb t = (leb-true least x ea, leb-true x most eb)
    go true false ea eb t = absurd (differ (sym t))
    go false b ea eb t = absurd (differ (sym t))
