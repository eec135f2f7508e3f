-- A refusal that is given does apply: what that is of judgments taken one after the other, whatever it is that applies.
--   Told o    the outcome o is no refusal, or one that applies
-- Assumes nothing.
use mathlib.Core.Path.{◌≡◌, refl, subst}
use mathlib.Core.Bool.{Bool, true, false, ◌&&◌}
use mathlib.Core.Logic.{◌⊎◌, inl, inr}
use Prim.Native.Nat.{ℕ, ◌<◌}
use lib.Dec.{leb}
use borrow.Author.Tests.{leb-false}
use Rattle.limits.specs.Outcome.{Outcome, accepted, refused, Done, require, ◌>>=◌, ◌>>◌}
use Rattle.limits.specs.Ranges.{in_range, within}
use Rattle.limits.proofs.Passed.{differ}

module _ (Applies : ℕ → ℕ → Type 0) where
  abbrev pub Told : {A : Type 0} → Outcome A → Type 0
  Told (accepted a) = Unit {0}
  Told (refused n p) = Applies n p

  pub then_told : {A : Type 0} (o : Outcome Done) (q : Outcome A) → Told o → (o ≡ accepted tt → Told q) → Told (o >> q)
  then_told (accepted u) q t f = f refl
  then_told (refused n p) q t f = t

  pub bind_told : {A B : Type 0} (o : Outcome A) (f : A → Outcome B) → Told o → ((a : A) → Told (f a)) → Told (o >>= f)
  bind_told (accepted a) f t g = g a
  bind_told (refused n p) f t g = t

  pub require_told : (t : Bool) (n p : ℕ) → (t ≡ false → Applies n p) → Told (require t n p)
  require_told true n p f = tt
  require_told false n p f = f refl

  pub within_told : (least most x n p : ℕ) → ((x < least) ⊎ (most < x) → Applies n p) → Told (within least most x n p)
  unfolding within in_range
  within_told least most x n p f = require_told _ n p (go (leb least x) (leb x most) refl refl)
    where
      go : (a b : Bool) → leb least x ≡ a → leb x most ≡ b → (a && b) ≡ false → Applies n p
      go true true ea eb e = absurd (differ e)
      go true false ea eb e = f (inr (leb-false x most eb))
      go false b ea eb e = f (inl (leb-false least x ea))

  -- a refusal that is given applies
  pub given_applies : {A : Type 0} (o : Outcome A) → Told o → (n p : ℕ) → o ≡ refused n p → Applies n p
  given_applies {A} o t n p e = subst (λ (q : Outcome A). Told q) e t

  -- data to which no refusal applies is accepted
  pub accepted_unless : {A : Type 0} (o : Outcome A) → Told o → ((n p : ℕ) → Applies n p → ⊥) → (a : A) × (o ≡ accepted a)
  accepted_unless (accepted a) t none = (a, refl)
  accepted_unless (refused n p) t none = absurd (none n p t)

-- what applies of a part applies of the whole
pub told_as : (A B : ℕ → ℕ → Type 0) → ((n p : ℕ) → A n p → B n p) → {X : Type 0} (o : Outcome X) → Told A o → Told B o
told_as A B f (accepted a) t = tt
told_as A B f (refused n p) t = f n p t
