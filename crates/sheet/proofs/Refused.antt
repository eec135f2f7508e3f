-- What is refused, of judgments taken one after the other: one of them refuses, with the same number at the same place.
-- Assumes nothing.
use mathlib.Core.Path.{◌≡◌, refl}
use mathlib.Core.Logic.{◌⊎◌, inl, inr}
use Prim.Native.Nat.{ℕ}
use Rattle.limits.specs.Outcome.{Outcome, accepted, refused, ◌>>=◌}
use Rattle.limits.proofs.Passed.{one_refusal}

pub bind_refused : {A B : Type 0} {n q : ℕ} (o : Outcome A) (f : A → Outcome B) → (o >>= f) ≡ refused n q
    → (o ≡ refused n q) ⊎ ((a : A) × (o ≡ accepted a) × (f a ≡ refused n q))
bind_refused (accepted a) f e = inr (a, refl, e)
bind_refused (refused m p) f e = let r = one_refusal e in inl (rw (r.0, r.1))
