-- What a caller reads off an outcome: 'On success number and place are 0', 'figures 0' where data is refused.
-- Assumes nothing.
use mathlib.Core.Path.{◌≡◌, refl}
use mathlib.Core.List.{List, [], ◌∷◌}
use Prim.Native.Nat.{ℕ}
use Rattle.limits.specs.Outcome.{accepted, refused, number, place, values}

pub success : {A : Type 0} (a : A) (f : A → List ℕ) (k : ℕ)
    → (number (accepted a) ≡ 0) × (place (accepted a) ≡ 0) × (values f k (accepted a) ≡ f a)
success a f k = (refl, refl, refl)

pub refusal : {A : Type 0} (n p : ℕ) (f : A → List ℕ)
    → (number {A = A} (refused n p) ≡ n) × (place {A = A} (refused n p) ≡ p) × (values f 5 (refused n p) ≡ 0 ∷ 0 ∷ 0 ∷ 0 ∷ 0 ∷ [])
refusal n p f = (refl, refl, refl)
