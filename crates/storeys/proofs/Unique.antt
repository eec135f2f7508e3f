-- No second outcome meets the contract of `fill_storeys`: every cell of each of the three buffers is determined.
-- Assumes nothing.
use mathlib.Core.Path.{◌≡◌}
use mathlib.Core.List.{List}
use Prim.Native.Nat.{ℕ}
use Rattle.whole.proofs.Unique.{determined}
use Rattle.storeys.specs.Storeys.{Filled}

pub filled_unique : (T v : ℕ) (ws hs us fs os : List ℕ) {us₁ fs₁ os₁ us₂ fs₂ os₂ : List ℕ}
    → Filled T v ws hs us fs os us₁ fs₁ os₁ → Filled T v ws hs us fs os us₂ fs₂ os₂ → (us₁ ≡ us₂) × (fs₁ ≡ fs₂) × (os₁ ≡ os₂)
filled_unique T v ws hs us fs os p q = (determined p.0 q.0, determined p.1 q.1, determined p.2 q.2)
