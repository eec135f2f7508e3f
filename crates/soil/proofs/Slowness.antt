-- The rounded times against the exact one: U is not below it, L not above it, and either is off by less than one ns a
-- layer.
-- Assumes nothing.
use mathlib.Core.List.{List, [], ◌∷◌}
use Prim.Native.Nat.{ℕ, ◌+◌, ◌*◌, ◌≤◌, ◌<◌}
use native.Mathlib.Nat.{le_trans, mul-pos, mul-le-mul_left, mul-le-mul_right}
use native.Mathlib.Omega.{arith}
use lib.ListN.{length}
use Rattle.whole.specs.Rounding.{up, down}
use Rattle.whole.proofs.Rounding.{up_law, down_law}
use Rattle.soil.specs.Exact.{slowness}
use Rattle.soil.specs.Times.{ns_at_unit, added}
use Rattle.soil.proofs.Speeds.{Positive}

pub slowness_sound : (ds vs : List ℕ) → Positive vs → 0 < (slowness ds vs).den
unfolding slowness
slowness_sound [] vs p = omega arith
slowness_sound (d ∷ ds) [] p = omega arith
slowness_sound (d ∷ ds) (v ∷ vs) p = mul-pos p.0 (slowness_sound ds vs p.1)

-- ---- a rounding that is over by less than a and short by less than b, of which one is 1 and the other 0
abbrev Off : (ℕ → ℕ → ℕ) → ℕ → ℕ → Type 0
Off round a b = (n d : ℕ) → 0 < d → (d * round n d + a ≤ n + a * d) × (n + b ≤ d * round n d + b * d)

up_off : Off up 1 0
up_off n d p = (omega (arith, (up_law n d p).1), omega (arith, (up_law n d p).0))

down_off : Off down 0 1
down_off n d p = (omega (arith, (down_law n d p).0), omega (arith, (down_law n d p).1))

-- the sum is off by less than that for each layer where there is one (c = 1), and by no more than that where there may be none (c = 0)
module _ (round : ℕ → ℕ → ℕ) (a b : ℕ) (off : Off round a b) where
  within : (ds vs : List ℕ) → Positive vs → (c : ℕ) → c ≤ 1 → c ≤ length ds
      → (added round ds vs * (slowness ds vs).den + a * c ≤ ns_at_unit (slowness ds vs).num + a * length ds * (slowness ds vs).den)
      × (ns_at_unit (slowness ds vs).num + b * c ≤ added round ds vs * (slowness ds vs).den + b * length ds * (slowness ds vs).den)
  unfolding slowness added
  within [] vs p c one few = (omega (arith, mul-le-mul_left a few), omega (arith, mul-le-mul_left b few))
  within (d ∷ ds) [] p c one few = (omega (arith, mul-le-mul_left a few), omega (arith, mul-le-mul_left b few))
  within (d ∷ ds) (v ∷ vs) p c one few =
      let s = slowness ds vs in
      let small : c ≤ s.den = le_trans one (slowness_sound ds vs p.1) in
      let l = off (ns_at_unit d) v p.0 in
      let k = within ds vs p.1 0 (omega arith) (omega arith) in (
        omega (arith, mul-le-mul_right s.den l.0, mul-le-mul_right v k.0, mul-le-mul_left a small),
        omega (arith, mul-le-mul_right s.den l.1, mul-le-mul_right v k.1, mul-le-mul_left b small),
      )

module _ (ds vs : List ℕ) (p : Positive vs) where
  -- ---- U
  pub up_above : ns_at_unit (slowness ds vs).num ≤ added up ds vs * (slowness ds vs).den
  up_above = omega (arith, (within up 1 0 up_off ds vs p 0 (omega arith) (omega arith)).1)

  pub up_close : 0 < length ds → added up ds vs * (slowness ds vs).den < ns_at_unit (slowness ds vs).num + length ds * (slowness ds vs).den
  up_close some = omega (arith, (within up 1 0 up_off ds vs p 1 (omega arith) some).0)

  -- ---- L
  pub down_below : added down ds vs * (slowness ds vs).den ≤ ns_at_unit (slowness ds vs).num
  down_below = omega (arith, (within down 0 1 down_off ds vs p 0 (omega arith) (omega arith)).0)

  pub down_close : 0 < length ds → ns_at_unit (slowness ds vs).num < added down ds vs * (slowness ds vs).den + length ds * (slowness ds vs).den
  down_close some = omega (arith, (within down 0 1 down_off ds vs p 1 (omega arith) some).1)
