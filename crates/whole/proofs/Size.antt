-- Sizes: of a number with its sign reversed, of a sum and of a difference; and what the machine's test and negation find.
-- Assumes nothing.
use mathlib.Core.Path.{◌≡◌, refl, sym, ap, ◌∙◌}
use mathlib.Core.Bool.{Bool, true, false, cond}
use Prim.Native.Nat.{ℕ, zero, suc, ◌+◌, ◌-◌, ◌^◌, ◌≤◌, ◌<◌}
use native.Mathlib.Omega.{arith}
use lib.Dec.{ltb}
use lib.IntN.{ℤ, pos, negsuc, neg_ℤ, sub_ℕ, ◌+ℤ◌, ◌-ℤ◌, neg_ℤ-+ℤ}
use lib.Signed.{lt_z}
use mir.Syntax.{w64}
use mir.Val.{SFits}
use borrow.Author.Tests.{ltb-true}
use Rattle.whole.specs.Signed.{size}

pub size_reversed : (z : ℤ) → size (neg_ℤ z) ≡ size z
size_reversed (pos zero) = refl
size_reversed (pos (suc n)) = refl
size_reversed (negsuc n) = refl

-- two numbers with their signs reversed are as far apart as before
pub apart_reversed : (a b : ℤ) → size (neg_ℤ a -ℤ neg_ℤ b) ≡ size (a -ℤ b)
apart_reversed a b = sym (ap size (neg_ℤ-+ℤ a (neg_ℤ b))) ∙ size_reversed (a -ℤ b)

size_less : (a b : ℕ) → size (sub_ℕ a b) ≤ a + b
size_less a b = go (ltb a b) refl
  where
    go : (t : Bool) → ltb a b ≡ t → size (cond t (negsuc (b - suc a)) (pos (a - b))) ≤ a + b
    go true e = let h = ltb-true a b e in omega arith
    go false e = omega arith

size_sum : (a b : ℤ) → size (a +ℤ b) ≤ size a + size b
size_sum (pos a) (pos b) = omega arith
size_sum (pos a) (negsuc b) = size_less a (suc b)
size_sum (negsuc a) (pos b) = omega (arith, size_less b (suc a))
size_sum (negsuc a) (negsuc b) = omega arith

pub size_difference : (a b : ℤ) → size (a -ℤ b) ≤ size a + size b
size_difference a b = omega (arith, size_sum a (neg_ℤ b), size_reversed b)

pub size_fits : (z : ℤ) → size z < 2 ^ 63 → SFits w64 z
size_fits (pos n) h = record { sfits = omega (arith, h) }
size_fits (negsuc n) h = record { sfits = omega (arith, h) }

-- ---- a number below 0 and its negation, and one that is not
clash : true ≡ false → ⊥
clash p = let n : ◌≡◌ {A = ℕ} 0 1 = cc in omega arith

pub below_zero : (z : ℤ) → lt_z z (pos 0) ≡ true → pos 0 -ℤ z ≡ pos (size z)
below_zero (pos n) e = absurd (omega (arith, ltb-true n 0 e))
below_zero (negsuc n) e = ap pos (omega arith)

pub from_zero_up : (z : ℤ) → lt_z z (pos 0) ≡ false → z ≡ pos (size z)
from_zero_up (pos n) e = refl
from_zero_up (negsuc n) e = absurd (clash e)
