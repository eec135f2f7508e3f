-- A number with a sign, compared with a most and with a least that is its negation: what the two comparisons say of its size.
-- Assumes nothing.
use mathlib.Core.Path.{◌≡◌}
use mathlib.Core.Bool.{true, false}
use Prim.Native.Nat.{ℕ, suc}
use native.Mathlib.Omega.{arith}
use lib.Dec.{leb}
use lib.IntN.{ℤ, pos, negsuc}
use lib.Signed.{le_z}
use borrow.Author.Tests.{le-leb, lt-leb, leb-true, leb-false}
use Rattle.whole.specs.Signed.{size}
use Rattle.limits.proofs.Passed.{differ}

module _ (k : ℕ) where
  pub in_size : (z : ℤ) → le_z (negsuc k) z ≡ true → le_z z (pos (suc k)) ≡ true → leb (size z) (suc k) ≡ true
  in_size (pos n) low high = high
  in_size (negsuc n) low high = let h = leb-true n k low in le-leb (suc n) (suc k) (omega arith)

  pub too_high : (z : ℤ) → le_z z (pos (suc k)) ≡ false → leb (size z) (suc k) ≡ false
  too_high (pos n) e = e
  too_high (negsuc n) e = absurd (differ e)

  pub too_low : (z : ℤ) → le_z (negsuc k) z ≡ false → leb (size z) (suc k) ≡ false
  too_low (pos n) e = absurd (differ e)
  too_low (negsuc n) e = let h = leb-false n k e in lt-leb (suc n) (suc k) (omega arith)
