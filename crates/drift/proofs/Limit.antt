-- The verdict of a storey in whole numbers: its angle is at most the limit exactly where the difference between its ends is at most the limit times its height.
-- What judged data allows of a storey: its height is above 0, and nothing that is computed of it goes beyond 64 bits.
-- Assumes nothing.
use mathlib.Core.Path.{◌≡◌, refl, ap}
use mathlib.Core.Bool.{Bool, true, false}
use mathlib.Core.List.{List}
use Prim.Native.Nat.{ℕ, zero, suc, ◌-◌, ◌*◌, ◌^◌, ◌≤◌, ◌<◌}
use native.Mathlib.Nat.{mul-le-mul_right, mul-lt-mul_of_pos_right}
use native.Mathlib.Omega.{arith}
use lib.Dec.{leb}
use lib.IntN.{ℤ, pos, ◌-ℤ◌}
use lib.ListN.{length, get_or}
use mir.Syntax.{w64}
use mir.Val.{SFits, to_z, of_z}
use mir.Facts.{to_z-of_z}
use borrow.Author.Tests.{leb-true, leb-false, le-leb, lt-leb}
use Rattle.whole.specs.Signed.{size}
use Rattle.whole.proofs.Size.{size_difference, size_fits}
use Rattle.limits.specs.DriftAllowed.{AllowedDisplacements, AllowedDrift}
use Rattle.drift.specs.Drift.{storey_height, top, under, apart, within_limit}

-- ---- a factor on both sides
by_factor : (s m k h : ℕ) → 0 < k → leb (s * k) (m * (k * h)) ≡ leb s (m * h)
by_factor s m k h p = go (leb s (m * h)) refl
  where
    go : (t : Bool) → leb s (m * h) ≡ t → leb (s * k) (m * (k * h)) ≡ t
    go true e = le-leb (s * k) (m * (k * h)) (omega (arith, mul-le-mul_right k (leb-true s (m * h) e)))
    go false e = lt-leb (s * k) (m * (k * h)) (omega (arith, mul-lt-mul_of_pos_right (leb-false s (m * h) e) p))

pub by_products : (hs : List ℕ) (zs : List ℤ) (m x : ℕ) → within_limit hs zs m x ≡ leb (apart zs x) (m * storey_height hs x)
unfolding within_limit
by_products hs zs m x = by_factor (apart zs x) m 10_000 (storey_height hs x) (omega arith)

-- ---- the bottom of a storey
pub under_at : (zs : List ℤ) (x : ℕ) → 0 < x → get_or zs (x - 1) (pos 0) ≡ under zs x
under_at zs zero h = absurd (let b : ⊥ = omega arith in b)
under_at zs (suc x) h = ap (λ (n : ℕ). get_or zs n (pos 0)) (let e : suc x - 1 ≡ x = omega arith in e)

-- ---- what is judged: the ends of a storey
module _ (zs : List ℤ) (a : AllowedDisplacements zs) (x : ℕ) (h : x < length zs) where
  top_size : size (top zs x) ≤ 1_000_000
  top_size = a x h

  under_size : size (under zs x) ≤ 1_000_000
  under_size = go x refl
    where
      go : (y : ℕ) → x ≡ y → size (under zs y) ≤ 1_000_000
      go zero e = omega arith
      go (suc y) e = a y (omega (arith, h, e))

  apart_most : apart zs x ≤ 2_000_000
  apart_most = omega (arith, size_difference (top zs x) (under zs x), top_size, under_size)

  pub apart_small : apart zs x < 2 ^ 63
  apart_small = omega (arith, apart_most)

  pub apart_fits : SFits w64 (top zs x -ℤ under zs x)
  apart_fits = size_fits (top zs x -ℤ under zs x) apart_small

  -- a displacement that is passed on: read back from its bits, it is itself
  pub top_back : to_z w64 (of_z w64 (top zs x)) ≡ top zs x
  top_back = to_z-of_z {w = w64} (size_fits (top zs x) (omega (arith, top_size)))

  pub under_back : to_z w64 (of_z w64 (under zs x)) ≡ under zs x
  under_back = to_z-of_z {w = w64} (size_fits (under zs x) (omega (arith, under_size)))

  pub apart_back : to_z w64 (of_z w64 (top zs x -ℤ under zs x)) ≡ top zs x -ℤ under zs x
  apart_back = to_z-of_z {w = w64} apart_fits

-- ---- and the storey
module _ (hs : List ℕ) (zs : List ℤ) (m : ℕ) (a : AllowedDrift hs zs m) (x : ℕ) (h : x < length hs) where
  pub storey_high : 0 < storey_height hs x
  storey_high = omega (arith, a.rising x h)

  storey_most : storey_height hs x ≤ 2_000
  storey_most = omega (arith, a.heights x h)

  pub limit_most : m * storey_height hs x ≤ 20_000_000
  limit_most = omega (arith, mul-le-mul_right (storey_height hs x) a.limit.1, storey_most)
