-- The torsion factor in whole numbers: as 1.2 squared is 36/25, it is 25,000·l²/(36·a²), rounded up once, and at most 3,000. How it lies to the exact factor of
-- (22): never below it, but where 3.0 is enough, and less than a thousandth above it.
-- Assumes nothing.
use mathlib.Core.Path.{◌≡◌, refl, sym, ap}
use mathlib.Core.Bool.{Bool, true, false}
use mathlib.Core.Logic.{◌⊎◌, inl, inr}
use Prim.Native.Nat.{ℕ, ◌*◌, ◌≤◌, ◌<◌, min}
use native.Mathlib.Nat.{mul-le-mul_right, mul-le-mul}
use native.Mathlib.Omega.{arith}
use lib.Dec.{leb}
use borrow.Author.Tests.{leb-true, leb-false}
use Rattle.whole.specs.Fraction.{over, AtMost, Less, plus, up_in}
use Rattle.whole.specs.Rounding.{up}
use Rattle.whole.proofs.Rounding.{up_law, up_same}
use Rattle.drift.specs.Torsion.{amplification, torsion_factor}

square_high : (a : ℕ) → 0 < a → 1 ≤ a * a
square_high a p = omega (arith, mul-le-mul_right a p)

pub square_most : (a m : ℕ) → a ≤ m → a * a ≤ m * m
square_most a m h = mul-le-mul h h

pub divisor_high : (a : ℕ) → 0 < a → 0 < 36 * (a * a)
divisor_high a p = omega (arith, square_high a p)

in_full_high : (l a : ℕ) → 0 < a → 0 < (amplification l a).den
in_full_high l a p = omega (arith, square_high a p)

pub in_whole : (l a : ℕ) → 0 < a → torsion_factor l a ≡ min (up (25_000 * (l * l)) (36 * (a * a))) 3_000
unfolding torsion_factor
in_whole l a p =
    ap (λ (n : ℕ). min n 3_000)
    (up_same (1_000 * (amplification l a).num) (amplification l a).den (25_000 * (l * l)) (36 * (a * a)) (in_full_high l a p) (divisor_high a p) (omega arith))

-- ---- the smaller of two numbers
by_most : (P : ℕ → Type 0) (n m : ℕ) → (n ≤ m → P n) → (m < n → P m) → P (min n m)
by_most P n m f g = go (leb n m) refl
  where
    go : (t : Bool) → leb n m ≡ t → P (min n m)
    go true e = let h = leb-true n m e in let q : n ≡ min n m = omega arith in rw (sym q) (f h)
    go false e = let h = leb-false n m e in let q : m ≡ min n m = omega arith in rw (sym q) (g h)

-- 'not required to exceed 3.0'
pub factor_most : (l a : ℕ) → torsion_factor l a ≤ 3_000
unfolding torsion_factor
factor_most l a = by_most (λ (k : ℕ). k ≤ 3_000) (up_in 1_000 (amplification l a)) 3_000 (λ h. h) (λ h. omega arith)

pub factor_covers : (l a : ℕ) → 0 < a → AtMost (amplification l a) (over (torsion_factor l a) 1_000) ⊎ (torsion_factor l a ≡ 3_000)
unfolding torsion_factor
factor_covers l a p =
    let x = amplification l a in
    by_most (λ (k : ℕ). AtMost x (over k 1_000) ⊎ (k ≡ 3_000)) (up_in 1_000 x) 3_000
    (λ h. inl (omega (arith, up_law (1_000 * x.num) x.den (in_full_high l a p)))) (λ h. inr refl)

pub factor_near : (l a : ℕ) → 0 < a → Less (over (torsion_factor l a) 1_000) (plus (amplification l a) (over 1 1_000))
unfolding torsion_factor
factor_near l a p =
    let x = amplification l a in
    let near = (up_law (1_000 * x.num) x.den (in_full_high l a p)).1 in
    by_most (λ (k : ℕ). Less (over k 1_000) (plus x (over 1 1_000))) (up_in 1_000 x) 3_000
    (λ h. omega (arith, near)) (λ h. omega (arith, near, mul-le-mul_right x.den h))

-- no average is above the largest, so that equal displacements give the least
pub factor_least : (l a : ℕ) → 0 < a → a ≤ l → 695 ≤ torsion_factor l a
factor_least l a p h =
    let u = up (25_000 * (l * l)) (36 * (a * a)) in
    let covers = (up_law (25_000 * (l * l)) (36 * (a * a)) (divisor_high a p)).0 in
    rw (in_whole l a p) (by_most (λ (k : ℕ). 695 ≤ k) u 3_000 (λ _. high u (omega (arith, covers, square_most a l h))) (λ _. omega arith))
  where
    high : (u : ℕ) → 25_000 * (a * a) ≤ 36 * (a * a) * u → 695 ≤ u
    high u e = go (leb 695 u) refl
      where
        go : (t : Bool) → leb 695 u ≡ t → 695 ≤ u
        go true t = leb-true 695 u t
        go false t =
            let low : u ≤ 694 = omega (arith, leb-false 695 u t) in
            absurd (let z : ⊥ = omega (arith, e, mul-le-mul_right (a * a) low, square_high a p) in z)
