-- The shears rise on the way down to V, so no force is cut off at 0, and the forces add up to V.
-- Assumes nothing.
use mathlib.Core.Path.{◌≡◌, refl, ap, subst, ◌∙◌}
use mathlib.Core.Bool.{Bool, true, false}
use mathlib.Core.List.{List}
use Prim.Native.Nat.{ℕ, zero, suc, ◌+◌, ◌*◌, ◌-◌, ◌≤◌, ◌<◌}
use native.Mathlib.Nat.{le_refl, mul-le-mul_left}
use native.Mathlib.Numerals.{add-one}
use native.Mathlib.Omega.{arith}
use lib.Dec.{leb}
use lib.ListN.{length, get_or, drop}
use borrow.Author.Tests.{leb-true, leb-false}
use Rattle.whole.specs.Cells.{cells, sum}
use Rattle.whole.specs.Rounding.{up}
use Rattle.whole.proofs.Cells.{cells_at, cells_past, past_end, sum_cells_more}
use Rattle.whole.proofs.Rounding.{up_exact, up_mono}
use Rattle.storeys.specs.Reach.{Falling}
use Rattle.storeys.specs.Storeys.{RoofAtMostOne, roof_force, weight_height, shear_under, shears, force, forces}
use Rattle.storeys.proofs.Roof.{roof_most, share_most}
use Rattle.storeys.proofs.Sums.{part_sum, sum_falls}

-- ---- the shears
-- the lowest is V
pub shear_lowest : (T v : ℕ) (ws hs : List ℕ) → 0 < weight_height ws hs → RoofAtMostOne T → shear_under T v ws hs 0 ≡ v
shear_lowest T v ws hs p h =
    let P = weight_height ws hs in
    let r = v - roof_force T v in
    let e : up (r * P) P ≡ r = ap (λ (n : ℕ). up n P) (omega arith) ∙ up_exact r P p in
    omega (arith, e, roof_most T v h)

-- no shear is above the one below it
pub shear_falls : (T v : ℕ) (ws hs : List ℕ) (x : ℕ) → 0 < weight_height ws hs
    → shear_under T v ws hs (x + 1) ≤ shear_under T v ws hs x
shear_falls T v ws hs x p =
    let P = weight_height ws hs in
    let a = weight_height (drop (x + 1) ws) (drop (x + 1) hs) in
    let b = weight_height (drop x ws) (drop x hs) in
    let r = v - roof_force T v in
    omega (arith, up_mono (r * a) P (r * b) P p (le_refl P) (mul-le-mul_left r (sum_falls ws hs x)))

-- none is above V
pub shear_most : (T v : ℕ) (ws hs : List ℕ) (x : ℕ) → 0 < weight_height ws hs → RoofAtMostOne T → shear_under T v ws hs x ≤ v
shear_most T v ws hs x p h =
    let P = weight_height ws hs in
    let a = weight_height (drop x ws) (drop x hs) in
    let r = v - roof_force T v in
    omega (arith, share_most r a P p (part_sum ws hs x), roof_most T v h)

-- ---- the forces
pub shears_fall : (T v : ℕ) (ws hs : List ℕ) → 0 < weight_height ws hs → Falling (shears T v ws hs)
shears_fall T v ws hs p x = go (leb (length ws) (x + 1)) refl
  where
    go : (t : Bool) → leb (length ws) (x + 1) ≡ t → get_or (shears T v ws hs) (x + 1) 0 ≤ get_or (shears T v ws hs) x 0
    go true e = omega (arith, cells_past (shear_under T v ws hs) (length ws) (x + 1) (leb-true (length ws) (x + 1) e))
    go false e =
        let l = leb-false (length ws) (x + 1) e in
        let a = cells_at (shear_under T v ws hs) (length ws) (x + 1) l in
        let b = cells_at (shear_under T v ws hs) (length ws) x (omega arith) in
        omega (arith, a, b, shear_falls T v ws hs x p)

-- a level's force and the shear above it are the shear under it: the difference is not cut off at 0
pub force_whole : (us : List ℕ) (x : ℕ) → Falling us → force us x + get_or us (x + 1) 0 ≡ get_or us x 0
force_whole us x f = omega (arith, f x)

-- the forces below level n add up to what the shear loses on the way up to it
abbrev Below : List ℕ → ℕ → Type 0
Below us n = sum (cells (force us) n) + get_or us n 0 ≡ get_or us 0 0

below_more : (us : List ℕ) (n : ℕ) → Falling us → Below us n → Below us (n + 1)
below_more us n f r = omega (arith, sum_cells_more (force us) n, force_whole us n f)

below : (us : List ℕ) (n : ℕ) → Falling us → Below us n
unfolding cells sum
below us zero f = omega arith
below us (suc n) f = subst (λ (k : ℕ). Below us k) (add-one n) (below_more us n f (below us n f))

pub forces_add_up : (us : List ℕ) → Falling us → sum (forces us) ≡ get_or us 0 0
forces_add_up us f = omega (arith, below us (length us) f, past_end us (length us) (le_refl (length us)))

-- 'Each storey force rounded alone: the sum misses V_D': these hit it
pub forces_sum : (T v : ℕ) (ws hs : List ℕ) → 0 < length ws → 0 < weight_height ws hs → RoofAtMostOne T
    → sum (forces (shears T v ws hs)) ≡ v
forces_sum T v ws hs n p h =
    forces_add_up (shears T v ws hs) (shears_fall T v ws hs p)
    ∙ cells_at (shear_under T v ws hs) (length ws) 0 n
    ∙ shear_lowest T v ws hs p h
