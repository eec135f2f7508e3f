-- The shear under a level does not grow when the base shear falls: F_t falls with it, and so does what is left of V beside F_t. The force of the
-- top level does not grow either. A force below it is the difference of two numbers that are each rounded: it may grow, and by one newton at most.
-- Assumes nothing.
use mathlib.Core.Path.{◌≡◌, refl, ap}
use mathlib.Core.Bool.{Bool, true, false}
use mathlib.Core.List.{List, [], ◌∷◌}
use Prim.Native.Nat.{ℕ, ◌+◌, ◌*◌, ◌-◌, ◌≤◌, ◌<◌}
use native.Mathlib.Nat.{le_refl, lt_of_mul-lt-mul_left, mul-le-mul_left, mul-le-mul_right}
use native.Mathlib.Omega.{arith}
use lib.Dec.{leb}
use lib.ListN.{length, get_or, drop}
use borrow.Author.Tests.{leb-true, leb-false}
use Rattle.whole.specs.declared.Fraction.{Fraction}
use Rattle.whole.specs.Cells.{cells}
use Rattle.whole.specs.Rounding.{up}
use Rattle.whole.proofs.Cells.{cells_at, cells_past}
use Rattle.whole.proofs.Rounding.{up_law, up_most, up_mono}
use Rattle.storeys.specs.Storeys.{RoofAtMostOne, roof_part, roof_force, weight_height, shear_under, shears, force}
use Rattle.storeys.proofs.Sums.{sum_falls}

-- ---- a part t of V, rounded up, and the rest
module _ (t : Fraction) (p : 0 < t.den) (v v' : ℕ) (h : v ≤ v') where
  part_rises : up (t.num * v) t.den ≤ up (t.num * v') t.den
  part_rises = up_mono (t.num * v) t.den (t.num * v') t.den p (le_refl t.den) (mul-le-mul_left t.num h)

  -- of a part of at most 1: it rises by no more than V does
  part_near : t.num ≤ t.den → up (t.num * v') t.den ≤ up (t.num * v) t.den + (v' - v)
  part_near one =
      let whole : v + (v' - v) ≡ v' = omega arith in
      up_most (t.num * v') t.den _ p
      (omega (
        arith,
        ap (λ (z : ℕ). t.num * z) whole,
        mul-le-mul_right (v' - v) one,
        (up_law (t.num * v) t.den p).0,
      ))

rest_rises : (T v v' : ℕ) → RoofAtMostOne T → v ≤ v' → v - roof_force T v ≤ v' - roof_force T v'
rest_rises T v v' roof h = omega (arith, part_near (roof_part T) (omega arith) v v' h roof)

-- ---- the shear under level x
pub shear_rises : (T v v' : ℕ) (ws hs : List ℕ) (x : ℕ) → RoofAtMostOne T → 0 < weight_height ws hs → v ≤ v'
    → shear_under T v ws hs x ≤ shear_under T v' ws hs x
shear_rises T v v' ws hs x roof p h =
    let P = weight_height ws hs in
    let Px = weight_height (drop x ws) (drop x hs) in
    omega (
      arith,
      part_rises (roof_part T) (omega arith) v v' h,
      up_mono ((v - roof_force T v) * Px) P ((v' - roof_force T v') * Px) P p (le_refl P) (mul-le-mul_right Px (rest_rises T v v' roof h)),
    )

-- the shears of all levels; above the roof there is none
pub shears_rise : (T v v' : ℕ) (ws hs : List ℕ) (x : ℕ) → RoofAtMostOne T → 0 < weight_height ws hs → v ≤ v'
    → get_or (shears T v ws hs) x 0 ≤ get_or (shears T v' ws hs) x 0
shears_rise T v v' ws hs x roof p h = go (leb (length ws) x) refl
  where
    go : (t : Bool) → leb (length ws) x ≡ t → get_or (shears T v ws hs) x 0 ≤ get_or (shears T v' ws hs) x 0
    go true e = omega (arith, cells_past (shear_under T v ws hs) (length ws) x (leb-true (length ws) x e))
    go false e =
        let l = leb-false (length ws) x e in
        let a = cells_at (shear_under T v ws hs) (length ws) x l in
        let b = cells_at (shear_under T v' ws hs) (length ws) x l in
        omega (arith, a, b, shear_rises T v v' ws hs x roof p h)

-- ---- the forces
-- c·a/d less c·b/d, each rounded up: of a smaller c it is less than two above, so at most one
difference_rises_by_one : (d a b c c' : ℕ) → 0 < d → b ≤ a → c ≤ c'
    → up (c * a) d + up (c' * b) d ≤ up (c' * a) d + up (c * b) d + 1
difference_rises_by_one d a b c c' p ha hc =
    let whole : b + (a - b) ≡ a = omega arith in
    let k : d * (up (c * a) d + up (c' * b) d) < d * (up (c' * a) d + up (c * b) d + 2) =
    omega (
      arith,
      (up_law (c * a) d p).1,
      (up_law (c' * b) d p).1,
      (up_law (c' * a) d p).0,
      (up_law (c * b) d p).0,
      mul-le-mul_right (a - b) hc,
      ap (λ (z : ℕ). c * z) whole,
      ap (λ (z : ℕ). c' * z) whole,
    ) in
    omega (arith, lt_of_mul-lt-mul_left d k)

module _ (T v v' : ℕ) (ws hs : List ℕ) (x : ℕ) (roof : RoofAtMostOne T) (p : 0 < weight_height ws hs) (h : v ≤ v') where
  -- where no level is above, a force is a shear
  pub top_force_rises : length ws ≤ x + 1 → force (shears T v ws hs) x ≤ force (shears T v' ws hs) x
  top_force_rises l =
      omega (arith, shears_rise T v v' ws hs x roof p h, cells_past (shear_under T v' ws hs) (length ws) (x + 1) l)

  -- where one is, F_t is in both shears and drops out
  lower_force_rises_by_one : x + 1 < length ws → force (shears T v ws hs) x ≤ force (shears T v' ws hs) x + 1
  lower_force_rises_by_one l =
      let at : (u y : ℕ) → y < length ws → get_or (shears T u ws hs) y 0 ≡ shear_under T u ws hs y =
      λ u y q. cells_at (shear_under T u ws hs) (length ws) y q in
      let a = weight_height (drop x ws) (drop x hs) in
      let b = weight_height (drop (x + 1) ws) (drop (x + 1) hs) in
      let c = v - roof_force T v in
      let c' = v' - roof_force T v' in
      omega (
        arith,
        at v x (omega arith),
        at v (x + 1) l,
        at v' x (omega arith),
        at v' (x + 1) l,
        difference_rises_by_one (weight_height ws hs) a b c c' p (sum_falls ws hs x) (rest_rises T v v' roof h),
      )

  -- so at every level
  pub force_rises_by_one : force (shears T v ws hs) x ≤ force (shears T v' ws hs) x + 1
  force_rises_by_one = go (leb (length ws) (x + 1)) refl
    where
      go : (t : Bool) → leb (length ws) (x + 1) ≡ t → force (shears T v ws hs) x ≤ force (shears T v' ws hs) x + 1
      go true e = omega (arith, top_force_rises (leb-true (length ws) (x + 1) e))
      go false e = lower_force_rises_by_one (leb-false (length ws) (x + 1) e)

-- and one newton it is: the middle one of these three levels has 0 N of a base shear of 3 N, and 1 N of one of 2 N
abbrev pub middle_force : ℕ → ℕ
middle_force v = force (shears 500 v (4 ∷ 1 ∷ 2 ∷ []) (1 ∷ 2 ∷ 3 ∷ [])) 1

pub force_may_grow : (middle_force 3 ≡ 0) × (middle_force 2 ≡ 1)
unfolding up cells weight_height
force_may_grow = (refl, refl)
