-- P and P_x: the sum of weight times height, and that from level x to the roof.
-- Assumes nothing.
use mathlib.Core.Path.{◌≡◌, refl, ap₂, subst, ◌∙◌}
use mathlib.Core.List.{List, [], ◌∷◌}
use Prim.Native.Nat.{ℕ, zero, suc, ◌+◌, ◌*◌, ◌≤◌, ◌<◌}
use native.Mathlib.Nat.{le_refl, mul-pos, mul-le-mul}
use native.Mathlib.Numerals.{add-one}
use native.Mathlib.Omega.{arith}
use lib.ListN.{length, get_or, drop, length-drop}
use lib.Seq.{drop-cons, drop-length, drop-drop}
use Rattle.storeys.specs.Reach.{Weighing}
use Rattle.storeys.specs.Storeys.{weight_height}

-- ---- the definition, level by level
none_right : (ws : List ℕ) → weight_height ws [] ≡ 0
unfolding weight_height
none_right [] = refl
none_right (w ∷ ws) = refl

cons : (w h : ℕ) (ws hs : List ℕ) → weight_height (w ∷ ws) (h ∷ hs) ≡ w * h + weight_height ws hs
unfolding weight_height
cons w h ws hs = refl

pub sum_level : (ws hs : List ℕ) (x : ℕ) → x < length ws → x < length hs
    → weight_height (drop x ws) (drop x hs) ≡ get_or ws x 0 * get_or hs x 0 + weight_height (drop (x + 1) ws) (drop (x + 1) hs)
sum_level ws hs x w h = rw add-one (ap₂ weight_height (drop-cons ws x 0 w) (drop-cons hs x 0 h) ∙ cons _ _ _ _)

-- P of all levels is the lowest level's part and P of those above it
pub lowest_level : (ws hs : List ℕ) → 0 < length ws → length ws ≡ length hs
    → weight_height ws hs ≡ get_or ws 0 0 * get_or hs 0 0 + weight_height (drop 1 ws) (drop 1 hs)
lowest_level ws hs l e = sum_level ws hs 0 l (omega arith)

-- above the roof there is nothing
pub sum_end : (ws hs : List ℕ) → weight_height (drop (length ws) ws) (drop (length ws) hs) ≡ 0
unfolding weight_height
sum_end ws hs = rw (drop-length ws)

-- ---- P_x is not above P, and does not rise with x
pub part_sum : (ws hs : List ℕ) (x : ℕ) → weight_height (drop x ws) (drop x hs) ≤ weight_height ws hs
unfolding weight_height
part_sum ws hs zero = le_refl (weight_height ws hs)
part_sum [] hs (suc x) = omega arith
part_sum (w ∷ ws) [] (suc x) = omega (arith, none_right (drop x ws))
part_sum (w ∷ ws) (h ∷ hs) (suc x) = omega (arith, part_sum ws hs x)

pub sum_falls : (ws hs : List ℕ) (x : ℕ) → weight_height (drop (x + 1) ws) (drop (x + 1) hs) ≤ weight_height (drop x ws) (drop x hs)
sum_falls ws hs x =
    subst (λ (n : ℕ). n ≤ weight_height (drop x ws) (drop x hs))
    (ap₂ weight_height (drop-drop 1 x ws) (drop-drop 1 x hs))
    (part_sum (drop x ws) (drop x hs) 1)

-- ---- P is above 0 where the lowest level has a weight and a height
pub sum_positive : (ws hs : List ℕ) → 0 < get_or ws 0 0 → 0 < get_or hs 0 0 → 0 < weight_height ws hs
unfolding weight_height
sum_positive [] hs p q = absurd (let b : ⊥ = omega arith in b)
sum_positive (w ∷ ws) [] p q = absurd (let b : ⊥ = omega arith in b)
sum_positive (w ∷ ws) (h ∷ hs) p q = omega (arith, mul-pos p q)

-- ---- how large P can be: n levels of at most w kN and h dm
pub sum_most : (ws hs : List ℕ) (w h : ℕ) → ((x : ℕ) → x < length ws → (get_or ws x 0 ≤ w) × (get_or hs x 0 ≤ h))
    → weight_height ws hs ≤ length ws * (w * h)
unfolding weight_height
sum_most [] hs w h b = omega arith
sum_most (a ∷ ws) [] w h b = omega arith
sum_most (a ∷ ws) (c ∷ hs) w h b =
    let l = b 0 (omega arith) in
    let r = sum_most ws hs w h (λ x p. b (suc x) (omega arith)) in
    let m = mul-le-mul l.0 l.1 in
    omega arith

-- ---- the levels from x on are levels too
pub weighing_from : (ws hs : List ℕ) (x : ℕ) → Weighing ws hs → Weighing (drop x ws) (drop x hs)
weighing_from ws hs x l =
    record { same = simp length-drop (omega (arith, l.same)); most = omega (arith, part_sum ws hs x, l.most) }
