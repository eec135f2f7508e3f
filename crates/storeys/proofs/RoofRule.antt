-- The rule of the roof force in document 02's own numbers, the T from which each piece of it counts, and that it leaves no shear above that
-- of (21).
--   rising T    0.07·(T in s)
-- Assumes nothing.
use mathlib.Core.Path.{◌≡◌, refl, sym, ap, ◌∙◌}
use mathlib.Core.List.{List}
use Prim.Native.Nat.{ℕ, ◌+◌, ◌*◌, ◌-◌, ◌≤◌, ◌<◌, min}
use native.Mathlib.Decide.{dec_le}
use native.Mathlib.Nat.{min-eq_left, min-eq_right, min-le_left, mul-le-mul_left, mul-le-mul_right}
use native.Mathlib.Omega.{arith}
use lib.ListN.{drop}
use Rattle.whole.specs.declared.Fraction.{Fraction}
use Rattle.whole.specs.Fraction.{over, times, Same, AtMost, Less}
use Rattle.whole.specs.Rounding.{up}
use Rattle.whole.proofs.Choice.{by_leb}
use Rattle.whole.proofs.Rounding.{up_law, up_mono, up_most, up_scale}
use Rattle.storeys.specs.Storeys.{roof_part, roof_force, weight_height, shear_under}
use Rattle.storeys.proofs.Sums.{part_sum}

abbrev pub rising : ℕ → Fraction
rising T = times (over 7 100) (over T 1000)

-- ---- the part, in 100,000
pub part_none : (T : ℕ) → T ≤ 700 → (roof_part T).num ≡ 0
part_none T h = by_leb (λ (n : ℕ). n ≡ 0) T 700 _ _ (λ _. refl) (λ k. absurd (let b : ⊥ = omega arith in b))

pub part_rising : (T : ℕ) → 700 < T → 7 * T ≤ 25_000 → (roof_part T).num ≡ 7 * T
part_rising T h q =
    by_leb (λ (n : ℕ). n ≡ 7 * T) T 700 _ _ (λ k. absurd (let b : ⊥ = omega arith in b)) (λ _. min-eq_left q)

pub part_quarter : (T : ℕ) → 25_000 ≤ 7 * T → (roof_part T).num ≡ 25_000
part_quarter T q =
    by_leb (λ (n : ℕ). n ≡ 25_000) T 700 _ _ (λ k. absurd (let b : ⊥ = omega arith in b)) (λ _. min-eq_right q)

-- ---- 'F_t becomes 0 up to 700 ms, and above that the smaller of 0.07·T·V_D and V_D/4': of the part, which the exact figure takes too
pub none_up_to_700 : (T : ℕ) → T ≤ 700 → Same (roof_part T) (over 0 1)
none_up_to_700 T h = omega (arith, part_none T h)

pub rising_where_smaller : (T : ℕ) → 700 < T → AtMost (rising T) (over 1 4) → Same (roof_part T) (rising T)
rising_where_smaller T h q = omega (arith, part_rising T h (omega arith))

pub quarter_where_smaller : (T : ℕ) → 700 < T → AtMost (over 1 4) (rising T) → Same (roof_part T) (over 1 4)
quarter_where_smaller T h q = omega (arith, part_quarter T (omega arith))

-- ---- the quarter begins to count at 3,572 ms: 0.07·3.571 = 0.24997, 0.07·3.572 = 0.25004
pub rising_up_to_3571 : (T : ℕ) → T ≤ 3_571 → Less (rising T) (over 1 4)
rising_up_to_3571 T h = omega arith

pub quarter_from_3572 : (T : ℕ) → 3_572 ≤ T → Less (over 1 4) (rising T)
quarter_from_3572 T h = omega arith

-- ---- 'rounded up'
pub no_roof_force : (T v : ℕ) → T ≤ 700 → roof_force T v ≡ 0
no_roof_force T v h =
    let e = part_none T h in
    omega (arith, (up_law ((roof_part T).num * v) 100_000 (omega arith)).1, ap (λ (n : ℕ). n * v) e)

pub rising_roof_force : (T v : ℕ) → 700 < T → T ≤ 3_571 → roof_force T v ≡ up (7 * T * v) 100_000
rising_roof_force T v h k = ap (λ (n : ℕ). up (n * v) 100_000) (part_rising T h (omega arith))

pub quarter_roof_force : (T v : ℕ) → 3_572 ≤ T → roof_force T v ≡ up v 4
quarter_roof_force T v h =
    ap (λ (n : ℕ). up (n * v) 100_000) (part_quarter T (omega arith)) ∙ up_scale 25_000 v 4 (omega arith) (omega arith)

-- so up to 700 ms a shear is V·P_x/P, up
pub shear_up_to_700 : (T v : ℕ) (ws hs : List ℕ) (x : ℕ) → T ≤ 700
    → shear_under T v ws hs x ≡ up (v * weight_height (drop x ws) (drop x hs)) (weight_height ws hs)
shear_up_to_700 T v ws hs x h =
    let Px = weight_height (drop x ws) (drop x hs) in
    let P = weight_height ws hs in
    let none = no_roof_force T v h in
    let all : v - roof_force T v ≡ v = omega (arith, none) in
    omega (arith, none, ap (λ (rest : ℕ). up (rest * Px) P) all)

-- to round both and then take the smaller gives the same number
pub smaller_of_both : (T v : ℕ) → 700 < T → roof_force T v ≡ min (up (7 * T * v) 100_000) (up v 4)
smaller_of_both T v h = go (dec_le T 3_571)
  where
    scaled : up (25_000 * v) 100_000 ≡ up v 4
    scaled = up_scale 25_000 v 4 (omega arith) (omega arith)

    go : Dec (T ≤ 3_571) → roof_force T v ≡ min (up (7 * T * v) 100_000) (up v 4)
    go (yes k) =
        let q : 7 * T ≤ 25_000 = omega arith in
        let less = up_mono (7 * T * v) 100_000 (25_000 * v) 100_000 (omega arith) (omega arith) (mul-le-mul_right v q) in
        rising_roof_force T v h k ∙ sym (min-eq_left (omega (arith, less, scaled)))
    go (no k) =
        let q : 25_000 ≤ 7 * T = omega arith in
        let less = up_mono (25_000 * v) 100_000 (7 * T * v) 100_000 (omega arith) (omega arith) (mul-le-mul_right v q) in
        quarter_roof_force T v (omega arith) ∙ sym (min-eq_right (omega (arith, less, scaled)))

-- ---- beside (21), which has 0.07·(T in s)·V at every T: F_t is not above it, and no shear is
part_below_text : (T : ℕ) → (roof_part T).num ≤ 7 * T
part_below_text T = by_leb (λ (n : ℕ). n ≤ 7 * T) T 700 _ _ (λ _. omega arith) (λ _. min-le_left (7 * T) _)

pub roof_force_below_text : (T v : ℕ) → roof_force T v ≤ up (7 * T * v) 100_000
roof_force_below_text T v =
    up_mono ((roof_part T).num * v) 100_000 (7 * T * v) 100_000 (omega arith) (omega arith) (mul-le-mul_right v (part_below_text T))

-- of a base shear v a smaller roof force leaves no larger shear
shear_rises_with_roof_force : (v a p f g : ℕ) → 0 < p → a ≤ p → f ≤ g → g ≤ v → f + up ((v - f) * a) p ≤ g + up ((v - g) * a) p
shear_rises_with_roof_force v a p f g pos h k m =
    let d = g - f in
    let more : (v - g) + d ≡ v - f = omega arith in
    let u = up_law ((v - g) * a) p pos in
    let n = up ((v - g) * a) p in
    let within : (v - f) * a ≤ p * (n + d) = omega (arith, u.0, mul-le-mul_left d h, ap (λ (z : ℕ). z * a) more) in
    omega (arith, up_most ((v - f) * a) p (n + d) pos within)

pub shear_below_text : (T v : ℕ) (ws hs : List ℕ) (x : ℕ) → 0 < weight_height ws hs → up (7 * T * v) 100_000 ≤ v
    → let ft = up (7 * T * v) 100_000 in
    shear_under T v ws hs x ≤ ft + up ((v - ft) * weight_height (drop x ws) (drop x hs)) (weight_height ws hs)
shear_below_text T v ws hs x p m =
    shear_rises_with_roof_force v _ _ _ _ p (part_sum ws hs x) (roof_force_below_text T v) m
