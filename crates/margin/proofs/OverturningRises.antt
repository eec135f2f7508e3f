-- No overturning moment grows when the base shear falls. About the bottom of a storey it is the shears from that storey upward, each times its
-- storey's height: the forces from a level upward are together the shear under it, and of forces that together, from each level upward, are
-- no larger, the moment is no larger.
-- Assumes nothing.
use mathlib.Core.Path.{◌≡◌, refl, ap, subst, ◌∙◌}
use mathlib.Core.List.{List, [], ◌∷◌}
use Prim.Native.Nat.{ℕ, zero, suc, ◌+◌, ◌*◌, ◌-◌, ◌≤◌, ◌<◌}
use native.Mathlib.Nat.{suc-add, mul-le-mul_right}
use native.Mathlib.Omega.{arith}
use lib.ListN.{length, get_or, drop, length-drop}
use lib.Seq.{drop-drop, get_or-drop}
use Rattle.whole.specs.Cells.{sum}
use Rattle.whole.proofs.Cells.{cells_at}
use Rattle.storeys.specs.Reach.{Falling, Rising}
use Rattle.storeys.specs.Storeys.{RoofAtMostOne, weight_height, shears, force, forces, bottom, about, overturning}
use Rattle.storeys.proofs.Chain.{shears_length, forces_length}
use Rattle.storeys.proofs.Telescope.{shears_fall, force_whole}
use Rattle.storeys.proofs.Turning.{bottom_below}
use Rattle.margin.proofs.RisesWithBase.{shears_rise}

-- ---- the forces from level x upward are together the shear under it
differences_sum : (fs us : List ℕ) → length fs ≡ length us
    → ((x : ℕ) → x < length fs → get_or fs x 0 + get_or us (x + 1) 0 ≡ get_or us x 0) → (x : ℕ) → sum (drop x fs) ≡ get_or us x 0
unfolding sum
differences_sum [] [] e w zero = refl
differences_sum [] [] e w (suc x) = refl
differences_sum [] (u ∷ us) e w x = absurd (let z : ⊥ = omega (arith, e) in z)
differences_sum (f ∷ fs) [] e w x = absurd (let z : ⊥ = omega (arith, e) in z)
differences_sum (f ∷ fs) (u ∷ us) e w zero =
    let above = differences_sum fs us (omega (arith, e)) (λ y l. simp suc-add at (w (suc y) (omega arith))) 0 in
    omega (arith, above, w 0 (omega arith))
differences_sum (f ∷ fs) (u ∷ us) e w (suc x) =
    differences_sum fs us (omega (arith, e)) (λ y l. simp suc-add at (w (suc y) (omega arith))) x

forces_from : (us : List ℕ) → Falling us → (x : ℕ) → sum (drop x (forces us)) ≡ get_or us x 0
forces_from us f =
    differences_sum (forces us) us (forces_length us)
    (λ x l. let at = cells_at (force us) (length us) x (omega (arith, forces_length us)) in
    omega (arith, at, force_whole us x f))

-- ---- forces about a bottom b
-- fs' is, from each level upward, no less than fs: what it is more by stands at least d above b, where no level stands lower
moment_rises : (b d : ℕ) (fs fs' hs : List ℕ) → length fs ≡ length hs → length fs' ≡ length hs → Rising hs
    → (0 < length hs → b + d ≤ get_or hs 0 0) → ((x : ℕ) → sum (drop x fs) ≤ sum (drop x fs'))
    → about b fs hs + sum fs' * d ≤ about b fs' hs + sum fs * d
unfolding about sum
moment_rises b d [] [] hs e e' r low s = omega arith
moment_rises b d [] (f' ∷ fs') hs e e' r low s = absurd (let z : ⊥ = omega (arith, e, e') in z)
moment_rises b d (f ∷ fs) [] hs e e' r low s = absurd (let z : ⊥ = omega (arith, e, e') in z)
moment_rises b d (f ∷ fs) (f' ∷ fs') [] e e' r low s = absurd (let z : ⊥ = omega (arith, e) in z)
moment_rises b d (f ∷ fs) (f' ∷ fs') (a ∷ hs) e e' r low s =
    let l : b + d ≤ a = low (omega arith) in
    let split : a - b ≡ d + (a - (b + d)) = omega arith in
    let next : 0 < length hs → b + (a - b) ≤ get_or hs 0 0 = λ p. let n : a ≤ get_or hs 0 0 = r 0 (omega arith) in omega arith in
    let above = moment_rises b (a - b) fs fs' hs (omega (arith, e)) (omega (arith, e'))
    (λ x p. simp suc-add at (r (suc x) (omega arith))) next (λ x. s (suc x)) in
    omega (
      arith,
      above,
      mul-le-mul_right (a - (b + d)) (s 0),
      ap (λ (z : ℕ). (f + sum fs) * z) split,
      ap (λ (z : ℕ). (f' + sum fs') * z) split,
    )

-- the levels from x on rise too
rising_from : (hs : List ℕ) (x : ℕ) → Rising hs → Rising (drop x hs)
rising_from hs x r k l =
    let e : x + k + 1 ≡ x + (k + 1) = omega arith in
    simp get_or-drop (subst (λ (n : ℕ). get_or hs (x + k) 0 ≤ get_or hs n 0) e (r (x + k) (omega (arith, simp length-drop at l))))

-- ---- overturning moments
overturning_rises_with_shears : (us us' hs : List ℕ) (x : ℕ) → length us ≡ length hs → length us' ≡ length hs → Rising hs
    → Falling us → Falling us' → ((y : ℕ) → get_or us y 0 ≤ get_or us' y 0) → overturning (forces us) hs x ≤ overturning (forces us') hs x
overturning_rises_with_shears us us' hs x e e' r f f' s =
    let from : (l : List ℕ) → Falling l → (y : ℕ) → sum (drop y (drop x (forces l))) ≡ get_or l (x + y) 0 =
    λ l g y. ap sum (drop-drop y x (forces l)) ∙ forces_from l g (x + y) in
    omega (
      arith,
      moment_rises (bottom hs x) 0 (drop x (forces us)) (drop x (forces us')) (drop x hs)
          (simp length-drop (omega (arith, forces_length us, e)))
          (simp length-drop (omega (arith, forces_length us', e')))
          (rising_from hs x r)
          (λ l. simp get_or-drop (omega (arith, bottom_below hs r x 0 (omega (arith, simp length-drop at l)))))
          (λ y. omega (arith, from us f y, from us' f' y, s (x + y))),
    )

pub overturning_rises : (T v v' : ℕ) (ws hs : List ℕ) (x : ℕ) → RoofAtMostOne T → 0 < weight_height ws hs → length ws ≡ length hs
    → Rising hs → v ≤ v' → overturning (forces (shears T v ws hs)) hs x ≤ overturning (forces (shears T v' ws hs)) hs x
overturning_rises T v v' ws hs x roof p same r h =
    overturning_rises_with_shears (shears T v ws hs) (shears T v' ws hs) hs x (shears_length T v ws hs ∙ same)
    (shears_length T v' ws hs ∙ same) r (shears_fall T v ws hs p) (shears_fall T v' ws hs p)
    (λ y. shears_rise T v v' ws hs y roof p h)
