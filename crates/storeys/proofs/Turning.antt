-- Forces times heights above a bottom: how large they are together, and that no height lies below the bottom.
-- Assumes nothing.
use mathlib.Core.Path.{◌≡◌, ap, subst}
use mathlib.Core.List.{List, [], ◌∷◌}
use Prim.Native.Nat.{ℕ, zero, suc, ◌+◌, ◌*◌, ◌-◌, ◌≤◌, ◌<◌}
use native.Mathlib.Nat.{le_refl, mul-le-mul_left}
use native.Mathlib.Omega.{arith}
use lib.ListN.{length, get_or, drop, length-drop}
use lib.Seq.{get_or-drop}
use Rattle.whole.specs.Cells.{sum}
use Rattle.storeys.specs.Reach.{Rising, Turning}
use Rattle.storeys.specs.Storeys.{about, bottom}

-- ---- at most the forces together times the largest height
pub about_most : (b : ℕ) (fs hs : List ℕ) (h : ℕ) → ((x : ℕ) → x < length hs → get_or hs x 0 ≤ h) → about b fs hs ≤ sum fs * h
unfolding about sum
about_most b [] hs h t = omega arith
about_most b (f ∷ fs) [] h t = omega arith
about_most b (f ∷ fs) (a ∷ hs) h t =
    let l : a - b ≤ h = omega (arith, t 0 (omega arith)) in
    omega (arith, mul-le-mul_left f l, about_most b fs hs h (λ x p. t (suc x) (omega arith)))

sum_part : (l : List ℕ) (x : ℕ) → sum (drop x l) ≤ sum l
unfolding sum
sum_part l zero = le_refl (sum l)
sum_part [] (suc x) = le_refl 0
sum_part (a ∷ l) (suc x) = omega (arith, sum_part l x)

pub bottom_at : (hs : List ℕ) (x : ℕ) → 0 < x → get_or hs (x - 1) 0 ≡ bottom hs x
bottom_at hs zero p = absurd (let b : ⊥ = omega arith in b)
bottom_at hs (suc x) p = let e : suc x - 1 ≡ x = omega arith in ap (λ (n : ℕ). get_or hs n 0) e

-- ---- no level from x upward lies below the bottom of storey x
pub rises : (hs : List ℕ) → Rising hs → (x k : ℕ) → x + k < length hs → get_or hs x 0 ≤ get_or hs (x + k) 0
rises hs r x zero h = subst (λ (n : ℕ). get_or hs x 0 ≤ get_or hs n 0) (let e : x ≡ x + 0 = omega arith in e) (le_refl (get_or hs x 0))
rises hs r x (suc k) h =
    let before = rises hs r x k (omega arith) in
    let step = r (x + k) (omega arith) in
    let e : x + k + 1 ≡ x + suc k = omega arith in
    subst (λ (n : ℕ). get_or hs x 0 ≤ get_or hs n 0) e (omega (arith, before, step))

pub bottom_below : (hs : List ℕ) → Rising hs → (x k : ℕ) → x + k < length hs → bottom hs x ≤ get_or hs (x + k) 0
bottom_below hs r zero k h = omega arith
bottom_below hs r (suc x) k h =
    let e : x + (k + 1) ≡ suc x + k = omega arith in
    subst (λ (n : ℕ). get_or hs x 0 ≤ get_or hs n 0) e (rises hs r x (k + 1) (omega arith))

-- ---- the levels from x on turn too
pub turning_from : (fs hs : List ℕ) (x : ℕ) → Turning fs hs → Turning (drop x fs) (drop x hs)
turning_from fs hs x t =
    record {
      same = simp length-drop (omega (arith, t.same));
      rising =
          λ k l.
          let e : x + k + 1 ≡ x + (k + 1) = omega arith in
          simp get_or-drop (subst (λ (n : ℕ). get_or hs (x + k) 0 ≤ get_or hs n 0) e (t.rising (x + k) (omega (arith, simp length-drop at l))));
      tall = λ k l. simp get_or-drop (t.tall (x + k) (omega (arith, simp length-drop at l)));
      load = omega (arith, sum_part fs x, t.load);
    }

-- ---- the bottom of a storey is not above the lowest of the levels from it on
pub bottom_lowest : (fs hs : List ℕ) (x : ℕ) → Turning fs hs → x < length hs → bottom hs x ≤ get_or (drop x hs) 0 0
bottom_lowest fs hs x t l = simp get_or-drop (bottom_below hs t.rising x 0 (omega arith))
