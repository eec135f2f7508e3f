-- Displacements, number 23, judged level by level: which number they are refused with, and that a level to which 23 applies is refused, or one below it; and a
-- refusal that is given applies. One after the other, from the i-th on.
-- Assumes nothing.
use mathlib.Core.Path.{◌≡◌, refl, subst}
use mathlib.Core.List.{List, [], ◌∷◌}
use mathlib.Core.Logic.{inr}
use Prim.Native.Nat.{ℕ, zero, suc, ◌+◌, ◌≤◌, ◌<◌}
use native.Mathlib.Nat.{add-zero}
use native.Mathlib.Numerals.{add-one}
use native.Mathlib.Omega.{arith}
use lib.Dec.{leb}
use lib.IntN.{ℤ, pos}
use lib.ListN.{length, get_or, drop}
use lib.Seq.{drop-cons}
use Rattle.std.proofs.Math.ListN.{drop_of_length-le}
use borrow.Author.Tests.{leb-true, leb-false, lt-leb}
use Rattle.whole.specs.Signed.{size}
use Rattle.limits.specs.Displacement.{judged_displacement, displaced}
use Rattle.limits.specs.Order.{NoLater}
use Rattle.limits.specs.Outcome.{accepted, ◌>>◌}
use Rattle.limits.proofs.Passed.{then_passed, require_passed}
use Rattle.limits.proofs.Precedence.{Stops, UpTo, both_up_to, require_up_to, first_stops, later_stops, require_yields, require_stops}
use Rattle.limits.proofs.Refusing.{next}
use Rattle.limits.proofs.Told.{Told, then_told, require_told}

-- ---- from the i-th on
module _ (zs : List ℤ) (p i : ℕ) (h : i < length zs) where
  pub displaced_step : displaced p (drop i zs) ≡ (judged_displacement (get_or zs i (pos 0)) p >> displaced (p + 1) (drop (i + 1) zs))
  unfolding displaced
  displaced_step = rw (add-one i, drop-cons zs i (pos 0) h)

pub displaced_end : (zs : List ℤ) (p i : ℕ) → length zs ≤ i → displaced p (drop i zs) ≡ accepted tt
unfolding displaced
displaced_end zs p i h = rw (drop_of_length-le zs h)

-- ---- refusals
pub displaced_up_to : (m : ℕ) → NoLater 23 m → (p : ℕ) (zs : List ℤ) → UpTo m (displaced p zs)
unfolding displaced
displaced_up_to m h p [] = tt
displaced_up_to m h p (z ∷ zs) =
    both_up_to m (judged_displacement z p) (displaced (p + 1) zs) (require_up_to m (leb (size z) 1_000_000) 23 p h)
    (displaced_up_to m h (p + 1) zs)

pub displaced_stops : (q p : ℕ) (zs : List ℤ) (x : ℕ) → 1 ≤ p → q ≡ p + x → x < length zs → 1_000_000 < size (get_or zs x (pos 0))
    → Stops 23 q (displaced p zs)
unfolding displaced
displaced_stops q p [] x h e l o = absurd (omega arith)
displaced_stops q p (z ∷ zs) zero h e l o =
    first_stops 23 q (judged_displacement z p) (displaced (p + 1) zs)
    (require_stops 23 q (leb (size z) 1_000_000) 23 p (lt-leb _ _ o) (inr (refl, inr (h, omega arith))))
displaced_stops q p (z ∷ zs) (suc x) h e l o =
    later_stops 23 q (judged_displacement z p) (displaced (p + 1) zs)
    (require_yields 23 q (leb (size z) 1_000_000) 23 p (inr (refl, inr (h, omega arith))))
    (λ _. displaced_stops q (p + 1) zs x (omega arith) (omega arith) (omega arith) o)

pub displaced_told : (A : ℕ → ℕ → Type 0) (p : ℕ) (zs : List ℤ)
    → ((x : ℕ) → x < length zs → 1_000_000 < size (get_or zs x (pos 0)) → A 23 (p + x)) → Told A (displaced p zs)
unfolding displaced
displaced_told A p [] f = tt
displaced_told A p (z ∷ zs) f =
    then_told A (judged_displacement z p) (displaced (p + 1) zs)
    (require_told A (leb (size z) 1_000_000) 23 p (λ e. subst (A 23) (add-zero p) (f 0 (omega arith) (leb-false _ _ e))))
    (λ _. displaced_told A (p + 1) zs (λ x h o. subst (A 23) (next p x) (f (suc x) (omega arith) o)))

-- ---- and what is accepted
pub displaced_sizes : (p : ℕ) (zs : List ℤ) → displaced p zs ≡ accepted tt → (x : ℕ) → x < length zs → size (get_or zs x (pos 0)) ≤ 1_000_000
unfolding displaced
displaced_sizes p [] e x h = absurd (omega arith)
displaced_sizes p (z ∷ zs) e zero h =
    leb-true _ _ (require_passed (leb (size z) 1_000_000) 23 p (then_passed (judged_displacement z p) (displaced (p + 1) zs) e).0)
displaced_sizes p (z ∷ zs) e (suc x) h =
    displaced_sizes (p + 1) zs (then_passed (judged_displacement z p) (displaced (p + 1) zs) e).1 x (omega arith)
