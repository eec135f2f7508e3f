-- Levels that are accepted are allowed, and their top height is.
-- Assumes nothing.
use mathlib.Core.Path.{◌≡◌, refl, ap, ◌∙◌}
use mathlib.Core.List.{List, [], ◌∷◌}
use Prim.Native.Nat.{ℕ, zero, suc, ◌+◌, ◌-◌, ◌≤◌, ◌<◌}
use native.Mathlib.Numerals.{add-one}
use native.Mathlib.Omega.{arith}
use lib.Dec.{leb, ltb, eqb}
use lib.ListN.{length, get_or}
use borrow.Author.Tests.{leb-true, ltb-true, eqb-true}
use Rattle.whole.specs.Cells.{below}
use Rattle.limits.specs.Allowed.{AllowedLevels}
use Rattle.limits.specs.Lengths.{same_length, roomy}
use Rattle.limits.specs.Levels.{counted, judged_weight, weighed, judged_height, raised, judged_levels, top_height}
use Rattle.limits.specs.Outcome.{accepted}
use Rattle.limits.specs.Ranges.{within}
use Rattle.limits.proofs.Passed.{then_passed, require_passed, within_passed}

weights_allowed : (p : ℕ) (ws : List ℕ) → weighed p ws ≡ accepted tt → (x : ℕ) → x < length ws
    → (1 ≤ get_or ws x 0) × (get_or ws x 0 ≤ 20_000)
unfolding weighed
weights_allowed p [] e x h = absurd (omega arith)
weights_allowed p (w ∷ ws) e zero h = within_passed 1 20_000 w 3 p (then_passed (judged_weight w p) (weighed (p + 1) ws) e).0
weights_allowed p (w ∷ ws) e (suc x) h =
    weights_allowed (p + 1) ws (then_passed (judged_weight w p) (weighed (p + 1) ws) e).1 x (omega arith)

pub heights_allowed : (b p : ℕ) (hs : List ℕ) → raised b p hs ≡ accepted tt → (x : ℕ) → x < length hs
    → (1 ≤ get_or hs x 0) × (get_or hs x 0 ≤ 2_000) × (below b hs x < get_or hs x 0)
unfolding raised
heights_allowed b p [] e x h = absurd (omega arith)
heights_allowed b p (a ∷ hs) e zero h =
    let j = then_passed (within 1 2_000 a 4 p) _ (then_passed (judged_height b a p) (raised a (p + 1) hs) e).0 in
    let r = within_passed 1 2_000 a 4 p j.0 in
    (r.0, r.1, ltb-true b a (require_passed (ltb b a) 4 p j.1))
heights_allowed b p (a ∷ hs) e (suc x) h =
    heights_allowed a (p + 1) hs (then_passed (judged_height b a p) (raised a (p + 1) hs) e).1 x (omega arith)

pub levels_allowed : (ws hs : List ℕ) (room : ℕ) → judged_levels ws hs room ≡ accepted tt → AllowedLevels ws hs × (length ws ≤ room)
unfolding judged_levels
levels_allowed ws hs room e =
    let count = then_passed (counted (length ws)) _ e in
    let lengths = then_passed (same_length (length ws) (length hs)) _ count.1 in
    let cells = then_passed (roomy (length ws) room) _ lengths.1 in
    let weights = then_passed (weighed 1 ws) (raised 0 1 hs) cells.1 in
    let n = within_passed 1 50 (length ws) 1 0 count.0 in
    let up = heights_allowed 0 1 hs weights.1 in (
      record {
        same = eqb-true (length hs) (length ws) (require_passed (eqb (length hs) (length ws)) 2 0 lengths.0);
        some = n.0;
        few = n.1;
        weights = weights_allowed 1 ws weights.0;
        heights = λ x h. ((up x h).0, (up x h).1);
        rising = λ x h. rw (add-one x) (up (suc x) (omega arith)).2;
      },
      leb-true (length ws) room (require_passed (leb (length ws) room) 2 0 cells.0),
    )

-- h, the top height, is the last of the heights
pub top_last : (hs : List ℕ) → 0 < length hs → top_height hs ≡ get_or hs (length hs - 1) 0
top_last [] h = absurd (omega arith)
top_last (a ∷ []) h = refl
top_last (a ∷ (b ∷ hs)) h =
    top_last (b ∷ hs) (omega arith)
    ∙ ap (λ (n : ℕ). get_or (a ∷ (b ∷ hs)) n 0) (let e : suc (length (b ∷ hs) - 1) ≡ length (a ∷ (b ∷ hs)) - 1 = omega arith in e)

pub top_allowed : (ws hs : List ℕ) → AllowedLevels ws hs → (1 ≤ top_height hs) × (top_height hs ≤ 2_000)
top_allowed ws hs l =
    let n : 0 < length hs = omega (arith, l.same, l.some) in
    let t = l.heights (length hs - 1) (omega arith) in
    omega (arith, top_last hs n, t)
