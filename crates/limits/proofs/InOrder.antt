-- Every number that is judged stands in the order, and no two of them at one place of it: 'first' tells all of them apart.
-- Assumes nothing.
use mathlib.Core.Path.{◌≡◌, refl, sym, ap, ◌∙◌}
use mathlib.Core.Bool.{Bool, true, false}
use mathlib.Core.List.{List, [], ◌∷◌}
use Prim.Native.Nat.{ℕ, suc, ◌≤◌, ◌<◌}
use native.Mathlib.Omega.{arith}
use lib.Dec.{eqb, ltb, ltb→lt}
use lib.ListN.{length, get_or}
use borrow.Author.Tests.{eqb-true}
use Rattle.whole.specs.Choice.{pick}
use Rattle.whole.proofs.Range.{all_below, all_from}
use Rattle.limits.specs.Order.{order, rank_in, rank, InOrder}

stands_at : (ms : List ℕ) (n : ℕ) → rank_in ms n < length ms → get_or ms (rank_in ms n) 0 ≡ n
stands_at [] n h = absurd (omega arith)
stands_at (m ∷ ms) n h = go (eqb m n) refl h (stands_at ms n)
  where
    go : (t : Bool) → eqb m n ≡ t → pick t 0 (suc (rank_in ms n)) < length (m ∷ ms)
        → (rank_in ms n < length ms → get_or ms (rank_in ms n) 0 ≡ n) → get_or (m ∷ ms) (pick t 0 (suc (rank_in ms n))) 0 ≡ n
    go true e l rest = eqb-true m n e
    go false e l rest = rest (omega arith)

pub one_rank : (n m : ℕ) → InOrder n → InOrder m → rank n ≡ rank m → n ≡ m
one_rank n m hn hm e = sym (stands_at order n hn) ∙ ap (λ (k : ℕ). get_or order k 0) e ∙ stands_at order m hm

ranked : ℕ → Bool
ranked n = ltb (rank n) (length order)

-- 1 to 26, the numbers of jobs, of the two calls, of logs, of sheets, of districts, of drift, torsion and moments
pub in_order : (n : ℕ) → (1 ≤ n) × (n ≤ 26) → InOrder n
unfolding ranked all_below
in_order n h = ltb→lt (rank n) (length order) (all_from ranked 1 26 tt n h.0 (omega arith))
