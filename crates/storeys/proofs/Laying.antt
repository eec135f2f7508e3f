-- The first n cells of a lent buffer that held old, written one by one as `held`: one more cell, and what is held once the i-th is the last.
-- Assumes nothing.
use mathlib.Core.Path.{◌≡◌, sym, ap₂, ◌∙◌}
use mathlib.Core.List.{List, ◌++◌}
use Prim.Native.Nat.{ℕ, ◌+◌, ◌≤◌, ◌<◌}
use native.Mathlib.Omega.{arith}
use lib.ListN.{length, get_or, set, take, drop, length-take}
use lib.Seq.{get_or-set_same, get_or-set_other}
use borrow.Author.Count.{below_more}
use Rattle.whole.specs.Cells.{cells, laid}
use Rattle.whole.proofs.Cells.{cells_by_place, cells_length}

pub written_more : (f : ℕ → ℕ) (held : List ℕ) (i a : ℕ) → i < length held → a ≡ f i → ((k : ℕ) → k < i → get_or held k 0 ≡ f k)
    → (k : ℕ) → k < i + 1 → get_or (set held i a) k 0 ≡ f k
written_more f held i a l e d =
    below_more _ i (λ k h. get_or-set_other held i k a 0 (λ q. absurd (let b : ⊥ = omega (arith, q) in b)) ∙ d k h)
    (get_or-set_same held i a 0 l ∙ e)

pub laid_by_place : (f : ℕ → ℕ) (held old : List ℕ) (n i : ℕ) → n ≤ length old → length held ≡ length (take n old)
    → length (take n old) ≤ i → ((k : ℕ) → k < i → get_or held k 0 ≡ f k) → held ++ drop n old ≡ laid (cells f n) old
laid_by_place f held old n i room e last d =
    let whole : length (take n old) ≡ n = simp length-take (omega arith) in
    ap₂ (λ (p : List ℕ) (k : ℕ). p ++ drop k old) (cells_by_place f held n (e ∙ whole) (λ k h. d k (omega arith))) (sym (cells_length f n))
