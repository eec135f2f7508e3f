-- A table of velocities: where each entry fits and the next whole number does not, the table is that of the rule, and it gives what
-- the rule gives; over any rule of the form 'the largest whole v with f v ≤ n x', and any range of x.
--   each_largest f n x vs    each entry v of vs fits, and v + 1 does not: the first for x, the next for x + 1, and so on. A test that the
--                           checker computes over all entries at once
-- Assumes nothing.
use mathlib.Core.Path.{◌≡◌, refl, sym, ap, subst, ◌∙◌}
use mathlib.Core.Bool.{Bool, true, ◌&&◌}
use mathlib.Core.List.{List, [], ◌∷◌}
use Prim.Native.Nat.{ℕ, zero, suc, ◌+◌, ◌-◌, ◌≤◌, ◌<◌}
use native.Mathlib.Nat.{add-zero}
use native.Mathlib.Omega.{arith}
use lib.Dec.{T, leb, leb→le, ltb, ltb→lt}
use lib.ListN.{length, get_or}
use mir.Facts.{and_yes}
use Rattle.whole.specs.Extreme.{Largest}
use Rattle.whole.proofs.Cells.{cells_at, cells_length, cells_by_place}
use Rattle.whole.proofs.Extreme.{Rises, largest_at, largest_unique}
use Rattle.limits.specs.Outcome.{Outcome, Done, accepted, refused, ◌>>◌}
use Rattle.limits.specs.Ranges.{within}
use Rattle.limits.proofs.Passed.{within_passed}
use Rattle.soil.specs.Velocity.{by_rule, TableOf, from_table}

unfoldable pub each_largest : (ℕ → ℕ) → (ℕ → ℕ) → ℕ → List ℕ → Bool
each_largest f n x [] = true
each_largest f n x (v ∷ vs) = (leb (f v) (n x) && ltb (n x) (f (v + 1))) && each_largest f n (x + 1) vs

module _ (f : ℕ → ℕ) (rises : Rises f) (n : ℕ → ℕ) where
  entry_largest : (x : ℕ) (vs : List ℕ) → T (each_largest f n x vs) → (k : ℕ) → k < length vs
      → Largest (λ (j : ℕ). f j ≤ n (x + k)) (get_or vs k 0)
  unfolding each_largest
  entry_largest x [] t k h = absurd (omega arith)
  entry_largest x (v ∷ vs) t zero h =
      let a = (and_yes (leb (f v) (n x) && ltb (n x) (f (v + 1))) (each_largest f n (x + 1) vs) t).0 in
      let b = and_yes (leb (f v) (n x)) (ltb (n x) (f (v + 1))) a in
      subst (λ (y : ℕ). Largest (λ (j : ℕ). f j ≤ n y) v) (sym (add-zero x))
      (largest_at f rises (n x) v (leb→le _ _ b.0) (ltb→lt _ _ b.1))
  entry_largest x (v ∷ vs) t (suc k) h =
      let a = (and_yes (leb (f v) (n x) && ltb (n x) (f (v + 1))) (each_largest f n (x + 1) vs) t).1 in
      let e : x + 1 + k ≡ x + suc k = omega arith in
      subst (λ (y : ℕ). Largest (λ (j : ℕ). f j ≤ n y) (get_or vs k 0)) e (entry_largest (x + 1) vs a k (omega arith))

  pub table_of : (rule : ℕ → ℕ) (least most : ℕ) (vs : List ℕ)
      → ((x : ℕ) → least ≤ x → x ≤ most → Largest (λ (j : ℕ). f j ≤ n x) (rule x))
      → length vs ≡ most + 1 - least → T (each_largest f n least vs) → TableOf rule least most vs
  table_of rule least most vs is size t =
      cells_by_place (λ k. rule (least + k)) vs (most + 1 - least) size
      (λ k h. largest_unique (entry_largest least vs t k (omega arith)) (is (least + k) (omega arith) (omega arith)))

pub table_length : (rule : ℕ → ℕ) (least most : ℕ) (vs : List ℕ) → TableOf rule least most vs → length vs ≡ most + 1 - least
table_length rule least most vs t = ap length t ∙ cells_length _ _

pub by_table : (rule : ℕ → ℕ) (least most : ℕ) (vs : List ℕ) (x p : ℕ) → TableOf rule least most vs
    → from_table least most vs x p ≡ by_rule rule least most x p
unfolding from_table by_rule
by_table rule least most vs x p t = go (within least most x 15 p) refl
  where
    go : (o : Outcome Done) → within least most x 15 p ≡ o → (o >> accepted (get_or vs (x - least) 0)) ≡ (o >> accepted (rule x))
    go (refused n q) e = refl
    go (accepted u) e =
        let r = within_passed least most x 15 p e in
        let n : least + (x - least) ≡ x = omega arith in
        ap accepted (ap (λ (l : List ℕ). get_or l (x - least) 0) t ∙ cells_at _ _ (x - least) (omega arith) ∙ ap rule n)
