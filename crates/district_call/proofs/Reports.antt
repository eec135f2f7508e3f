-- What every report is, of any answers os: 'each cell equals the count of rows that belong there'; accepted and refused add up to all; the three governing counts
-- add up to the accepted. Where each accepted answer has a cell (`AllSorted`), 'Cells add up to the accepted jobs', and the sum fits. Reports add up. Of no answer at all
-- it is zeros.
-- Assumes nothing.
use mathlib.Core.Path.{◌≡◌, refl, sym, ap, ◌∙◌}
use mathlib.Core.Bool.{Bool, true, false, ◌&&◌, not}
use mathlib.Core.List.{List, [], ◌∷◌, ◌++◌, map}
use Prim.Native.Nat.{ℕ, zero, suc, ◌+◌, ◌≤◌, ◌<◌}
use native.Mathlib.Nat.{mul-le-mul_right}
use native.Mathlib.Numerals.{add-one}
use native.Mathlib.Omega.{arith}
use lib.Dec.{eqb}
use lib.ListN.{length, get_or}
use borrow.Author.Tests.{eqb-true, eqb-false, ne_eqb}
use Rattle.whole.specs.Cells.{cells, sum}
use Rattle.whole.proofs.Cells.{cells_at, cells_length, sum_cells_more}
use Rattle.limits.specs.Outcome.{Outcome, accepted, refused, zeros}
use Rattle.district_call.specs.declared.report.Report.{Report}
use Rattle.district_call.specs.declared.weighed.Weighed.{Weighed}
use Rattle.district_call.specs.Report.{one_if, how_many, of_taken, taken, untaken, by_v, by_vm, by_star, vd_of, cell_of, cells_most, in_cell, totals_of, report_of}
use Rattle.district_call.specs.Tally.{Sorted}
use Rattle.district_call.proofs.CellOf.{cell_low}
use Rattle.district_call.proofs.Counting.{many_join, two_part, three_part}
use Rattle.district_call.proofs.AllSorted.{AllSorted, sum_low}

pub totals_are : (os : List (Outcome Weighed)) → (report_of os).totals ≡ totals_of os
unfolding report_of
totals_are os = refl

pub report_size : (os : List (Outcome Weighed)) → length (report_of os).cells ≡ cells_most
unfolding report_of
report_size os = cells_length (λ k. how_many (in_cell k) os) cells_most

pub cell_counts : (os : List (Outcome Weighed)) (k : ℕ) → k < cells_most → get_or (report_of os).cells k 0 ≡ how_many (in_cell k) os
unfolding report_of
cell_counts os k h = cells_at (λ k. how_many (in_cell k) os) cells_most k h

-- ---- a sum over cells: of zeros, of a sum, and of one cell that is hit
sum_more : (f : ℕ → ℕ) (n : ℕ) → sum (cells f (suc n)) ≡ sum (cells f n) + f n
sum_more f n = rw add-one at (sum_cells_more f n)

sum_none : (n : ℕ) → sum (cells (λ k. 0) n) ≡ 0
unfolding cells sum
sum_none zero = refl
sum_none (suc n) = omega (arith, sum_more (λ k. 0) n, sum_none n)

sum_both : (f g : ℕ → ℕ) (n : ℕ) → sum (cells (λ k. f k + g k) n) ≡ sum (cells f n) + sum (cells g n)
unfolding cells sum
sum_both f g zero = refl
sum_both f g (suc n) = omega (arith, sum_more (λ k. f k + g k) n, sum_more f n, sum_more g n, sum_both f g n)

missed : (c n : ℕ) → n ≤ c → sum (cells (λ k. one_if (eqb c k)) n) ≡ 0
unfolding cells sum
missed c zero h = refl
missed c (suc n) h =
    let other : one_if (eqb c n) ≡ 0 = ap one_if (ne_eqb c n (λ e. absurd (let z : ⊥ = omega arith in z))) in
    omega (arith, sum_more (λ k. one_if (eqb c k)) n, missed c n (omega arith), other)

hit : (c n : ℕ) → c < n → sum (cells (λ k. one_if (eqb c k)) n) ≡ 1
hit c zero h = absurd (let z : ⊥ = omega arith in z)
hit c (suc n) h = go (eqb c n) refl (λ l. hit c n l)
  where
    go : (t : Bool) → eqb c n ≡ t → (c < n → sum (cells (λ k. one_if (eqb c k)) n) ≡ 1) → sum (cells (λ k. one_if (eqb c k)) (suc n)) ≡ 1
    go true e rest =
        let here : c ≡ n = eqb-true c n e in
        omega (arith, sum_more (λ k. one_if (eqb c k)) n, missed c n (omega (arith, here)), ap one_if e)
    go false e rest =
        let apart = eqb-false c n e in
        let l : c < n = omega (arith, h, apart) in
        omega (arith, sum_more (λ k. one_if (eqb c k)) n, rest l, ap one_if e)

-- ---- cells add up to the accepted jobs
one_cell : (o : Outcome Weighed) → Sorted o → sum (cells (λ k. one_if (in_cell k o)) cells_most) ≡ one_if (taken o)
one_cell (accepted w) s = hit (cell_of w) cells_most (cell_low w s)
one_cell (refused n p) s = sum_none cells_most

all_cells : (os : List (Outcome Weighed)) → AllSorted os → sum (cells (λ k. how_many (in_cell k) os) cells_most) ≡ how_many taken os
unfolding how_many
all_cells [] s = sum_none cells_most
all_cells (o ∷ os) s =
    sum_both (λ k. one_if (in_cell k o)) (λ k. how_many (in_cell k) os) cells_most
    ∙ omega (arith, one_cell o s.0, all_cells os s.1)

pub cells_add_up : (os : List (Outcome Weighed)) → AllSorted os → sum (report_of os).cells ≡ (report_of os).totals.accepted
unfolding report_of
cells_add_up os s = all_cells os s

-- ---- accepted and refused, and which shear governed
pub all_answered : (os : List (Outcome Weighed)) → (report_of os).totals.accepted + (report_of os).totals.refused ≡ length os
unfolding report_of how_many
all_answered os = two_part (λ o. true) taken untaken os each ∙ all_of os
  where
    each : (o : Outcome Weighed) → one_if (taken o) + one_if (untaken o) ≡ 1
    each (accepted w) = refl
    each (refused n p) = refl

    all_of : (os : List (Outcome Weighed)) → how_many (λ o. true) os ≡ length os
    all_of [] = refl
    all_of (o ∷ os) = omega (arith, all_of os)

pub governed_add_up : (os : List (Outcome Weighed))
    → (report_of os).totals.v + (report_of os).totals.vm + (report_of os).totals.star ≡ (report_of os).totals.accepted
unfolding report_of by_v by_vm by_star
governed_add_up os =
    three_part taken (of_taken (λ w. by_v w.figures)) (of_taken (λ w. by_vm w.figures)) (of_taken (λ w. by_star w.figures)) os each
  where
    one_of : (a b : Bool) → one_if a + one_if (not a && b) + one_if (not a && not b) ≡ 1
    one_of true b = refl
    one_of false true = refl
    one_of false false = refl

    each : (o : Outcome Weighed)
        → one_if (of_taken (λ w. by_v w.figures) o) + one_if (of_taken (λ w. by_vm w.figures) o) + one_if (of_taken (λ w. by_star w.figures) o)
        ≡ one_if (taken o)
    each (accepted w) = one_of (eqb w.figures.v w.figures.vd) (eqb w.figures.vm w.figures.vd)
    each (refused n p) = refl

-- ---- the sum fits: 256 jobs of at most 1,125,000,000 N each
pub sum_fits : (os : List (Outcome Weighed)) → AllSorted os → length os ≤ 256 → (report_of os).totals.sum ≤ 288_000_000_000
unfolding report_of
sum_fits os s few = omega (arith, sum_low os s, mul-le-mul_right 1_125_000_000 few)

-- ---- reports add up number by number: that of two districts together is their sum
pub record AddUp (r s t : Report) : Type 0 where
  pub accepted : r.totals.accepted + s.totals.accepted ≡ t.totals.accepted
  pub refused : r.totals.refused + s.totals.refused ≡ t.totals.refused
  pub sum : r.totals.sum + s.totals.sum ≡ t.totals.sum
  pub v : r.totals.v + s.totals.v ≡ t.totals.v
  pub vm : r.totals.vm + s.totals.vm ≡ t.totals.vm
  pub star : r.totals.star + s.totals.star ≡ t.totals.star
  pub cells : (k : ℕ) → k < cells_most → get_or r.cells k 0 + get_or s.cells k 0 ≡ get_or t.cells k 0

sum_join : (os ps : List (Outcome Weighed)) → sum (map vd_of (os ++ ps)) ≡ sum (map vd_of os) + sum (map vd_of ps)
unfolding sum
sum_join [] ps = omega arith
sum_join (o ∷ os) ps = omega (arith, sum_join os ps)

pub reports_add : (os ps : List (Outcome Weighed)) → AddUp (report_of os) (report_of ps) (report_of (os ++ ps))
unfolding report_of
reports_add os ps =
    record {
      accepted = sym (many_join taken os ps);
      refused = sym (many_join untaken os ps);
      sum = sym (sum_join os ps);
      v = sym (many_join (of_taken (λ w. by_v w.figures)) os ps);
      vm = sym (many_join (of_taken (λ w. by_vm w.figures)) os ps);
      star = sym (many_join (of_taken (λ w. by_star w.figures)) os ps);
      cells = λ k h. omega (arith, cell_counts os k h, cell_counts ps k h, cell_counts (os ++ ps) k h, many_join (in_cell k) os ps);
    }

-- ---- 'No job at all gives a report of zeros'
pub none_reported : report_of [] ≡ record { totals = record { accepted = 0; refused = 0; sum = 0; v = 0; vm = 0; star = 0 }; cells = zeros 113 }
unfolding report_of how_many cells sum
none_reported = refl
