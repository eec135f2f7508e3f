-- Totals and cells that are counted answer by answer: after i answers what they hold, with what is still to come, is what the report says of all.
--   Tallied os i t cs   t and cs are the totals and the cells after i of os
-- Assumes nothing.
use mathlib.Core.Path.{◌≡◌, refl, sym, ◌∙◌}
use mathlib.Core.Bool.{Bool, true, false}
use mathlib.Core.List.{List, [], map}
use Prim.Native.Nat.{ℕ, zero, suc, ◌+◌, ◌≤◌, ◌<◌}
use native.Mathlib.Nat.{mul-le-mul_right}
use native.Mathlib.Numerals.{add-one}
use native.Mathlib.Omega.{arith}
use lib.Dec.{eqb}
use lib.ListN.{length, get_or, set, drop, replicate, length-set, length-replicate, drop_of_length-le}
use lib.Seq.{drop-cons, get_or-set_same, get_or-set_other}
use borrow.Author.Tests.{eqb-true, eqb-false}
use Rattle.whole.specs.Cells.{cells, sum}
use Rattle.whole.proofs.Cells.{cells_by_place}
use Rattle.limits.specs.Outcome.{Outcome, accepted, refused}
use Rattle.district_call.specs.declared.report.Totals.{Totals}
use Rattle.district_call.specs.declared.weighed.Weighed.{Weighed}
use Rattle.district_call.specs.Report.{one_if, how_many, of_taken, taken, untaken, by_v, by_vm, by_star, vd_of, cell_of, cells_most, in_cell, totals_of, report_of, with_answer, counted_in}
use Rattle.district_call.specs.Tally.{Sorted, Small, LowCells}
use Rattle.district_call.proofs.AllSorted.{AllSorted, sum_low}
use Rattle.district_call.proofs.CellOf.{cell_low}
use Rattle.district_call.proofs.Counting.{many_step, many_end, many_most}

-- what stands where no answer does
abbrev pub nothing : Outcome Weighed
nothing = refused 0 0

pub record Tallied (os : List (Outcome Weighed)) (i : ℕ) (t : Totals) (cs : List ℕ) : Type 0 where
  pub accepted : t.accepted + how_many taken (drop i os) ≡ how_many taken os
  pub refused : t.refused + how_many untaken (drop i os) ≡ how_many untaken os
  pub sum : t.sum + sum (map vd_of (drop i os)) ≡ sum (map vd_of os)
  pub v : t.v + how_many (of_taken (λ w. by_v w.figures)) (drop i os) ≡ how_many (of_taken (λ w. by_v w.figures)) os
  pub vm : t.vm + how_many (of_taken (λ w. by_vm w.figures)) (drop i os) ≡ how_many (of_taken (λ w. by_vm w.figures)) os
  pub star : t.star + how_many (of_taken (λ w. by_star w.figures)) (drop i os) ≡ how_many (of_taken (λ w. by_star w.figures)) os
  pub cells : (k : ℕ) → get_or cs k 0 + how_many (in_cell k) (drop i os) ≡ how_many (in_cell k) os
  pub size : length cs ≡ cells_most

zeros_at : (n k : ℕ) → ◌≡◌ {A = ℕ} (get_or (replicate n 0) k 0) 0
zeros_at zero k = refl
zeros_at (suc n) zero = refl
zeros_at (suc n) (suc k) = zeros_at n k

-- totals of zeros, as their default is, are those of no answer
pub zero_totals : (t : Totals)
    → (t.accepted ≡ 0) × ((t.refused ≡ 0) × ((t.sum ≡ 0) × ((t.v ≡ 0) × ((t.vm ≡ 0) × (t.star ≡ 0))))) → t ≡ (report_of []).totals
unfolding report_of how_many sum
zero_totals t z =
    λ i. record { accepted = z.0 i; refused = z.1.0 i; sum = z.1.1.0 i; v = z.1.1.1.0 i; vm = z.1.1.1.1.0 i; star = z.1.1.1.1.1 i }

pub tallied_none : (os : List (Outcome Weighed)) → Tallied os 0 (report_of []).totals (replicate cells_most 0)
unfolding report_of how_many sum
tallied_none os =
    record {
      accepted = omega arith;
      refused = omega arith;
      sum = omega arith;
      v = omega arith;
      vm = omega arith;
      star = omega arith;
      cells = λ k. omega (arith, zeros_at cells_most k);
      size = length-replicate {A = ℕ} cells_most 0;
    }

-- ---- one answer more
sum_step : (os : List (Outcome Weighed)) (i : ℕ) → i < length os
    → sum (map vd_of (drop i os)) ≡ vd_of (get_or os i nothing) + sum (map vd_of (drop (i + 1) os))
unfolding sum
sum_step os i h = rw (add-one i, drop-cons os i nothing h)

-- what each cell holds with one answer more
counted_at : (o : Outcome Weighed) (cs : List ℕ) → Sorted o → length cs ≡ cells_most → (k : ℕ)
    → get_or (counted_in o cs) k 0 ≡ one_if (in_cell k o) + get_or cs k 0
unfolding counted_in
counted_at (refused n p) cs s size k = omega arith
counted_at (accepted w) cs s size k = go (eqb (cell_of w) k) refl
  where
    go : (t : Bool) → eqb (cell_of w) k ≡ t → get_or (set cs (cell_of w) (get_or cs (cell_of w) 0 + 1)) k 0 ≡ one_if t + get_or cs k 0
    go true e =
        let q : cell_of w ≡ k = eqb-true _ _ e in
        let low = cell_low w s in
        rw q (get_or-set_same cs k (get_or cs k 0 + 1) 0 (omega (arith, size, low, q)) ∙ omega arith)
    go false e = get_or-set_other cs (cell_of w) k _ 0 (λ q. eqb-false _ _ e (sym q)) ∙ omega arith

counted_size : (o : Outcome Weighed) (cs : List ℕ) → length (counted_in o cs) ≡ length cs
unfolding counted_in
counted_size (refused n p) cs = refl
counted_size (accepted w) cs = length-set cs (cell_of w) _

-- what each total is with one answer more
record Answered (t : Totals) (o : Outcome Weighed) (t' : Totals) : Type 0 where
  accepted : t'.accepted ≡ one_if (taken o) + t.accepted
  refused : t'.refused ≡ one_if (untaken o) + t.refused
  sum : t'.sum ≡ vd_of o + t.sum
  v : t'.v ≡ one_if (of_taken (λ w. by_v w.figures) o) + t.v
  vm : t'.vm ≡ one_if (of_taken (λ w. by_vm w.figures) o) + t.vm
  star : t'.star ≡ one_if (of_taken (λ w. by_star w.figures) o) + t.star

answered : (t : Totals) (o : Outcome Weighed) → Answered t o (with_answer t o)
unfolding with_answer
answered t (accepted w) =
    record { accepted = omega arith; refused = omega arith; sum = omega arith; v = omega arith; vm = omega arith; star = omega arith }
answered t (refused n p) =
    record { accepted = omega arith; refused = omega arith; sum = omega arith; v = omega arith; vm = omega arith; star = omega arith }

module _ (os : List (Outcome Weighed)) (i : ℕ) (t : Totals) (cs : List ℕ) (h : i < length os) (r : Tallied os i t cs) where
  pub tallied_more : (o : Outcome Weighed) → o ≡ get_or os i nothing → Sorted o → Tallied os (i + 1) (with_answer t o) (counted_in o cs)
  tallied_more o e s =
      let a = answered t o in
      record {
        accepted = omega (arith, r.accepted, a.accepted, step taken);
        refused = omega (arith, r.refused, a.refused, step untaken);
        sum = omega (arith, r.sum, a.sum, rw (← e) at (sum_step os i h));
        v = omega (arith, r.v, a.v, step (of_taken (λ w. by_v w.figures)));
        vm = omega (arith, r.vm, a.vm, step (of_taken (λ w. by_vm w.figures)));
        star = omega (arith, r.star, a.star, step (of_taken (λ w. by_star w.figures)));
        cells = λ k. omega (arith, r.cells k, counted_at o cs s r.size k, step (in_cell k));
        size = counted_size o cs ∙ r.size;
      }
    where
      step : (p : Outcome Weighed → Bool) → how_many p (drop i os) ≡ one_if (p o) + how_many p (drop (i + 1) os)
      step p = rw (← e) at (many_step nothing p os i h)

-- ---- all of them
pub tallied_all : (os : List (Outcome Weighed)) (i : ℕ) (t : Totals) (cs : List ℕ) → length os ≤ i → Tallied os i t cs
    → record { totals = t; cells = cs } ≡ report_of os
unfolding report_of sum
tallied_all os i t cs h r =
    let totals : t ≡ totals_of os
    = λ j. record {
      accepted = whole taken t.accepted r.accepted j;
      refused = whole untaken t.refused r.refused j;
      sum = summed j;
      v = whole (of_taken (λ w. by_v w.figures)) t.v r.v j;
      vm = whole (of_taken (λ w. by_vm w.figures)) t.vm r.vm j;
      star = whole (of_taken (λ w. by_star w.figures)) t.star r.star j;
    } in
    let kept : cs ≡ cells (λ k. how_many (in_cell k) os) cells_most
    = cells_by_place (λ k. how_many (in_cell k) os) cs cells_most r.size (λ k l. whole (in_cell k) (get_or cs k 0) (r.cells k)) in
    λ j. record { totals = totals j; cells = kept j }
  where
    whole : (p : Outcome Weighed → Bool) (n : ℕ) → n + how_many p (drop i os) ≡ how_many p os → n ≡ how_many p os
    whole p n e = omega (arith, e, many_end p os i h)

    none_left : sum (map vd_of (drop i os)) ≡ 0
    none_left = rw (drop_of_length-le os h)

    summed : t.sum ≡ sum (map vd_of os)
    summed = omega (arith, r.sum, none_left)

-- ---- no counter wraps
module _ (os : List (Outcome Weighed)) (i : ℕ) (t : Totals) (cs : List ℕ) (few : length os ≤ 256) (r : Tallied os i t cs) where
  pub tallied_small : AllSorted os → Small t
  tallied_small s =
      record {
        accepted = omega (arith, r.accepted, many_most taken os);
        refused = omega (arith, r.refused, many_most untaken os);
        sum = omega (arith, r.sum, sum_low os s, mul-le-mul_right 1_125_000_000 few);
        v = omega (arith, r.v, many_most (of_taken (λ w. by_v w.figures)) os);
        vm = omega (arith, r.vm, many_most (of_taken (λ w. by_vm w.figures)) os);
        star = omega (arith, r.star, many_most (of_taken (λ w. by_star w.figures)) os);
      }

  pub tallied_low : LowCells cs
  tallied_low = record { low = λ k. omega (arith, r.cells k, many_most (in_cell k) os) }
