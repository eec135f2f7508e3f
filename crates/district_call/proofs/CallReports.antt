-- The report of a call that was taken: cells add up to the accepted jobs, accepted and refused to the jobs, the three governing counts to the accepted; the sum fits;
-- of no job at all it is zeros. And every accepted job has a cell, and is governed by a shear that is V_D.
-- Assumes nothing.
use mathlib.Core.Path.{◌≡◌, refl, sym, ap, subst, ◌∙◌}
use mathlib.Core.Bool.{Bool, true, false, ◌&&◌, not}
use mathlib.Core.List.{List, [], map}
use Prim.Native.Nat.{ℕ, ◌+◌, ◌≤◌, ◌<◌, max}
use native.Mathlib.Omega.{arith}
use lib.Dec.{eqb}
use lib.ListN.{length, length-map}
use borrow.Author.Tests.{eqb-true, eqb-false}
use Rattle.whole.specs.Cells.{sum}
use Rattle.limits.specs.Outcome.{Outcome, accepted, zeros}
use Rattle.limits.proofs.Passed.{differ}
use Rattle.base_shear.specs.declared.Figures.{Figures}
use Rattle.base_shear.specs.Shears.{base, figures_at}
use Rattle.district_call.specs.declared.report.Report.{Report}
use Rattle.district_call.specs.declared.weighed.Weighed.{Weighed}
use Rattle.district_call.specs.Entered.{Entered, entered}
use Rattle.district_call.specs.Report.{by_v, by_vm, by_star, cell_of, cells_most, report_of}
use Rattle.district_call.specs.Row.{answer_to}
use Rattle.district_call.specs.Tally.{Sorted}
use Rattle.district_call.proofs.AllSorted.{AllSorted, all_sorted}
use Rattle.district_call.proofs.Answered.{TakenCall}
use Rattle.district_call.proofs.CellOf.{cell_low}
use Rattle.district_call.proofs.JobRows.{accepted_row}
use Rattle.district_call.proofs.Reports.{cells_add_up, all_answered, governed_add_up, sum_fits, none_reported}
use Rattle.district_call.proofs.Rows.{row_sorted}

-- ---- of the whole call
pub record Reported (js : List (List ℕ)) (r : Report) : Type 0 where
  pub cells_accepted : sum r.cells ≡ r.totals.accepted
  pub all_jobs : r.totals.accepted + r.totals.refused ≡ length js
  pub governed : r.totals.v + r.totals.vm + r.totals.star ≡ r.totals.accepted
  pub sum_most : r.totals.sum ≤ 288_000_000_000
  pub of_none : js ≡ []
      → r ≡ record { totals = record { accepted = 0; refused = 0; sum = 0; v = 0; vm = 0; star = 0 }; cells = zeros 113 }

-- of any list that is answered element by element, each accepted answer with a cell
pub reported_of : (f : List ℕ → Outcome Weighed) → ((j : List ℕ) → Sorted (f j)) → (js : List (List ℕ)) → length js ≤ 256
    → Reported js (report_of (map f js))
reported_of f sorted js few =
    let n : length (map f js) ≡ length js = length-map js f in
    let s : AllSorted (map f js) = all_sorted f sorted js in
    record {
      cells_accepted = cells_add_up (map f js) s;
      all_jobs = all_answered (map f js) ∙ n;
      governed = governed_add_up (map f js);
      sum_most = sum_fits (map f js) s (omega (arith, n, few));
      of_none = λ e. ap (λ (l : List (List ℕ)). report_of (map f l)) e ∙ none_reported;
    }

pub call_reported : (js : List (List ℕ)) (ws hs : List ℕ) (old : List (List ℕ)) (r : Report) (held : List (List ℕ))
    → TakenCall js ws hs old r held → Reported js r
call_reported js ws hs old r held t =
    subst (Reported js) (sym t.report)
    (reported_of (λ j. answer_to ws hs (entered j)) (λ j. row_sorted ws hs (entered j)) js t.few)

-- ---- of each accepted job
module _ (ws hs : List ℕ) (e : Entered) (w : Weighed) (q : answer_to ws hs e ≡ accepted w) where
  pub has_cell : cell_of w < cells_most
  has_cell = cell_low w (subst (λ (o : Outcome Weighed). Sorted o) q (row_sorted ws hs e))

  abbrev n : Figures
  n = w.figures

  -- V_D is the largest of the three
  largest : n.vd ≡ max (max n.v n.vm) n.star
  unfolding figures_at base
  largest = subst (λ (m : Figures). m.vd ≡ max (max m.v m.vm) m.star) (sym (accepted_row ws hs e w q).figures) refl

  -- so the shear that is said to govern is V_D; where it is V*, both others are less
  pub governing : (by_v n ≡ true → n.v ≡ n.vd) × (by_vm n ≡ true → (n.vm ≡ n.vd) × (n.v < n.vd))
      × (by_star n ≡ true → (n.star ≡ n.vd) × (n.v < n.vd) × (n.vm < n.vd))
  unfolding by_v by_vm by_star
  governing = (λ h. eqb-true _ _ h, vm (eqb n.v n.vd) (eqb n.vm n.vd) refl refl, star (eqb n.v n.vd) (eqb n.vm n.vd) refl refl)
    where
      vm : (a b : Bool) → eqb n.v n.vd ≡ a → eqb n.vm n.vd ≡ b → (not a && b) ≡ true → (n.vm ≡ n.vd) × (n.v < n.vd)
      vm false true ea eb h = let apart = eqb-false n.v n.vd ea in (eqb-true _ _ eb, omega (arith, largest, apart))
      vm false false ea eb h = absurd (differ (sym h))
      vm true b ea eb h = absurd (differ (sym h))

      star : (a b : Bool) → eqb n.v n.vd ≡ a → eqb n.vm n.vd ≡ b → (not a && not b) ≡ true
          → (n.star ≡ n.vd) × (n.v < n.vd) × (n.vm < n.vd)
      star false false ea eb h =
          let p = eqb-false n.v n.vd ea in
          let r = eqb-false n.vm n.vd eb in
          (omega (arith, largest, p, r), omega (arith, largest, p), omega (arith, largest, r))
      star false true ea eb h = absurd (differ (sym h))
      star true b ea eb h = absurd (differ (sym h))
