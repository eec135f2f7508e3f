-- Rows and report that are filled job by job.
--   Filled ws hs js old i t cs held    after i of the jobs js on a store of weights ws and heights hs, t and cs are the totals and the cells so far, and held is
--                                     what the row buffer holds that held old
-- Assumes nothing.
use mathlib.Core.List.{List, [], map}
use mathlib.Core.Path.{◌≡◌, sym, ap, subst, ◌∙◌}
use Prim.Native.Nat.{ℕ, ◌+◌, ◌≤◌, ◌<◌}
use native.Mathlib.Omega.{arith}
use lib.ListN.{length, get_or, set, length-map, replicate}
use Rattle.whole.specs.Cells.{laid}
use Rattle.whole.proofs.Cells.{Filling, filling_none, filling_more, filling_all, cells_of_list}
use Rattle.limits.specs.Outcome.{Outcome}
use Rattle.district_call.specs.declared.report.Totals.{Totals}
use Rattle.district_call.specs.declared.weighed.Weighed.{Weighed}
use Rattle.district_call.specs.District.{answers_to}
use Rattle.district_call.specs.Entered.{entered}
use Rattle.district_call.specs.Report.{cells_most, with_answer, counted_in, report_of}
use Rattle.district_call.specs.Row.{answer_to, row_of}
use Rattle.district_call.specs.Tally.{Sorted, Small, LowCells}
use Rattle.district_call.proofs.AllSorted.{all_sorted}
use Rattle.district_call.proofs.Rows.{row_sorted, map_at}
use Rattle.district_call.proofs.Tallied.{nothing, Tallied, zero_totals, tallied_none, tallied_more, tallied_all, tallied_small, tallied_low}

module _ (ws hs : List ℕ) (js : List (List ℕ)) where
  -- the answer to a job, and to all
  abbrev answer : List ℕ → Outcome Weighed
  answer j = answer_to ws hs (entered j)

  abbrev os : List (Outcome Weighed)
  os = answers_to js ws hs

  many : length os ≡ length js
  many = length-map js answer

  pub record Filled (old : List (List ℕ)) (i : ℕ) (t : Totals) (cs : List ℕ) (held : List (List ℕ)) : Type 0 where
    pub tally : Tallied os i t cs
    pub rows : Filling (λ k. get_or (map row_of os) k []) old i held

  pub filled_none : (old : List (List ℕ)) (t : Totals)
      → (t.accepted ≡ 0) × ((t.refused ≡ 0) × ((t.sum ≡ 0) × ((t.v ≡ 0) × ((t.vm ≡ 0) × (t.star ≡ 0)))))
      → Filled old 0 t (replicate cells_most 0) old
  filled_none old t z =
      record {
        tally = subst (λ (t : Totals). Tallied os 0 t (replicate cells_most 0)) (sym (zero_totals t z)) (tallied_none os);
        rows = filling_none _ old;
      }

  -- an accepted job has a cell
  pub here_sorted : {o : Outcome Weighed} (i : ℕ) → o ≡ answer (get_or js i []) → Sorted o
  here_sorted i e = subst (λ (o : Outcome Weighed). Sorted o) (sym e) (row_sorted ws hs (entered (get_or js i [])))

  module _ {old : List (List ℕ)} {i : ℕ} {t : Totals} {cs : List ℕ} {held : List (List ℕ)} (r : Filled old i t cs held) where
    -- no counter wraps
    pub filled_small : length js ≤ 256 → Small t
    filled_small few = tallied_small os i t cs (omega (arith, many)) r.tally (all_sorted answer (λ j. row_sorted ws hs (entered j)) js)

    pub filled_low : length js ≤ 256 → LowCells cs
    filled_low few = tallied_low os i t cs (omega (arith, many)) r.tally

    pub filled_more : (o : Outcome Weighed) (row : List ℕ) → i < length js → length js ≤ length old → o ≡ answer (get_or js i []) → row ≡ row_of o
        → Filled old (i + 1) (with_answer t o) (counted_in o cs) (set held i row)
    filled_more o row h room e w =
        let here : o ≡ get_or os i nothing = e ∙ sym (map_at answer [] nothing js i h) in
        record {
          tally = tallied_more os i t cs (omega (arith, many)) r.tally o here (here_sorted i e);
          rows = filling_more row r.rows (omega arith) (w ∙ ap row_of here ∙ sym (map_at row_of nothing [] os i (omega (arith, many))));
        }

    pub filled_all : length js ≤ i → i ≤ length js → (record { totals = t; cells = cs } ≡ report_of os) × (held ≡ laid (map row_of os) old)
    filled_all h k =
        let m : length (map row_of os) ≡ length os = length-map os row_of in (
          tallied_all os i t cs (omega (arith, many)) r.tally,
          filling_all (length (map row_of os)) r.rows (omega (arith, many, m)) ∙ ap (λ (l : List (List ℕ)). laid l old) (sym (cells_of_list [] (map row_of os))),
        )
