-- The report by the rows themselves: how many of them are of accepted jobs, the sum of their V_D, which shear governed in how many, and how many belong to
-- each cell.
--   belongs k r W     whether a row r of a job of W kN is of an accepted job and belongs to cell k
-- Assumes nothing.
use mathlib.Core.Path.{◌≡◌, refl, sym, ap, ◌∙◌}
use mathlib.Core.Bool.{Bool, ◌&&◌}
use mathlib.Core.List.{List, [], map}
use Prim.Native.Nat.{ℕ, ◌<◌}
use native.Mathlib.Omega.{arith}
use lib.Dec.{eqb}
use lib.ListN.{length, get_or, take}
use borrow.Author.Tests.{ne_eqb}
use Rattle.whole.specs.Cells.{sum}
use Rattle.whole.specs.Rounding.{down}
use Rattle.limits.specs.District.{stretch}
use Rattle.limits.specs.Outcome.{Outcome, accepted, refused}
use Rattle.limits.proofs.Numbers.{numbered_row}
use Rattle.base_shear.specs.declared.Figures.{Figures}
use Rattle.district_call.specs.declared.report.Report.{Report}
use Rattle.district_call.specs.declared.weighed.Weighed.{Weighed}
use Rattle.district_call.specs.District.{answers_to}
use Rattle.district_call.specs.Entered.{Entered, entered}
use Rattle.district_call.specs.Report.{how_many, of_taken, taken, by_v, by_vm, by_star, thousandths, cell_of, cells_most, in_cell, vd_of, report_of}
use Rattle.district_call.specs.Row.{answer_to, row_of, row_taken, figures_in}
use Rattle.district_call.proofs.Answered.{TakenCall, rows_are, row_at}
use Rattle.district_call.proofs.Counting.{many_map, sum_map, map_map, places_that, many_places}
use Rattle.district_call.proofs.JobRows.{row_first, accepted_row}
use Rattle.district_call.proofs.Reports.{cell_counts}

-- ---- a refusal has a number above 0
refused_some : (ws hs : List ℕ) (e : Entered) {n p : ℕ} → answer_to ws hs e ≡ refused n p → n ≡ 0 → ⊥
refused_some ws hs e {n} {p} r z = let h = numbered_row ((row_first ws hs e).refused_applies n p r) in omega (arith, z, h.0)

abbrev pub belongs : ℕ → List ℕ → ℕ → Bool
belongs k r W = row_taken r && eqb (down (down (figures_in r).vd W) 10) k

-- ---- what a row shows of its answer
module _ (ws hs : List ℕ) (e : Entered) where
  abbrev row : List ℕ
  row = row_of (answer_to ws hs e)

  shown : (t : Figures → Bool) → (row_taken row && t (figures_in row)) ≡ of_taken (λ w. t w.figures) (answer_to ws hs e)
  unfolding row_of
  shown t = go (answer_to ws hs e) refl
    where
      go : (o : Outcome Weighed) → answer_to ws hs e ≡ o → (row_taken (row_of o) && t (figures_in (row_of o))) ≡ of_taken (λ w. t w.figures) o
      go (accepted w) q = refl
      go (refused n p) q = rw (ne_eqb n 0 (refused_some ws hs e q))

  shown_taken : row_taken row ≡ taken (answer_to ws hs e)
  unfolding row_of
  shown_taken = go (answer_to ws hs e) refl
    where
      go : (o : Outcome Weighed) → answer_to ws hs e ≡ o → row_taken (row_of o) ≡ taken o
      go (accepted w) q = refl
      go (refused n p) q = ne_eqb n 0 (refused_some ws hs e q)

  shown_vd : (figures_in row).vd ≡ vd_of (answer_to ws hs e)
  unfolding row_of
  shown_vd = go (answer_to ws hs e)
    where
      go : (o : Outcome Weighed) → (figures_in (row_of o)).vd ≡ vd_of o
      go (accepted w) = refl
      go (refused n p) = refl

  in_cell_lem : (k : ℕ) → belongs k row (sum (stretch e.start e.count ws)) ≡ in_cell k (answer_to ws hs e)
  unfolding row_of cell_of thousandths
  in_cell_lem k = go (answer_to ws hs e) refl
    where
      go : (o : Outcome Weighed) → answer_to ws hs e ≡ o → belongs k (row_of o) (sum (stretch e.start e.count ws)) ≡ in_cell k o
      go (accepted w) q =
          ap (λ (W : ℕ). eqb (down (down w.figures.vd W) 10) k) (sym (accepted_row ws hs e w q).weight)
      go (refused n p) q = rw (ne_eqb n 0 (refused_some ws hs e q))

-- ---- the report of a call that was taken, by its rows
module _ (js : List (List ℕ)) (ws hs : List ℕ) (old : List (List ℕ)) (r : Report) (held : List (List ℕ)) (t : TakenCall js ws hs old r held) where
  abbrev rows : List (List ℕ)
  rows = take (length js) held

  abbrev answer : List ℕ → Outcome Weighed
  answer j = answer_to ws hs (entered j)

  -- W of the job at place i
  abbrev weight_at : ℕ → ℕ
  weight_at i = let e = entered (get_or js i []) in sum (stretch e.start e.count ws)

  made : rows ≡ map (λ j. row_of (answer j)) js
  made = rows_are js ws hs old r held t ∙ map_map row_of answer js

  by_rows : (p : List ℕ → Bool) (q : Outcome Weighed → Bool) → ((j : List ℕ) → p (row_of (answer j)) ≡ q (answer j))
      → how_many q (answers_to js ws hs) ≡ how_many p rows
  by_rows p q h =
      many_map answer q (λ j. q (answer j)) (λ j. refl) js
      ∙ sym (ap (how_many p) made ∙ many_map (λ j. row_of (answer j)) p (λ j. q (answer j)) h js)

  pub accepted_rows : r.totals.accepted ≡ how_many row_taken rows
  unfolding report_of
  accepted_rows = ap (λ (r : Report). r.totals.accepted) t.report ∙ by_rows row_taken taken (λ j. shown_taken ws hs (entered j))

  pub sum_rows : r.totals.sum ≡ sum (map (λ r. (figures_in r).vd) rows)
  unfolding report_of
  sum_rows =
      ap (λ (r : Report). r.totals.sum) t.report
      ∙ ap sum (map_map vd_of answer js)
      ∙ sum_map (λ j. vd_of (answer j)) (λ j. (figures_in (row_of (answer j))).vd) (λ j. sym (shown_vd ws hs (entered j))) js
      ∙ sym (ap sum (ap (map (λ r. (figures_in r).vd)) made ∙ map_map (λ r. (figures_in r).vd) (λ j. row_of (answer j)) js))

  pub governed_rows : (r.totals.v ≡ how_many (λ r. row_taken r && by_v (figures_in r)) rows)
      × (r.totals.vm ≡ how_many (λ r. row_taken r && by_vm (figures_in r)) rows)
      × (r.totals.star ≡ how_many (λ r. row_taken r && by_star (figures_in r)) rows)
  unfolding report_of
  governed_rows = (
    ap (λ (r : Report). r.totals.v) t.report ∙ governed by_v,
    ap (λ (r : Report). r.totals.vm) t.report ∙ governed by_vm,
    ap (λ (r : Report). r.totals.star) t.report ∙ governed by_star,
  )
    where
      governed : (f : Figures → Bool) → how_many (of_taken (λ w. f w.figures)) (answers_to js ws hs) ≡ how_many (λ r. row_taken r && f (figures_in r)) rows
      governed f = by_rows (λ r. row_taken r && f (figures_in r)) (of_taken (λ w. f w.figures)) (λ j. shown ws hs (entered j) f)

  -- 'each cell equals the count of rows that belong there': of the places below the number of jobs, each with its row and the weight of its job's stretch
  pub cell_rows : (k : ℕ) → k < cells_most
      → get_or r.cells k 0 ≡ places_that (λ i. belongs k (get_or held i []) (weight_at i)) (length js)
  cell_rows k h =
      ap (λ (r : Report). get_or r.cells k 0) t.report
      ∙ cell_counts (answers_to js ws hs) k h
      ∙ many_map answer (in_cell k) (λ j. in_cell k (answer j)) (λ j. refl) js
      ∙ many_places (λ j. in_cell k (answer j)) (λ i. belongs k (get_or held i []) (weight_at i)) [] js (λ i l. sym (there i l))
    where
      there : (i : ℕ) → i < length js → belongs k (get_or held i []) (weight_at i) ≡ in_cell k (answer (get_or js i []))
      there i l =
          ap (λ (r : List ℕ). belongs k r (weight_at i)) (row_at js ws hs old r held t i l) ∙ in_cell_lem ws hs (entered (get_or js i [])) k
