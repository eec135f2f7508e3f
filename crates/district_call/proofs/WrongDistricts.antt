-- Answers to the worked district that the contract of `district` rules out, whatever the row buffer held: any refusal; the row of a good job behind a refused one left as
-- it was; a row past the last job cleared; a tie of V and V_M counted for V* or for V_M; a job at the lower edge of a cell counted in the cell below; a report of zeros.
-- Assumes nothing.
use mathlib.Core.Path.{◌≡◌, refl, sym, ap, ◌∙◌}
use mathlib.Core.List.{List, [], ◌∷◌}
use Prim.Native.Nat.{ℕ}
use native.Mathlib.Omega.{arith}
use lib.ListN.{get_or}
use Rattle.std.specs.Prelude.{Err}
use Rattle.limits.specs.declared.refusal.Refusal.{Refusal}
use Rattle.limits.specs.District.{judged_district}
use Rattle.limits.specs.Outcome.{Outcome, Answer, accepted, outcome}
use Rattle.limits.proofs.Passed.{never}
use Rattle.district_call.specs.declared.report.Report.{Report}
use Rattle.district_call.specs.District.{answers_to, district_of, reported, filled_rows, DistrictAnswers}
use Rattle.district_call.specs.Report.{how_many, report_of}
use Rattle.district_call.specs.Row.{row_of}
use Rattle.district_call.proofs.Districts.{district_passed}
use Rattle.district_call.proofs.WorkedDistrict.{jobs, weights, heights, answers, worked_answers, worked_totals, worked_cells}

-- a buffer of six rows, whatever they held: q, then four more, and last r
module _ (q o₁ o₂ o₃ o₄ r : List ℕ) (a : Answer Report) (held : List (List ℕ))
    (t : DistrictAnswers jobs weights heights (q ∷ o₁ ∷ o₂ ∷ o₃ ∷ o₄ ∷ r ∷ []) a held)
  where
    abbrev old : List (List ℕ)
    old = q ∷ o₁ ∷ o₂ ∷ o₃ ∷ o₄ ∷ r ∷ []

    passes : judged_district 5 4 4 6 ≡ accepted tt
    unfolding judged_district
    passes = refl

    taken : district_of jobs weights heights 6 ≡ accepted (report_of (answers_to jobs weights heights))
    taken = district_passed jobs weights heights 6 passes

    pub never_refused : (k : Refusal) → a ≡ Err k → ⊥
    never_refused k v = never (sym (ap outcome v) ∙ t.answer ∙ taken)

    -- the report that comes back
    abbrev back : Report
    back = reported (outcome a)

    report_is : back ≡ report_of answers
    report_is = ap reported (t.answer ∙ taken) ∙ ap report_of worked_answers

    rows_are : held ≡ filled_rows (accepted (report_of answers)) answers old
    rows_are =
        t.rows ∙ ap (λ (x : Outcome Report). filled_rows x (answers_to jobs weights heights) old) taken
        ∙ (λ i. filled_rows (accepted (report_of (worked_answers i))) (worked_answers i) old)

    -- the second row is the worked sheet's, whatever stood there
    row_1 : get_or held 1 [] ≡ 0 ∷ 0 ∷ 909_704 ∷ 818_453 ∷ 1_071_429 ∷ 1_071_429 ∷ 1000 ∷ []
    unfolding row_of
    row_1 = ap (λ (h : List (List ℕ)). get_or h 1 []) rows_are

    -- the first job is refused; the row of the second is not left as it was
    pub never_stopped : (get_or o₁ 2 0 ≡ 909_704 → ⊥) → get_or held 1 [] ≡ o₁ → ⊥
    never_stopped other e = other (ap (λ (l : List ℕ). get_or l 2 0) (sym e ∙ row_1))

    pub never_cleared : (get_or r 0 0 ≡ 0 → ⊥) → get_or (get_or held 5 []) 0 0 ≡ 0 → ⊥
    unfolding row_of
    never_cleared held-something e = held-something (sym (ap (λ (h : List (List ℕ)). get_or (get_or h 5 []) 0 0) rows_are) ∙ e)

    pub never_for_star : back.totals.star ≡ 2 → ⊥
    never_for_star e =
        let z = sym (ap (λ (m : Report). m.totals.star) report_is ∙ ap (λ m. m.star) worked_totals) ∙ e in
        let w : ◌≡◌ {A = ℕ} 1 2 = z in omega arith

    pub never_for_vm : back.totals.vm ≡ 2 → ⊥
    never_for_vm e =
        let z = sym (ap (λ (m : Report). m.totals.vm) report_is ∙ ap (λ m. m.vm) worked_totals) ∙ e in
        let w : ◌≡◌ {A = ℕ} 1 2 = z in omega arith

    pub never_below : get_or back.cells 17 0 ≡ 1 → ⊥
    never_below e =
        let z = sym (ap (λ (m : Report). get_or m.cells 17 0) report_is ∙ worked_cells.2) ∙ e in
        let w : ◌≡◌ {A = ℕ} 0 1 = z in omega arith

    pub never_zeros : back ≡ report_of [] → ⊥
    unfolding report_of how_many
    never_zeros e =
        let z = sym (ap (λ (m : Report). m.totals.refused) report_is ∙ ap (λ m. m.refused) worked_totals) ∙ ap (λ (m : Report). m.totals.refused) e in
        let w : ◌≡◌ {A = ℕ} 1 0 = z in omega arith
