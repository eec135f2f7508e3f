-- What a district is answered once it is judged: 22 with nothing written, or a row for each job and the report.
-- Assumes nothing.
use mathlib.Core.Path.{◌≡◌, refl, sym, ap, ◌∙◌}
use mathlib.Core.Bool.{Bool, true, false}
use mathlib.Core.List.{List, map}
use Prim.Native.Nat.{ℕ, ◌≤◌}
use lib.Dec.{leb, eqb}
use lib.ListN.{length}
use borrow.Author.Tests.{leb-true, eqb-true}
use Rattle.std.specs.Prelude.{Ok, Err}
use Rattle.whole.specs.Cells.{laid}
use Rattle.limits.specs.declared.refusal.Refusal.{Refusal}
use Rattle.limits.specs.District.{judged_district}
use Rattle.limits.specs.Outcome.{Outcome, Answer, accepted, refused, require, outcome, ◌>>◌}
use Rattle.limits.proofs.Passed.{never}
use Rattle.district_call.specs.declared.report.Report.{Report}
use Rattle.district_call.specs.District.{answers_to, district_of, filled_rows, DistrictAnswers}
use Rattle.district_call.specs.Report.{report_of}
use Rattle.district_call.specs.Row.{row_of}

-- a district that passes: up to 256 jobs, as many heights as weights, a row for each job
pub district_allowed : (jobs weights heights rows : ℕ) → judged_district jobs weights heights rows ≡ accepted tt
    → (jobs ≤ 256) × (heights ≡ weights) × (jobs ≤ rows)
unfolding judged_district
district_allowed jobs weights heights rows e = go (leb jobs 256) (eqb heights weights) (leb jobs rows) refl refl refl e
  where
    go : (a b c : Bool) → leb jobs 256 ≡ a → eqb heights weights ≡ b → leb jobs rows ≡ c
        → (require a 22 0 >> (require b 22 0 >> require c 22 0)) ≡ accepted tt → (jobs ≤ 256) × (heights ≡ weights) × (jobs ≤ rows)
    go true true true x y z h = (leb-true _ _ x, eqb-true _ _ y, leb-true _ _ z)
    go true true false x y z h = absurd (never h)
    go true false c x y z h = absurd (never h)
    go false b c x y z h = absurd (never h)

pub district_fits : (jobs weights heights rows : ℕ) → accepted tt ≡ judged_district jobs weights heights rows
    → (jobs ≤ 256) × (heights ≡ weights) × (jobs ≤ rows)
district_fits jobs weights heights rows e = district_allowed jobs weights heights rows (sym e)

module _ (js : List (List ℕ)) (ws hs : List ℕ) (room : ℕ) where
  pub district_refused : {n p : ℕ} → judged_district (length js) (length ws) (length hs) room ≡ refused n p → district_of js ws hs room ≡ refused n p
  unfolding district_of
  district_refused e = simp e

  pub district_passed : judged_district (length js) (length ws) (length hs) room ≡ accepted tt
      → district_of js ws hs room ≡ accepted (report_of (answers_to js ws hs))
  unfolding district_of
  district_passed e = simp e

module _ (js : List (List ℕ)) (ws hs : List ℕ) (old : List (List ℕ)) where
  pub refused_answers : (a : Answer Report) (r : Refusal) → a ≡ Err r
      → refused r.number r.place ≡ judged_district (length js) (length ws) (length hs) (length old) → DistrictAnswers js ws hs old a old
  refused_answers a r t e =
      let o = district_refused js ws hs (length old) (sym e) in
      record { answer = ap outcome t ∙ sym o; rows = sym (ap (λ (x : Outcome Report). filled_rows x (answers_to js ws hs) old) o) }

  pub passed_answers : (m : Report) {held : List (List ℕ)} → accepted tt ≡ judged_district (length js) (length ws) (length hs) (length old)
      → m ≡ report_of (answers_to js ws hs) → held ≡ laid (map row_of (answers_to js ws hs)) old → DistrictAnswers js ws hs old (Ok m) held
  passed_answers m e s w =
      let o = district_passed js ws hs (length old) (sym e) in
      record {
        answer = ap accepted s ∙ sym o;
        rows = w ∙ sym (ap (λ (x : Outcome Report). filled_rows x (answers_to js ws hs) old) o);
      }
