-- What an answer of `district` says, once it is known: one outcome alone; the first refusal of the call; each row, and the rows past the last job.
-- Assumes nothing.
use mathlib.Core.Path.{◌≡◌, refl, sym, ap, subst, ◌∙◌}
use mathlib.Core.List.{List, [], map}
use Prim.Native.Nat.{ℕ, ◌≤◌, ◌<◌}
use native.Mathlib.Omega.{arith}
use lib.ListN.{length, get_or, take, drop, length-map}
use Rattle.std.specs.Prelude.{Ok, Err}
use Rattle.whole.specs.Cells.{laid}
use Rattle.whole.proofs.Cells.{laid_part, laid_cell, laid_rest}
use Rattle.whole.proofs.Unique.{determined}
use Rattle.limits.specs.declared.refusal.Refusal.{Refusal}
use Rattle.limits.specs.Applies.{DistrictApplies}
use Rattle.limits.specs.District.{judged_district}
use Rattle.limits.specs.FirstRefusal.{FirstRefusal}
use Rattle.limits.specs.Outcome.{Outcome, Answer, accepted, refused, Done, outcome}
use Rattle.limits.proofs.DistrictStage as judged
use Rattle.limits.proofs.First.{first_then_value}
use Rattle.limits.proofs.Numbers.{district_is_22}
use Rattle.limits.proofs.Passed.{never, one_value}
use Rattle.limits.proofs.Unique.{one_answer}
use Rattle.district_call.specs.declared.report.Report.{Report}
use Rattle.district_call.specs.District.{answers_to, district_of, reported, filled_rows, DistrictAnswers}
use Rattle.district_call.specs.Entered.{entered}
use Rattle.district_call.specs.Report.{report_of}
use Rattle.district_call.specs.Row.{answer_to, row_of}
use Rattle.district_call.proofs.Districts.{district_allowed, district_refused, district_passed}
use Rattle.district_call.proofs.Rows.{map_at}

module _ (js : List (List ℕ)) (ws hs : List ℕ) (old : List (List ℕ)) where
  -- no second outcome meets the contract: one answer, and one content of the row buffer
  pub one_district : {a a' : Answer Report} {c c' : List (List ℕ)} → DistrictAnswers js ws hs old a c → DistrictAnswers js ws hs old a' c'
      → (a ≡ a') × (c ≡ c')
  one_district p q = (one_answer p.answer q.answer, determined p.rows q.rows)

  pub district_first : (a : Answer Report) (held : List (List ℕ)) → DistrictAnswers js ws hs old a held
      → FirstRefusal (DistrictApplies (length js) (length ws) (length hs) (length old)) (outcome a)
  unfolding district_of
  district_first a held t =
      let A = DistrictApplies (length js) (length ws) (length hs) (length old) in
      subst (FirstRefusal A) (sym t.answer)
      (first_then_value A (judged_district (length js) (length ws) (length hs) (length old)) (report_of (answers_to js ws hs))
      (judged.district_first (length js) (length ws) (length hs) (length old)))

  -- of a call that was taken, with the report r: how many there are of each, the report, and the rows
  pub record TakenCall (r : Report) (held : List (List ℕ)) : Type 0 where
    pub few : length js ≤ 256
    pub store : length hs ≡ length ws
    pub room : length js ≤ length old
    pub report : r ≡ report_of (answers_to js ws hs)
    pub rows : held ≡ laid (map row_of (answers_to js ws hs)) old

  -- and of one that was refused: 22, a report of no job, nothing written
  pub record RefusedCall (a : Answer Report) (held : List (List ℕ)) : Type 0 where
    pub refusal : a ≡ Err (record { number = 22; place = 0 })
    pub report : reported (outcome a) ≡ report_of []
    pub rows : held ≡ old

  module _ (a : Answer Report) (held : List (List ℕ)) (t : DistrictAnswers js ws hs old a held) where
    pub taken_call : (r : Report) → a ≡ Ok r → TakenCall r held
    taken_call r v = go (judged_district (length js) (length ws) (length hs) (length old)) refl
      where
        go : (o : Outcome Done) → judged_district (length js) (length ws) (length hs) (length old) ≡ o → TakenCall r held
        go (accepted u) e =
            let o = district_passed js ws hs (length old) e in
            let all = district_allowed (length js) (length ws) (length hs) (length old) e in
            record {
              few = all.0;
              store = all.1;
              room = all.2;
              report = one_value (sym (ap outcome v) ∙ t.answer ∙ o);
              rows = t.rows ∙ ap (λ (x : Outcome Report). filled_rows x (answers_to js ws hs) old) o;
            }
        go (refused n p) e = absurd (never (sym (district_refused js ws hs (length old) e) ∙ sym t.answer ∙ ap outcome v))

    pub refused_call : (r : Refusal) → a ≡ Err r → RefusedCall a held
    refused_call r v =
        let is = district_is_22 ((district_first a held t).refused_applies r.number r.place (ap outcome v)) in
        record {
          refusal = v ∙ (λ i. Err (record { number = is.0 i; place = is.1 i }));
          report = ap (λ (x : Answer Report). reported (outcome x)) v;
          rows = t.rows ∙ ap (λ (x : Outcome Report). filled_rows x (answers_to js ws hs) old) (sym t.answer ∙ ap outcome v);
        }

  -- ---- the rows of a call that was taken
  module _ (r : Report) (held : List (List ℕ)) (t : TakenCall r held) where
    many : length (map row_of (answers_to js ws hs)) ≡ length js
    many = length-map (answers_to js ws hs) row_of ∙ length-map js (λ j. answer_to ws hs (entered j))

    pub rows_are : take (length js) held ≡ map row_of (answers_to js ws hs)
    rows_are = ap (λ (h : List (List ℕ)). take (length js) h) t.rows ∙ laid_part (map row_of (answers_to js ws hs)) old (length js) many

    -- row i is what job i is answered
    pub row_at : (i : ℕ) → i < length js → get_or held i [] ≡ row_of (answer_to ws hs (entered (get_or js i [])))
    row_at i h =
        let n = length-map js (λ j. answer_to ws hs (entered j)) in
        ap (λ (l : List (List ℕ)). get_or l i []) t.rows
        ∙ laid_cell [] (map row_of (answers_to js ws hs)) old i (omega (arith, many))
        ∙ map_at row_of (answer_to ws hs (entered [])) [] (answers_to js ws hs) i (omega (arith, n))
        ∙ ap row_of (map_at (λ j. answer_to ws hs (entered j)) [] (answer_to ws hs (entered [])) js i h)

    -- 'rows past the last job are untouched'
    pub rows_past : drop (length js) held ≡ drop (length js) old
    rows_past = ap (λ (h : List (List ℕ)). drop (length js) h) t.rows ∙ laid_rest (map row_of (answers_to js ws hs)) old (length js) many
