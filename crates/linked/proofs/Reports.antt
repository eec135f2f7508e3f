-- What is replied to a district is what the core answered; where 0 is returned it was taken, and no second reply meets the contract.
-- Assumes nothing.
use Rattle.std.specs.Prelude.{Ok, Err}
use mathlib.Core.Path.{◌≡◌, sym, ap, ◌∙◌}
use mathlib.Core.List.{List, []}
use Prim.Native.Nat.{ℕ}
use native.Mathlib.Omega.{arith}
use lib.ListN.{length}
use Rattle.whole.proofs.Unique.{determined}
use Rattle.limits.specs.declared.refusal.Refusal.{Refusal}
use Rattle.limits.specs.Outcome.{Outcome, Answer, accepted, refused, number, outcome}
use Rattle.limits.proofs.Numbers.{district_is_22}
use Rattle.limits.proofs.Unique.{answer_of, says_outcome}
use Rattle.district_call.specs.declared.report.Report.{Report}
use Rattle.district_call.specs.District.{district_of, reported, DistrictAnswers}
use Rattle.district_call.specs.Report.{report_of}
use Rattle.district_call.proofs.Answered.{district_first, TakenCall, taken_call}
use Rattle.linked.specs.Linked.{report_numbers, DistrictReplies}

module _ (js : List (List ℕ)) (ws hs : List ℕ) (old : List (List ℕ)) where
  pub district_replies : (a : Answer Report) {n : ℕ} {numbers : List ℕ} {held : List (List ℕ)} → DistrictAnswers js ws hs old a held
      → n ≡ number (outcome a) → numbers ≡ report_numbers (reported (outcome a)) → DistrictReplies js ws hs old n numbers held
  district_replies a t e p =
      record {
        returned = e ∙ ap number t.answer;
        replied = p ∙ ap (λ (o : Outcome Report). report_numbers (reported o)) t.answer;
        rows = t.rows;
      }

  -- and the other way: what is proved of an answer of the core holds of the reply that says it
  pub replied_district : (n : ℕ) (numbers : List ℕ) (held : List (List ℕ)) → DistrictReplies js ws hs old n numbers held
      → (a : Answer Report) × DistrictAnswers js ws hs old a held × (n ≡ number (outcome a)) × (numbers ≡ report_numbers (reported (outcome a)))
  replied_district n numbers held t =
      let o = district_of js ws hs (length old) in (
        answer_of o,
        record { answer = says_outcome o; rows = t.rows },
        t.returned ∙ ap number (sym (says_outcome o)),
        t.replied ∙ ap (λ (x : Outcome Report). report_numbers (reported x)) (sym (says_outcome o)),
      )

  -- where 0 is returned, the call was taken
  pub zero_district : (numbers : List ℕ) (held : List (List ℕ)) → DistrictReplies js ws hs old 0 numbers held
      → (r : Report) × TakenCall js ws hs old r held × (numbers ≡ report_numbers r)
  zero_district numbers held t = let a = replied_district 0 numbers held t in go a.0 a.1 a.2 a.3
    where
      go : (a : Answer Report) → DistrictAnswers js ws hs old a held → 0 ≡ number (outcome a) → numbers ≡ report_numbers (reported (outcome a))
          → (r : Report) × TakenCall js ws hs old r held × (numbers ≡ report_numbers r)
      go (Ok r) d z p = (r, taken_call js ws hs old (Ok r) held d r (λ i. Ok r), p)
      go (Err k) d z p =
          let is = district_is_22 ((district_first js ws hs old (Err k) held d).refused_applies k.number k.place (λ i. refused k.number k.place)) in
          absurd (let w : ⊥ = omega (arith, z, is.0) in w)

  pub one_district_reply : {n n' : ℕ} {r r' : List ℕ} {c c' : List (List ℕ)} → DistrictReplies js ws hs old n r c
      → DistrictReplies js ws hs old n' r' c' → (n ≡ n') × (r ≡ r') × (c ≡ c')
  one_district_reply x y =
      (determined x.returned y.returned, determined x.replied y.replied, determined x.rows y.rows)
