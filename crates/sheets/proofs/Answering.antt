-- The sheets of a file answered one after the other, each row written as it comes.
--   Answering s from w t cs ps i    i sheets of the file s are answered, and the sheets ps are left: the writer `from` is w behind their rows, and t
--                                   and cs are the totals and the cells so far
-- Assumes nothing.
use mathlib.Core.Path.{◌≡◌, refl, sym, ap, ◌∙◌}
use mathlib.Core.List.{List, [], ◌∷◌, map}
use Prim.Native.Nat.{ℕ, ◌+◌, ◌≤◌, ◌<◌}
use native.Mathlib.Nat.{add-zero}
use native.Mathlib.Omega.{arith}
use lib.ListN.{length, get_or, drop, replicate, length-drop, length-map}
use lib.Seq.{drop-drop, get_or-drop}
use Rattle.limits.specs.Outcome.{Outcome}
use Rattle.text.specs.declared.writing.Writer.{Writer}
use Rattle.text.specs.Writing.{Room, Writes}
use Rattle.district_call.specs.declared.report.Report.{Report}
use Rattle.district_call.specs.declared.report.Totals.{Totals}
use Rattle.district_call.specs.declared.weighed.Weighed.{Weighed}
use Rattle.district_call.specs.Report.{cells_most, report_of, with_answer, counted_in}
use Rattle.district_call.specs.Tally.{Sorted, Small, LowCells}
use Rattle.district_call.proofs.AllSorted.{all_sorted}
use Rattle.district_call.proofs.Tallied.{nothing, Tallied, tallied_none, tallied_more, tallied_all, tallied_small, tallied_low}
use Rattle.sheets.proofs.Answered.{answer_sorted}
use Rattle.sheets.proofs.Numbered.{Lined, lined_none, lined_all, lined_room, lined_more}
use Rattle.sheets.specs.Answers.{sheet_answer, answers_in}
use Rattle.sheets.specs.Listing.{row_line, row_lines}
use Rattle.sheets.specs.Split.{sheets_in}

pub record Answering (s : List ℕ) (from w : Writer) (t : Totals) (cs : List ℕ) (ps : List (List ℕ)) (i : ℕ) : Type 0 where
  pub lines : Lined row_line from w (row_lines (answers_in s)) (i + 1) (map sheet_answer ps)
  pub tally : Tallied (answers_in s) i t cs
  pub left : drop i (answers_in s) ≡ map sheet_answer ps

pub answering_none : (s : List ℕ) (from : Writer) {t : Totals} → t ≡ (report_of []).totals
    → Answering s from from t (replicate cells_most 0) (sheets_in s) 0
answering_none s from e =
    record {
      lines = lined_none row_line from 1 (answers_in s);
      tally = rw e (tallied_none (answers_in s));
      left = refl;
    }

-- what is left of a list of which the next element is known
module _ (os : List (Outcome Weighed)) (i : ℕ) {o : Outcome Weighed} {m : List (Outcome Weighed)} (e : drop i os ≡ o ∷ m) where
  left_some : i < length os
  left_some = omega (arith, sym (length-drop i os) ∙ ap length e)

  left_here : o ≡ get_or os i nothing
  left_here = sym (ap (λ (l : List (Outcome Weighed)). get_or l 0 nothing) e) ∙ get_or-drop i os 0 nothing ∙ ap (λ (k : ℕ). get_or os k nothing) (add-zero i)

  left_past : drop (i + 1) os ≡ m
  left_past = sym (drop-drop 1 i os) ∙ ap (λ (l : List (Outcome Weighed)). drop 1 l) e

module _ {s : List ℕ} {from w : Writer} {t : Totals} {cs : List ℕ} {ps : List (List ℕ)} {i : ℕ} (a : Answering s from w t cs ps i)
    (few : length (sheets_in s) ≤ 256) where
  abbrev os : List (Outcome Weighed)
  os = answers_in s

  few_answers : length os ≤ 256
  few_answers = omega (arith, few, length-map (sheets_in s) sheet_answer)

  -- no counter wraps
  pub answering_small : Small t
  answering_small = tallied_small os i t cs few_answers a.tally (all_sorted sheet_answer answer_sorted (sheets_in s))

  pub answering_low : LowCells cs
  answering_low = tallied_low os i t cs few_answers a.tally

  pub answering_all : ps ≡ []
      → (◌≡◌ {A = Report} (record { totals = t; cells = cs }) (report_of os)) × Writes from (row_lines os) w
  answering_all h =
      let none : map sheet_answer ps ≡ [] = ap (map sheet_answer) h in
      let end : length os ≤ i = omega (arith, sym (length-drop i os) ∙ ap length (a.left ∙ none)) in
      (tallied_all os i t cs end a.tally, lined_all row_line a.lines none)

  module _ {x : List ℕ} {qs : List (List ℕ)} (h : ps ≡ x ∷ qs) where
    here : drop i os ≡ sheet_answer x ∷ map sheet_answer qs
    here = a.left ∙ ap (map sheet_answer) h

    pub answering_few : i < 256
    answering_few = omega (arith, left_some os i here, few_answers)

    module _ {o : Outcome Weighed} (said : o ≡ sheet_answer x) where
      pub answering_sorted : Sorted o
      answering_sorted = rw said (answer_sorted x)

      next : map sheet_answer ps ≡ o ∷ map sheet_answer qs
      next = rw said (ap (map sheet_answer) h)

      module _ (room : Room from (row_lines os)) where
        pub answering_room : Room w (row_line (i + 1) o)
        answering_room = lined_room row_line a.lines room next

        pub answering_more : {w' : Writer} {t' : Totals} {cs' : List ℕ} → Writes w (row_line (i + 1) o) w'
            → t' ≡ with_answer t o → cs' ≡ counted_in o cs → Answering s from w' t' cs' qs (i + 1)
        answering_more more et ec =
            let here' = a.left ∙ next in
            record {
              lines = lined_more row_line a.lines room next more;
              tally = rw (et, ec) (tallied_more os i t cs (left_some os i here') a.tally o (left_here os i here') answering_sorted);
              left = left_past os i here';
            }
