-- What the reader's answer, once it is known, says of the answer to a sheet: the job of the levels that are kept is that of all.
-- Assumes nothing.
use mathlib.Core.Path.{◌≡◌, refl, sym, ap, ◌∙◌}
use mathlib.Core.Bool.{Bool, true, false}
use mathlib.Core.List.{List}
use Prim.Native.Nat.{ℕ}
use native.Mathlib.Omega.{arith}
use lib.Dec.{leb}
use lib.ListN.{length, take, length-take}
use lib.Seq.{take_all}
use borrow.Author.Tests.{leb-true, leb-false}
use Rattle.std.specs.Prelude.{Ok, Err}
use Rattle.limits.specs.declared.frame.FrameValues.{FrameValues}
use Rattle.limits.specs.declared.ground.GroundValues.{GroundValues}
use Rattle.limits.specs.declared.refusal.Refusal.{Refusal}
use Rattle.limits.specs.Outcome.{Outcome, Answer, accepted, refused, ◌>>=◌}
use Rattle.job.specs.Job.{figures_only}
use Rattle.job.proofs.Stages.{job_refused}
use Rattle.sheet.specs.declared.reader.SheetRead.{SheetRead}
use Rattle.sheet.specs.Reading.{read_sheet, kept_most, kept, sheet_read}
use Rattle.sheet.specs.Sheet.{Sheet}
use Rattle.sheet.proofs.JobAnswered.{too_many}
use Rattle.sheet.proofs.SheetAnswered.{said_refused, sheet_held}
use Rattle.district_call.specs.Tally.{Sorted}
use Rattle.district_call.specs.Weighed.{weighed_job}
use Rattle.district_call.proofs.WeighedJobs.{weighed_refused, weighed_sorted}
use Rattle.sheets.specs.Answers.{weighed_sheet, sheet_answer}

-- where some levels are not kept, both are refused by their count
kept_weighed : (v : GroundValues) (f : FrameValues) (ws hs : List ℕ) → length hs ≡ length ws
    → weighed_job v f (kept ws) (kept hs) ≡ weighed_job v f ws hs
kept_weighed v f ws hs same = go (leb (length ws) 50) refl
  where
    go : (t : Bool) → leb (length ws) 50 ≡ t → weighed_job v f (kept ws) (kept hs) ≡ weighed_job v f ws hs
    go true e =
        let few = leb-true (length ws) 50 e in
        rw (take_all kept_most ws (omega arith), take_all kept_most hs (omega arith))
    go false e =
        let many = leb-false (length ws) 50 e in
        let held = length-take kept_most ws in
        weighed_refused v f (kept ws) (kept hs) (ap figures_only (job_refused v f (kept ws) (kept hs) _ (too_many v f (kept ws) (kept hs) _ (omega arith))))
        ∙ sym (weighed_refused v f ws hs (ap figures_only (job_refused v f ws hs _ (too_many v f ws hs _ many))))

module _ (s : List ℕ) (r : Answer SheetRead) (e : r ≡ sheet_read (read_sheet s)) where
  pub answer_taken : (c : SheetRead) → r ≡ Ok c → {ws hs : List ℕ}
      → ws ≡ take c.levels.count c.levels.weights → hs ≡ take c.levels.count c.levels.heights
      → weighed_job c.given.ground c.given.frame ws hs ≡ sheet_answer s
  unfolding sheet_answer
  answer_taken c m ew eh =
      let t = sheet_held s r e c m in
      said t.read t.is t.ground t.frame (ew ∙ t.weights) (eh ∙ t.heights) t.same
    where
      said : (x : Sheet) → read_sheet s ≡ accepted x → {g : GroundValues} {f : FrameValues} {ws hs : List ℕ}
          → x.ground ≡ g → x.frame ≡ f → ws ≡ kept x.levels.weights → hs ≡ kept x.levels.heights
          → length x.levels.heights ≡ length x.levels.weights → weighed_job g f ws hs ≡ (read_sheet s >>= weighed_sheet)
      said x is eg ef ew eh same =
          rw (is, ← eg, ← ef, ew, eh) (kept_weighed x.ground x.frame x.levels.weights x.levels.heights same)

  pub answer_refused : (f : Refusal) → r ≡ Err f → sheet_answer s ≡ refused f.number f.place
  unfolding sheet_answer
  answer_refused f m = simp (said_refused (read_sheet s) r e f m)

-- every accepted sheet has a cell
pub answer_sorted : (s : List ℕ) → Sorted (sheet_answer s)
unfolding sheet_answer
answer_sorted s = go (read_sheet s)
  where
    go : (o : Outcome Sheet) → Sorted (o >>= weighed_sheet)
    go (accepted r) = weighed_sorted r.ground r.frame r.levels.weights r.levels.heights
    go (refused n p) = tt
