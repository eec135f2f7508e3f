-- What is printed for a sheet that is read is the listing of what the job gives of its numbers; one that is laid out as the document says
-- is read, and gets a listing where no refusal applies to its numbers.
-- Assumes nothing.
use mathlib.Core.Path.{◌≡◌, ap, ◌∙◌}
use mathlib.Core.List.{List}
use Prim.Native.Nat.{ℕ}
use lib.ListN.{length}
use Rattle.limits.specs.declared.judging.Given.{Given}
use Rattle.limits.specs.Judging.{judged_job}
use Rattle.limits.specs.Outcome.{Outcome, accepted, refused, ◌>>=◌}
use Rattle.limits.proofs.Foremost.{job_first}
use Rattle.job.specs.Job.{results_of}
use Rattle.job.proofs.Stages.{job_accepted}
use Rattle.sheet.proofs.Allowed.{allowed_laid}
use Rattle.sheet.proofs.LaidRead.{laid_read}
use Rattle.sheet.specs.Applies.{HeldApplies}
use Rattle.sheet.specs.Laid.{GroundLine, sheet_laid, Laid}
use Rattle.sheet.specs.Layouts.{Line}
use Rattle.sheet.specs.Listing.{refusal, listing, job_of_sheet, sheet_listing}
use Rattle.sheet.specs.Reading.{read_sheet}
use Rattle.sheet.specs.Sheet.{Sheet}

pub read_listed : (s : List ℕ) (r : Sheet) → read_sheet s ≡ accepted r → sheet_listing s ≡ listing (job_of_sheet r)
unfolding sheet_listing
read_listed s r e = ap (λ (o : Outcome Sheet). listing (o >>= job_of_sheet)) e

pub unread_listed : (s : List ℕ) (n p : ℕ) → read_sheet s ≡ refused n p → sheet_listing s ≡ refusal n p
unfolding sheet_listing listing
unread_listed s n p e = ap (λ (o : Outcome Sheet). listing (o >>= job_of_sheet)) e

module _ (l : Line) (r : Sheet) (holds : GroundLine r.ground l) where
  laid_job : Laid l r → sheet_listing (sheet_laid l r) ≡ listing (job_of_sheet r)
  laid_job t = read_listed (sheet_laid l r) r (laid_read l r t)

  pub laid_listed : ((n p : ℕ) → HeldApplies r n p → ⊥)
      → (g : Given) × (judged_job r.ground r.frame r.levels.weights r.levels.heights (length r.levels.weights) ≡ accepted g)
      × (sheet_listing (sheet_laid l r) ≡ listing (accepted (results_of g r.levels.weights r.levels.heights)))
  laid_listed none =
      let first = job_first r.ground r.frame r.levels.weights r.levels.heights (length r.levels.weights) in
      let j = first.accepted_unless_refused none in (
        j.0,
        j.1,
        laid_job (allowed_laid l r (length r.levels.weights) j.0 holds j.1)
            ∙ ap listing (job_accepted r.ground r.frame r.levels.weights r.levels.heights (length r.levels.weights) j.1),
      )
