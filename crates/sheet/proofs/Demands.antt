-- Demands 2 and 3 of a sheet: of all bytes whose listing is no refusal, the printed figures are those of the job of what they hold, the
-- forces add up to V_D, and V_D and the storey shears keep demand 3.
-- Assumes nothing.
use mathlib.Core.Path.{◌≡◌, refl, ap, ◌∙◌}
use mathlib.Core.List.{List}
use Prim.Native.Nat.{ℕ}
use lib.ListN.{length}
use Rattle.limits.specs.declared.judging.Given.{Given}
use Rattle.limits.specs.Outcome.{Outcome, accepted, refused}
use Rattle.job.specs.Job.{results_of}
use Rattle.job.proofs.Results.{Promised, promised}
use Rattle.job.proofs.Stages.{job_refused, job_accepted}
use Rattle.sheet.proofs.Listable.{read_listed, unread_listed}
use Rattle.sheet.proofs.Allowed.{judged_sheet}
use Rattle.sheet.proofs.ReadLaid.{read_laid}
use Rattle.sheet.specs.Laid.{GroundLine, sheet_laid}
use Rattle.sheet.specs.Layouts.{Line}
use Rattle.sheet.specs.Listing.{refusal, listing, sheet_listing}
use Rattle.sheet.specs.Reading.{read_sheet}
use Rattle.sheet.specs.Sheet.{Sheet}

pub record SheetKept (s : List ℕ) : Type 0 where
  pub sheet : Sheet
  pub first : Line
  pub holds : GroundLine sheet.ground first
  pub laid : s ≡ sheet_laid first sheet
  pub given : Given
  pub judged : judged_sheet sheet ≡ accepted given
  pub printed : sheet_listing s ≡ listing (accepted (results_of given sheet.levels.weights sheet.levels.heights))
  pub keeps : Promised given sheet.levels.weights sheet.levels.heights

pub sheet_kept : (s : List ℕ) → ((n p : ℕ) → sheet_listing s ≡ refusal n p → ⊥) → SheetKept s
unfolding listing
sheet_kept s none = read (read_sheet s) refl
  where
    job : (r : Sheet) → read_sheet s ≡ accepted r → (o : Outcome Given) → judged_sheet r ≡ o → SheetKept s
    job r e (refused n p) j =
        absurd (none n p
        (read_listed s r e
        ∙ ap listing (job_refused r.ground r.frame r.levels.weights r.levels.heights (length r.levels.weights) j)))
    job r e (accepted g) j =
        record {
          sheet = r;
          first = (read_laid s r e).0;
          holds = (read_laid s r e).1.1.first;
          laid = (read_laid s r e).1.0;
          given = g;
          judged = j;
          printed =
              read_listed s r e
              ∙ ap listing (job_accepted r.ground r.frame r.levels.weights r.levels.heights (length r.levels.weights) j);
          keeps = promised r.ground r.frame r.levels.weights r.levels.heights (length r.levels.weights) g j;
        }

    read : (o : Outcome Sheet) → read_sheet s ≡ o → SheetKept s
    read (accepted r) e = job r e (judged_sheet r) refl
    read (refused n p) e = absurd (none n p (unread_listed s n p e))
