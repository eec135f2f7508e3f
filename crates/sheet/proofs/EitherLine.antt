-- An accepted sheet gets the same listing with any other line 1 that holds the same ground.
-- Assumes nothing.
use mathlib.Core.Path.{◌≡◌, sym, ap, ◌∙◌}
use mathlib.Core.List.{List}
use Prim.Native.Nat.{ℕ}
use Rattle.job.proofs.Stages.{job_accepted}
use Rattle.sheet.proofs.Demands.{SheetKept}
use Rattle.sheet.proofs.Allowed.{allowed_laid}
use Rattle.sheet.proofs.LaidRead.{laid_read}
use Rattle.sheet.proofs.Listable.{read_listed}
use Rattle.sheet.specs.Laid.{GroundLine, sheet_laid}
use Rattle.sheet.specs.Layouts.{Line}
use Rattle.sheet.specs.Listing.{listing, sheet_listing}

pub either_line : (s : List ℕ) (k : SheetKept s) (l : Line) → GroundLine k.sheet.ground l
    → sheet_listing (sheet_laid l k.sheet) ≡ sheet_listing s
either_line s k l holds =
    let laid = allowed_laid l k.sheet _ k.given holds k.judged in
    read_listed (sheet_laid l k.sheet) k.sheet (laid_read l k.sheet laid)
    ∙ ap listing (job_accepted k.sheet.ground k.sheet.frame k.sheet.levels.weights k.sheet.levels.heights _ k.judged)
    ∙ sym k.printed
