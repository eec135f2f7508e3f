-- The program reads 4,097 bytes at the most: what is printed for them is what is printed for all.
-- Assumes nothing.
use mathlib.Core.Path.{◌≡◌, refl, sym, ap, ◌∙◌}
use mathlib.Core.Bool.{Bool, true, false}
use mathlib.Core.List.{List}
use Prim.Native.Nat.{ℕ}
use native.Mathlib.Omega.{arith}
use lib.Dec.{leb}
use lib.ListN.{length, take}
use lib.Seq.{take_all, length-take-le}
use borrow.Author.Tests.{leb-true, leb-false}
use Rattle.limits.specs.Outcome.{Outcome, ◌>>=◌}
use Rattle.sheet.proofs.LaidRead.{sheet_long}
use Rattle.sheet.specs.Listing.{listing, job_of_sheet, sheet_listing}
use Rattle.sheet.specs.Reading.{read_sheet}
use Rattle.sheet.specs.Sheet.{Sheet}

pub cut_listed : (s : List ℕ) → sheet_listing (take 4_097 s) ≡ sheet_listing s
unfolding sheet_listing
cut_listed s = ap (λ (o : Outcome Sheet). listing (o >>= job_of_sheet)) (go (leb (length s) 4_096) refl)
  where
    go : (t : Bool) → leb (length s) 4_096 ≡ t → read_sheet (take 4_097 s) ≡ read_sheet s
    go true h = ap read_sheet (take_all 4_097 s (omega (arith, leb-true (length s) 4_096 h)))
    go false h =
        let long = leb-false (length s) 4_096 h in
        sheet_long (take 4_097 s) (omega (arith, length-take-le 4_097 s (omega (arith, long)))) ∙ sym (sheet_long s long)
