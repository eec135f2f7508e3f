-- No listing has over 4,610 bytes, whatever the sheet; what the code hands on says how many of its cells are the listing.
-- Assumes nothing.
use mathlib.Core.Path.{◌≡◌, refl, sym, ◌∙◌}
use mathlib.Core.List.{List}
use Prim.Native.Nat.{ℕ, ◌≤◌}
use native.Mathlib.Omega.{arith}
use lib.ListN.{length, take, length-append}
use Rattle.whole.proofs.Cells.{laid_part}
use Rattle.limits.specs.declared.judging.Given.{Given}
use Rattle.limits.specs.Judging.{judged_job}
use Rattle.limits.specs.Outcome.{Outcome, accepted, refused, zeros, ◌>>=◌}
use Rattle.limits.proofs.Accepted.{given_allowed}
use Rattle.base_shear.specs.declared.Figures.{Figures}
use Rattle.job.specs.Job.{results_at}
use Rattle.job.proofs.Columns.{forces_cells, shears_cells, overturnings_cells}
use Rattle.job.proofs.Stages.{job_refused, job_accepted}
use Rattle.sheet.proofs.Listings.{base_line, results_listing_room, refusal_room}
use Rattle.sheet.specs.declared.listing.Listing.{Listing}
use Rattle.sheet.specs.Listing.{roof_first, results_listing, listing, job_of_sheet, sheet_listing, longest, printed, Levelled}
use Rattle.sheet.specs.Reading.{read_sheet}
use Rattle.sheet.specs.Sheet.{Sheet}

results_listing_short : (n : Figures) (fs us os : List ℕ) → Levelled fs us os → length (results_listing n fs us os) ≤ longest
unfolding results_listing
results_listing_short n fs us os l =
    omega (arith, length-append (base_line fs us os n) (roof_first fs us os (length fs)), results_listing_room fs us os n l)

results_short : (n : Figures) (ws hs : List ℕ) → length ws ≤ 50 → length (listing (accepted (results_at n ws hs))) ≤ longest
unfolding listing
results_short n ws hs few =
    let r = results_at n ws hs in
    let same = forces_cells n.t n.vd ws hs in
    results_listing_short n r.columns.forces r.columns.shears r.columns.overturnings
    (record {
      shears =
          shears_cells n.t n.vd ws hs ∙ sym same;
      overturnings = overturnings_cells n.t n.vd ws hs ∙ sym same;
      few = omega (arith, same);
    })

refused_short : (n p : ℕ) → length (listing (refused n p)) ≤ longest
unfolding listing
refused_short n p = refusal_room n p

job_short : (r : Sheet) → length (listing (job_of_sheet r)) ≤ longest
job_short r = go (judged_job r.ground r.frame r.levels.weights r.levels.heights (length r.levels.weights)) refl
  where
    go : (o : Outcome Given) → judged_job r.ground r.frame r.levels.weights r.levels.heights (length r.levels.weights) ≡ o
        → length (listing (job_of_sheet r)) ≤ longest
    go (accepted g) e =
        let few = (given_allowed r.ground r.frame r.levels.weights r.levels.heights (length r.levels.weights) g e).0.levels.few in
        rw (job_accepted r.ground r.frame r.levels.weights r.levels.heights (length r.levels.weights) e)
        (results_short _ r.levels.weights r.levels.heights few)
    go (refused n p) e =
        rw (job_refused r.ground r.frame r.levels.weights r.levels.heights (length r.levels.weights) e) (refused_short n p)

pub listing_short : (s : List ℕ) → length (sheet_listing s) ≤ longest
unfolding sheet_listing
listing_short s = go (read_sheet s)
  where
    go : (o : Outcome Sheet) → length (listing (o >>= job_of_sheet)) ≤ longest
    go (accepted r) = job_short r
    go (refused n p) = refused_short n p

pub listing_part : (s : List ℕ) (l : Listing) → l ≡ printed (sheet_listing s)
    → (l.length ≤ length l.bytes) × (take l.length l.bytes ≡ sheet_listing s)
unfolding printed
listing_part s l e =
    rw e (simp length-append (omega arith), laid_part (sheet_listing s) (zeros longest) (length (sheet_listing s)) refl)
