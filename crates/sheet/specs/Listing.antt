-- 'Sheet and listing': what is printed.
--   roof_first fs us os x          the lines of the x lowest levels, roof first: number, force, shear, overturning
--   all_levels fs us os            the lines of all levels
--   results_listing n fs us os     the base line V, V_M, V*, V_D, T and a line for each level, of figures n, forces fs, shears us
--                                 and overturning moments os, each lowest level first
--   refusal n p             'A refusal prints one line: `refused`, number, place'
--   listing o               what is printed for a job's outcome
--   job_of_sheet r          the job of what a sheet holds
--   outcome_of bytes        the outcome of a sheet: 17, then 16, precede everything that a job judges
--   sheet_listing bytes     what is printed for it
--   longest                 as many bytes as the longest listing may have: 20 digits a number, 50 levels
--   printed l               the bytes l as the code hands them on: in the first of `longest` cells, and how many there are
--   Written l old held n    a buffer that held old holds `held`, l over its first cells and the rest as it was; n is the length of l
--   told o                  what the outcome o refuses, if it does
--   Puts o old held p       so is the listing of the outcome o, and p says its length and what o refuses
--   Levelled fs us os       as many shears and overturning moments as forces, and not over 50
use Rattle.std.specs.Prelude.{◌≡◌, List, [], ◌∷◌, ◌++◌, ℕ, zero, suc, ◌≤◌, length, get_or, Option, Some, None}
use Rattle.whole.specs.Cells.{laid}
use Rattle.limits.specs.declared.refusal.Refusal.{Refusal}
use Rattle.limits.specs.Outcome.{Outcome, accepted, refused, zeros, ◌>>=◌}
use Rattle.base_shear.specs.declared.Figures.{Figures}
use Rattle.job.specs.Job.{Results, job_of}
use Rattle.text.specs.Bytes.{bytes}
use Rattle.text.specs.Writing.{laid_out}
use Rattle.sheet.specs.declared.listing.Listing.{Listing}
use Rattle.sheet.specs.declared.Put.{Put}
use Rattle.sheet.specs.Reading.{read_sheet}
use Rattle.sheet.specs.Sheet.{Sheet}

unfoldable pub roof_first : List ℕ → List ℕ → List ℕ → ℕ → List ℕ
roof_first fs us os zero = []
roof_first fs us os (suc x) =
    laid_out (bytes "level") (suc x ∷ get_or fs x 0 ∷ get_or us x 0 ∷ get_or os x 0 ∷ []) ++ roof_first fs us os x

abbrev pub all_levels : List ℕ → List ℕ → List ℕ → List ℕ
all_levels fs us os = roof_first fs us os (length fs)

unfoldable pub results_listing : Figures → List ℕ → List ℕ → List ℕ → List ℕ
results_listing n fs us os =
    laid_out (bytes "base") (n.v ∷ n.vm ∷ n.star ∷ n.vd ∷ n.t ∷ []) ++ all_levels fs us os

unfoldable pub refusal : ℕ → ℕ → List ℕ
refusal n p = laid_out (bytes "refused") (n ∷ p ∷ [])

abbrev pub longest : ℕ
longest = 4_610

unfoldable pub printed : List ℕ → Listing
printed l = record { bytes = laid l (zeros longest); length = length l }

pub record Written (l old held : List ℕ) (n : ℕ) : Type 0 where
  pub bytes_are : held ≡ laid l old
  pub length_is : n ≡ length l

pub record Levelled (fs us os : List ℕ) : Type 0 where
  pub shears : length us ≡ length fs
  pub overturnings : length os ≡ length fs
  pub few : length fs ≤ 50

unfoldable pub listing : Outcome Results → List ℕ
listing (accepted r) = results_listing r.figures r.columns.forces r.columns.shears r.columns.overturnings
listing (refused n p) = refusal n p

abbrev pub told : {A : Type 0} → Outcome A → Option Refusal
told (accepted a) = None
told (refused n p) = Some (record { number = n; place = p })

pub record Puts (o : Outcome Results) (old held : List ℕ) (p : Put) : Type 0 where
  pub listed : Written (listing o) old held p.length
  pub refusal_is : p.refusal ≡ told o

abbrev pub job_of_sheet : Sheet → Outcome Results
job_of_sheet r = job_of r.ground r.frame r.levels.weights r.levels.heights (length r.levels.weights)

abbrev pub outcome_of : List ℕ → Outcome Results
outcome_of s = read_sheet s >>= job_of_sheet

unfoldable pub sheet_listing : List ℕ → List ℕ
sheet_listing s = listing (outcome_of s)
