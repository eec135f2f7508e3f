-- A `site` line with another count of numbers than seven and nine is otherwise: 16 at line 1.
-- Assumes nothing.
use mathlib.Core.Path.{◌≡◌, refl, ap, ◌∙◌}
use mathlib.Core.List.Memᴰ
use mathlib.Core.List.{List, ◌++◌}
use mathlib.Core.Logic.{⊎_elim}
use Prim.Native.Nat.{ℕ, ◌≤◌}
use native.Mathlib.Omega.{arith}
use lib.ListN.{length, get_or}
use Rattle.limits.specs.Outcome.{Outcome, refused, ◌>>=◌}
use Rattle.text.specs.Writing.{AllShort}
use Rattle.text.proofs.OneWay.{laid_once}
use Rattle.sheet.proofs.LaidRead.{sheet_worded}
use Rattle.sheet.proofs.Otherwise.{otherwise_refused}
use Rattle.sheet.proofs.OnePair.{site_sheet}
use Rattle.sheet.specs.Laid.{site_line}
use Rattle.sheet.specs.Layouts.{Layout, Line, layout_of, first_of, line_laid, LaidLine}
use Rattle.sheet.specs.Listing.{job_of_sheet, outcome_of}
use Rattle.sheet.specs.Otherwise.{here}
use Rattle.sheet.specs.Sheet.{sheet_form, Sheet}

module _ (ns x : List ℕ) (short : AllShort ns) (not-seven : length ns ≡ 7 → ⊥) (not-nine : length ns ≡ 9 → ⊥) where
  none_stands : (l : Line) (y : List ℕ) → LaidLine (first_of sheet_form) l → site_sheet ns x ≡ line_laid l ++ y → ⊥
  none_stands l y t is =
      let once =
      laid_once (site_line ns).word l.word ns l.numbers x y (omega arith) (sheet_worded 0 (layout_of l) t.layout) short t.short is in
      let same : site_line ns ≡ l = λ i. record { word = once.0 i; numbers = once.1 i } in
      let layout = ap layout_of same in
      ⊎_elim (λ e. not-seven (ap (λ (k : Layout). k.numbers) (layout ∙ e)))
      (λ m. ⊎_elim (λ e. not-nine (ap (λ (k : Layout). k.numbers) (layout ∙ e)))
      (λ m'. let z : ⊥ = omega (arith, ap (λ (k : Layout). get_or k.word 0 0) (layout ∙ Memᴰ.eq_of_singleton m')) in z)
      (Memᴰ.cases_cons m))
      (Memᴰ.cases_cons t.layout)

  pub other_counts : length (site_sheet ns x) ≤ 4_096 → outcome_of (site_sheet ns x) ≡ refused 16 1
  other_counts fits =
      ap (λ (o : Outcome Sheet). o >>= job_of_sheet) (otherwise_refused (site_sheet ns x) 1 fits (here refl none_stands))
