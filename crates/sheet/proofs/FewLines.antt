-- A sheet with too few lines: 'a sheet of no line is 16 at 1, one of a site line only is 16 at 2', so is one of a basin line only; and 'no level line is 1'.
-- Assumes nothing.
use mathlib.Core.Path.{◌≡◌, refl, ap, subst, ◌∙◌}
use mathlib.Core.Bool.{false}
use mathlib.Core.List.{List, [], ◌++◌, append-nil}
use Prim.Native.Nat.{ℕ, ◌+◌, ◌≤◌}
use native.Mathlib.Omega.{arith}
use lib.ListN.{length, length-append}
use Rattle.text.specs.Line.{lf}
use Rattle.text.specs.Writing.{fields_of, laid_out}
use Rattle.limits.specs.Judging.{judged_job}
use Rattle.limits.specs.Levels.{judged_levels}
use Rattle.limits.specs.Outcome.{Outcome, refused, ◌>>=◌}
use Rattle.limits.specs.Ranges.{in_range, within}
use Rattle.job.specs.Job.{job_of}
use Rattle.sheet.specs.Laid.{sheet_laid, Laid}
use Rattle.sheet.specs.Layouts.{Line, Form, first_of, past, line_laid, ended, LaidLine}
use Rattle.sheet.specs.Listing.{job_of_sheet, outcome_of}
use Rattle.sheet.specs.Otherwise.{FirstOtherwise, here, after}
use Rattle.sheet.specs.Sheet.{sheet_form, Sheet}
use Rattle.sheet.proofs.LaidRead.{laid_read}
use Rattle.sheet.proofs.Otherwise.{otherwise_refused}

-- a line ends in LF, so it has a byte
line_some : (w ns x : List ℕ) → [] ≡ laid_out w ns ++ x → ⊥
unfolding laid_out
line_some w ns x e =
    let n : 0 ≡ length w + (length (fields_of ns) + 1) + length x =
    ap length e ∙ length-append (w ++ (fields_of ns ++ lf)) x
    ∙ ap (λ (k : ℕ). k + length x) (length-append w (fields_of ns ++ lf) ∙ ap (λ (k : ℕ). length w + k) (length-append (fields_of ns) lf)) in
    omega arith

-- where a line must follow and no byte does, the first that is otherwise is that one
none_here : (f : Form) → ended f [] ≡ false → FirstOtherwise f 1 []
none_here f e = here e (λ l x t z. line_some l.word l.numbers x z)

pub no_line_lem : outcome_of [] ≡ refused 16 1
no_line_lem = ap (λ (o : Outcome Sheet). o >>= job_of_sheet) (otherwise_refused [] 1 (omega arith) (none_here sheet_form refl))

pub first_line_only : (l : Line) → LaidLine (first_of sheet_form) l → length (line_laid l) ≤ 4_096 → outcome_of (line_laid l) ≡ refused 16 2
first_line_only l t short =
    let o : FirstOtherwise sheet_form 2 (line_laid l) =
    subst (FirstOtherwise sheet_form 2) (append-nil (line_laid l)) (after l t (none_here (past sheet_form) refl)) in
    ap (λ (o : Outcome Sheet). o >>= job_of_sheet) (otherwise_refused (line_laid l) 2 short o)

-- ---- a ground line and a frame line, and no other
nothing_judged : (r : Sheet) → r.levels.weights ≡ [] → job_of_sheet r ≡ refused 1 0
unfolding job_of judged_job judged_levels within in_range
nothing_judged r e = simp e

pub no_level_line : (l : Line) (r : Sheet) → Laid l r → r.levels.weights ≡ [] → outcome_of (sheet_laid l r) ≡ refused 1 0
no_level_line l r t e = ap (λ (o : Outcome Sheet). o >>= job_of_sheet) (laid_read l r t) ∙ nothing_judged r e
