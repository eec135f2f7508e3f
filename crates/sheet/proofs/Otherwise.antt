-- What the reader refuses is otherwise, and what is otherwise it refuses: 17 where there are too many bytes, else 16 at the first
-- line that is otherwise, and nothing else. `refused_otherwise` and `otherwise_stops` of a sheet's form.
-- Assumes nothing.
use mathlib.Core.Path.{◌≡◌, refl, sym, ap, subst, ◌∙◌}
use mathlib.Core.Bool.{Bool, true, false}
use mathlib.Core.List.{List}
use mathlib.Core.Logic.{◌⊎◌, inl, inr}
use Prim.Native.Nat.{ℕ, suc, ◌≤◌, ◌<◌}
use native.Mathlib.Omega.{arith}
use lib.Dec.{leb}
use lib.ListN.{length}
use borrow.Author.Tests.{leb-true, leb-false}
use Rattle.limits.specs.Outcome.{Outcome, accepted, refused, require, ◌>>=◌, ◌>>◌}
use Rattle.limits.proofs.Passed.{one_refusal, only}
use Rattle.sheet.proofs.LaidRead.{sheet_lines_lem, sheet_worded}
use Rattle.sheet.proofs.Lines.{refused_otherwise, otherwise_stops}
use Rattle.sheet.specs.Layouts.{Line}
use Rattle.sheet.specs.Lines.{read_from}
use Rattle.sheet.specs.Otherwise.{FirstOtherwise}
use Rattle.sheet.specs.Reading.{sheet_lines, read_sheet}
use Rattle.sheet.specs.Sheet.{sheet_form, sheet_of}

lines_refused : (s : List ℕ) (n q : ℕ) → sheet_lines s ≡ refused n q → (n ≡ 16) × FirstOtherwise sheet_form q s
unfolding sheet_lines
lines_refused s n q e =
    let r = refused_otherwise (suc (length s)) 1 sheet_form s n q sheet_worded (omega arith) (only (read_from 1 sheet_form s) sheet_of e) in
    let same : r.line ≡ q = omega (arith, r.place) in
    (r.number, subst (λ (p : ℕ). FirstOtherwise sheet_form p s) same r.first)

pub read_refused : (s : List ℕ) (n q : ℕ) → read_sheet s ≡ refused n q
    → ((n ≡ 17) × (q ≡ 0) × (4_096 < length s)) ⊎ ((length s ≤ 4_096) × (n ≡ 16) × FirstOtherwise sheet_form q s)
unfolding read_sheet
read_refused s n q e = go (leb (length s) 4_096) refl e
  where
    go : (t : Bool) → leb (length s) 4_096 ≡ t → (require t 17 0 >> sheet_lines s) ≡ refused n q
        → ((n ≡ 17) × (q ≡ 0) × (4_096 < length s)) ⊎ ((length s ≤ 4_096) × (n ≡ 16) × FirstOtherwise sheet_form q s)
    go true h u = let r = lines_refused s n q u in inr (leb-true (length s) 4_096 h, r.0, r.1)
    go false h u = let r = one_refusal u in inl (sym r.0, sym r.1, leb-false (length s) 4_096 h)

-- where the first line that is otherwise stands, 16 is given: so there is one such line at the most, and a sheet that has one is
-- not read
pub otherwise_lines : (s : List ℕ) (p : ℕ) → FirstOtherwise sheet_form p s → sheet_lines s ≡ refused 16 p
unfolding sheet_lines
otherwise_lines s p f =
    ap (λ (o : Outcome (List Line)). o >>= λ ls. accepted (sheet_of ls))
    (otherwise_stops (suc (length s)) 1 p sheet_form p s sheet_worded (omega arith) (omega arith) f)

pub otherwise_refused : (s : List ℕ) (p : ℕ) → length s ≤ 4_096 → FirstOtherwise sheet_form p s → read_sheet s ≡ refused 16 p
otherwise_refused s p short f = sheet_lines_lem s short ∙ otherwise_lines s p f

pub one_first : (s : List ℕ) (p q : ℕ) → FirstOtherwise sheet_form p s → FirstOtherwise sheet_form q s → p ≡ q
one_first s p q f g = (one_refusal (sym (otherwise_lines s p f) ∙ otherwise_lines s q g)).1
