-- The stages of a sheet, as the code takes them: line 1, line 2, all later lines.
-- Assumes nothing.
use mathlib.Core.Path.{◌≡◌, refl, sym, ap, ◌∙◌}
use mathlib.Core.List.{List, [], ◌∷◌}
use Prim.Native.Nat.{ℕ}
use Rattle.std.specs.Prelude.{Ok, Err}
use Rattle.limits.specs.declared.frame.FrameValues.{FrameValues}
use Rattle.limits.specs.declared.ground.GroundValues.{GroundValues}
use Rattle.limits.specs.declared.refusal.Refusal.{Refusal}
use Rattle.limits.specs.Outcome.{Outcome, Answer, accepted, refused, ◌>>=◌}
use Rattle.text.specs.Line.{line}
use Rattle.text.specs.Reading.{otherwise}
use Rattle.text.proofs.Readings.{Went}
use Rattle.sheet.specs.declared.levels.LevelsRead.{LevelsRead}
use Rattle.sheet.specs.Layouts.{Line, first_of, past}
use Rattle.sheet.specs.Lines.{line_in, read_from}
use Rattle.sheet.specs.Reading.{sheet_lines, level_lines, levels_kept, levels_read, sheet_read}
use Rattle.sheet.specs.Sheet.{frame_layout, sheet_form, level_form, frame_values, levels_of, Sheet}
use Rattle.sheet.proofs.Fitting.{front, line_fits, line_not, no_more}
use Rattle.sheet.proofs.GroundLine.{FirstLine}
use Rattle.sheet.proofs.LaidRead.{sheet_worded, frame_worded}
use Rattle.sheet.proofs.Lines.{read_stop, read_on}

-- ---- what the code holds of the level lines
pub levels_refused : (s : List ℕ) (r : Answer LevelsRead) (f : Refusal) → r ≡ levels_read (level_lines s) → r ≡ Err f
    → read_from 3 level_form s ≡ refused f.number f.place
unfolding level_lines levels_read
levels_refused s r f e m = go (read_from 3 level_form s) (sym e ∙ m)
  where
    go : (o : Outcome (List Line)) → levels_read (o >>= λ ls. accepted (levels_of ls)) ≡ Err f → o ≡ refused f.number f.place
    go (accepted ls) u = cc
    go (refused n p) u =
        let same : ◌≡◌ {A = Refusal} (record { number = n; place = p }) f = cc in
        ap (λ (x : Refusal). refused x.number x.place) same

pub record LevelsTaken (s : List ℕ) (r : LevelsRead) : Type 0 where
  pub lines : List Line
  pub are : read_from 3 level_form s ≡ accepted lines
  pub held : levels_kept (levels_of lines) ≡ r

pub levels_taken : (s : List ℕ) (r : Answer LevelsRead) (l : LevelsRead) → r ≡ levels_read (level_lines s) → r ≡ Ok l
    → LevelsTaken s l
unfolding level_lines levels_read
levels_taken s r l e m = go (read_from 3 level_form s) refl (sym e ∙ m)
  where
    go : (o : Outcome (List Line)) → read_from 3 level_form s ≡ o → levels_read (o >>= λ ls. accepted (levels_of ls)) ≡ Ok l
        → LevelsTaken s l
    go (accepted ls) q u = record { lines = ls; are = q; held = cc }
    go (refused k p) q u = cc

pub refusal_read : {o : Outcome Sheet} {n p : ℕ} → o ≡ refused n p → Err (record { number = n; place = p }) ≡ sheet_read o
unfolding sheet_read
refusal_read e = rw e

-- ---- line by line
module _ (s : List ℕ) where
  pub lines_first : line_in 1 (first_of sheet_form) s ≡ refused 16 1 → sheet_lines s ≡ refused 16 1
  unfolding sheet_lines
  lines_first o = simp (read_stop 1 sheet_form s 16 1 refl o)

  module _ {g : GroundValues} {second : List ℕ} (first : FirstLine (first_of sheet_form) s g second) where
    begun : read_from 1 sheet_form s ≡ (read_from 2 (past sheet_form) second >>= λ ls. accepted (first.line ∷ ls))
    begun = read_on 1 sheet_form s (record { line = first.line; rest = second }) sheet_worded first.at

    pub lines_second : line frame_layout.word frame_layout.numbers second ≡ otherwise → sheet_lines s ≡ refused 16 2
    unfolding sheet_lines
    lines_second o = simp (begun, read_stop 2 (past sheet_form) second 16 2 refl (line_not 2 frame_layout [] second o ∙ no_more 2 second))

    module _ {third ns : List ℕ} (middle : Went second third (line frame_layout.word frame_layout.numbers second) ns) where
      continued : read_from 2 (past sheet_form) second
          ≡ (read_from 3 level_form third >>= λ ls. accepted ((front frame_layout ns third).line ∷ ls))
      continued =
          read_on 2 (past sheet_form) second (front frame_layout ns third) frame_worded
          (line_fits 2 frame_layout [] second middle)

      pub lines_later : (n p : ℕ) → read_from 3 level_form third ≡ refused n p → sheet_lines s ≡ refused n p
      unfolding sheet_lines
      lines_later n p o = simp (begun, continued, o)

      pub lines_all : {l : LevelsRead} {f : FrameValues} → LevelsTaken third l → f ≡ frame_values ns
          → Ok (record { given = record { ground = g; frame = f }; levels = l }) ≡ sheet_read (sheet_lines s)
      unfolding sheet_lines sheet_read
      lines_all {l} {f} last ef = simp (begun, continued, last.are) (rw (last.held, first.holds, ef))
