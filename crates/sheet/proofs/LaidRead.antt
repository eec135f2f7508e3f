-- A sheet that is laid out as the document says is read, and gives back its numbers: `laid_lines_read` of a sheet's form.
-- Assumes nothing.
use mathlib.Core.Path.{◌≡◌, refl, sym, ap, ap₂, ◌∙◌}
use mathlib.Core.List.{List, [], ◌∷◌, Memᴰ}
use Prim.Native.Nat.{ℕ, zero, suc, ◌≤◌, ◌<◌}
use native.Mathlib.Nat.{suc_inj}
use native.Mathlib.Omega.{arith}
use lib.ListN.{length}
use borrow.Author.Tests.{le-leb, lt-leb}
use Rattle.limits.specs.declared.ground.GroundValues.{GroundValues}
use Rattle.limits.specs.declared.ground.GroundValues.TheVariants.{Site}
use Rattle.limits.specs.Outcome.{Outcome, accepted, refused, ◌>>=◌}
use Rattle.text.specs.Reading.{starts}
use Rattle.text.specs.Writing.{AllShort}
use Rattle.sheet.proofs.Lines.{WordedForm, laid_lines_read}
use Rattle.sheet.proofs.OneLine.{no_word, and_word}
use Rattle.sheet.specs.Laid.{GroundLine, two_pairs, one_pair, zone, level_lines_of, lines_of, sheet_laid, Laid}
use Rattle.sheet.specs.Layouts.{Line, layout_of, first_of, past, lines_laid, LaidLines}
use Rattle.sheet.specs.Reading.{sheet_lines, read_sheet}
use Rattle.sheet.specs.Sheet.{sheet_form, level_form, one_pair_layout, two_pairs_layout, basin_layout, frame_layout, level_layout, ground_of, Levels, levels_of, Sheet, sheet_of}

-- ---- 17 before everything
module _ (s : List ℕ) where
  pub sheet_long : 4_096 < length s → read_sheet s ≡ refused 17 0
  unfolding read_sheet
  sheet_long h = simp (lt-leb _ _ h)

  pub sheet_lines_lem : length s ≤ 4_096 → read_sheet s ≡ sheet_lines s
  unfolding read_sheet
  sheet_lines_lem h = simp (le-leb _ _ h)

-- ---- no word of a sheet has a TAB or a LF
pub level_worded : WordedForm level_form
level_worded i = and_word level_layout (omega arith) no_word

pub frame_worded : WordedForm (past sheet_form)
frame_worded zero = and_word frame_layout (omega arith) no_word
frame_worded (suc i) = level_worded i

pub sheet_worded : WordedForm sheet_form
sheet_worded zero =
    and_word one_pair_layout (omega arith) (and_word two_pairs_layout (omega arith) (and_word basin_layout (omega arith) no_word))
sheet_worded (suc i) = frame_worded i

-- ---- the lines of what a sheet holds
levels_laid : (ws hs : List ℕ) → AllShort ws → AllShort hs → LaidLines level_form (level_lines_of ws hs)
levels_laid [] hs s t = refl
levels_laid (w ∷ ws) [] s t = refl
levels_laid (w ∷ ws) (h ∷ hs) s t =
    (record { layout = Memᴰ.head refl; short = (s.0, (t.0, tt)) }, levels_laid ws hs s.1 t.1)

levels_back : (ws hs : List ℕ) → length ws ≡ length hs → levels_of (level_lines_of ws hs) ≡ record { weights = ws; heights = hs }
levels_back [] [] e = refl
levels_back [] (h ∷ hs) e = absurd (let z : ⊥ = omega arith in z)
levels_back (w ∷ ws) [] e = absurd (let z : ⊥ = omega arith in z)
levels_back (w ∷ ws) (h ∷ hs) e =
    ap (λ (ls : Levels). record { weights = w ∷ ls.weights; heights = h ∷ ls.heights }) (levels_back ws hs (suc_inj e))

-- ---- line 1
ground_laid : (g : GroundValues) (l : Line) → GroundLine g l → Memᴰ (layout_of l) (first_of sheet_form)
ground_laid g l (one_pair v a b) = Memᴰ.head refl
ground_laid g l (two_pairs v) = Memᴰ.tail (Memᴰ.head refl)
ground_laid g l (zone z) = Memᴰ.tail (Memᴰ.tail (Memᴰ.head refl))

ground_same : (g : GroundValues) (l : Line) → GroundLine g l → ground_of l ≡ g
unfolding starts
ground_same g l (one_pair v a b) =
    λ i. Site (record {
      ssd = v.ssd;
      s1d = v.s1d;
      ssm = v.ssm;
      s1m = v.s1m;
      nad = v.nad;
      nvd = v.nvd;
      nam = sym a i;
      nvm = sym b i;
      class = v.class;
    })
ground_same g l (two_pairs v) = refl
ground_same g l (zone z) = refl

-- lines that are laid out are read, and hold what they hold
pub lines_held : (ls : List Line) → LaidLines sheet_form ls → sheet_lines (lines_laid ls) ≡ accepted (sheet_of ls)
unfolding sheet_lines
lines_held ls t =
    ap (λ (o : Outcome (List Line)). o >>= λ z. accepted (sheet_of z))
    (laid_lines_read (suc (length (lines_laid ls))) 1 sheet_form ls sheet_worded t (omega arith))

-- a sheet that is laid out is read
pub laid_read : (l : Line) (r : Sheet) → Laid l r → read_sheet (sheet_laid l r) ≡ accepted r
unfolding sheet_laid
laid_read l r t =
    sheet_lines_lem (lines_laid (lines_of l r)) t.fits
    ∙ lines_held (lines_of l r) (
      record { layout = ground_laid r.ground l t.first; short = t.ground },
      (
        record { layout = Memᴰ.head refl; short = t.frame },
        levels_laid r.levels.weights r.levels.heights t.weights t.heights,
      ),
    )
    ∙ ap₂ (λ (g : GroundValues) (ls : Levels). accepted (record { ground = g; frame = r.frame; levels = ls }))
    (ground_same r.ground l t.first) (levels_back r.levels.weights r.levels.heights t.same)
