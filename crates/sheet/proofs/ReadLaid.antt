-- A sheet that is read is laid out as the document says, no other is: `read_lines_laid` of a sheet's form, and its lines put together
-- again from what it holds.
-- Assumes nothing.
use mathlib.Core.Path.{◌≡◌, refl, sym, ap, ap₂, subst, ◌∙◌}
use mathlib.Core.List.Memᴰ
use mathlib.Core.List.{List, [], ◌∷◌}
use mathlib.Core.Logic.{⊎_elim}
use Prim.Native.Nat.{ℕ, suc, ◌≤◌}
use lib.Dec.{leb}
use lib.ListN.{length, get_or, length-map}
use lib.Seq.{ext_get_or}
use borrow.Author.Tests.{leb-true}
use Rattle.whole.specs.Cells.{cells}
use Rattle.whole.proofs.Cells.{cells_length, cells_at}
use Rattle.limits.specs.declared.ground.GroundValues.{GroundValues}
use Rattle.limits.specs.declared.ground.GroundValues.TheVariants.{Site, Basin}
use Rattle.limits.specs.Outcome.{accepted, require}
use Rattle.limits.proofs.Passed.{differ, one_value, bind_passed, then_passed, require_passed}
use Rattle.text.specs.Reading.{starts}
use Rattle.text.specs.Writing.{AllShort}
use Rattle.sheet.proofs.Lines.{read_lines_laid}
use Rattle.sheet.specs.Laid.{GroundLine, two_pairs, one_pair, zone, level_lines_of, lines_of, sheet_laid, Laid}
use Rattle.sheet.specs.Layouts.{Layout, Line, layout_of, first_of, lines_laid, LaidLine, LaidLines}
use Rattle.sheet.specs.Lines.{read_from}
use Rattle.sheet.specs.Reading.{sheet_lines, read_sheet}
use Rattle.sheet.specs.Sheet.{one_pair_layout, two_pairs_layout, basin_layout, frame_layout, level_layout, sheet_form, level_form, site_values, pair_twice, ground_of}
use Rattle.sheet.specs.Sheet.{levels_of, line_at, Sheet, sheet_of}

-- ---- the lines of a sheet that is read
pub record SheetLines (s : List ℕ) (r : Sheet) : Type 0 where
  pub short : length s ≤ 4_096
  pub lines : List Line
  pub is : s ≡ lines_laid lines
  pub laid : LaidLines sheet_form lines
  pub held : sheet_of lines ≡ r

pub read_lines : (s : List ℕ) (r : Sheet) → read_sheet s ≡ accepted r → SheetLines s r
unfolding read_sheet sheet_lines
read_lines s r e =
    let q = then_passed (require (leb (length s) 4_096) 17 0) (sheet_lines s) e in
    let b = bind_passed (read_from 1 sheet_form s) (λ ls. accepted (sheet_of ls)) q.1 in
    let t = read_lines_laid (suc (length s)) 1 sheet_form s b.0 b.1 in
    record {
      short = leb-true (length s) 4_096 (require_passed (leb (length s) 4_096) 17 0 q.0);
      lines = b.0;
      is = t.0;
      laid = t.1;
      held = one_value b.2;
    }

-- as many heights as weights: one of each a line
pub read_same : (s : List ℕ) (r : Sheet) → read_sheet s ≡ accepted r → length r.levels.heights ≡ length r.levels.weights
read_same s r e =
    subst (λ (x : Sheet). length x.levels.heights ≡ length x.levels.weights) (read_lines s r e).held (simp length-map)

-- ---- a line of one layout, by its numbers one by one
numbers_back : (ns : List ℕ) (k : ℕ) → length ns ≡ k → cells (λ i. get_or ns i 0) k ≡ ns
numbers_back ns k e =
    ext_get_or 0 (cells (λ i. get_or ns i 0) k) ns (cells_length (λ i. get_or ns i 0) k ∙ sym e)
    (λ i h. cells_at (λ i. get_or ns i 0) k i (rw (cells_length (λ i. get_or ns i 0) k) at h))

module _ (k : Layout) (l : Line) (e : layout_of l ≡ k) where
  line_back : record { word = k.word; numbers = cells (λ i. get_or l.numbers i 0) k.numbers } ≡ l
  line_back =
      λ i. record {
        word = ap (λ (j : Layout). j.word) (sym e) i;
        numbers = numbers_back l.numbers k.numbers (ap (λ (j : Layout). j.numbers) e) i;
      }

  short_back : AllShort l.numbers → AllShort (cells (λ i. get_or l.numbers i 0) k.numbers)
  short_back t = subst (λ (x : Line). AllShort x.numbers) (sym line_back) t

only_layout : {k : Layout} {l : Line} → LaidLine (k ∷ []) l → layout_of l ≡ k
only_layout t = Memᴰ.eq_of_singleton t.layout

-- ---- line 1, by the layout that it has
module _ (l : Line) where
  known : (g : GroundValues) {l' : Line} → ground_of l ≡ g → GroundLine g l' → l' ≡ l → GroundLine (ground_of l) l
  known g same holds back = subst (λ (x : GroundValues). GroundLine x l) (sym same) (subst (GroundLine g) back holds)

  with_one_pair : layout_of l ≡ one_pair_layout → GroundLine (ground_of l) l
  unfolding cells starts
  with_one_pair e =
      let v = site_values (pair_twice l.numbers) in
      known (Site v) (rw (ap (λ (k : Layout). k.word) e, ap (λ (k : Layout). k.numbers) e)) (one_pair v refl refl)
      (line_back one_pair_layout l e)

  with_two_pairs : layout_of l ≡ two_pairs_layout → GroundLine (ground_of l) l
  unfolding cells starts
  with_two_pairs e =
      let v = site_values l.numbers in
      known (Site v) (rw (ap (λ (k : Layout). k.word) e, ap (λ (k : Layout). k.numbers) e)) (two_pairs v) (line_back two_pairs_layout l e)

  in_basin_lem : layout_of l ≡ basin_layout → GroundLine (ground_of l) l
  unfolding cells starts
  in_basin_lem e =
      let z = get_or l.numbers 0 0 in
      known (Basin z) (rw (ap (λ (k : Layout). k.word) e)) (zone z) (line_back basin_layout l e)

  ground_back : LaidLine (first_of sheet_form) l → GroundLine (ground_of l) l
  ground_back t =
      ⊎_elim with_one_pair
      (λ m. ⊎_elim with_two_pairs (λ m'. in_basin_lem (Memᴰ.eq_of_singleton m')) (Memᴰ.cases_cons m))
      (Memᴰ.cases_cons t.layout)

-- ---- the level lines
record LevelsBack (ls : List Line) : Type 0 where
  pub lines : level_lines_of (levels_of ls).weights (levels_of ls).heights ≡ ls
  pub weights : AllShort (levels_of ls).weights
  pub heights : AllShort (levels_of ls).heights

levels_back : (ls : List Line) → LaidLines level_form ls → LevelsBack ls
unfolding cells
levels_back [] t = record { lines = refl; weights = tt; heights = tt }
levels_back (l ∷ ls) t =
    let e = only_layout t.0 in
    let two = short_back level_layout l e t.0.short in
    let later = levels_back ls t.1 in
    record {
      lines = ap₂ (λ (x : Line) (xs : List Line). x ∷ xs) (line_back level_layout l e) later.lines;
      weights = (two.0, later.weights);
      heights = (two.1.0, later.heights);
    }

-- ---- all lines
pub lines_back : (ls : List Line) → LaidLines sheet_form ls
    → GroundLine (sheet_of ls).ground (line_at ls 0) × (lines_laid ls ≡ sheet_laid (line_at ls 0) (sheet_of ls))
unfolding sheet_laid cells
lines_back [] t = absurd (differ (sym t))
lines_back (a ∷ []) t = absurd (differ (sym t.1))
lines_back (a ∷ b ∷ ls) t =
    let later = levels_back ls t.1.1 in
    let same : lines_of a (sheet_of (a ∷ b ∷ ls)) ≡ a ∷ b ∷ ls =
    λ i. a ∷ line_back frame_layout b (only_layout t.1.0) i ∷ later.lines i in
    (ground_back a t.0, ap lines_laid (sym same))

sheet_back : (ls : List Line) → LaidLines sheet_form ls → length (lines_laid ls) ≤ 4_096 → Laid (line_at ls 0) (sheet_of ls)
unfolding cells
sheet_back [] t fits = absurd (differ (sym t))
sheet_back (a ∷ []) t fits = absurd (differ (sym t.1))
sheet_back (a ∷ b ∷ ls) t fits =
    let later = levels_back ls t.1.1 in
    let back = lines_back (a ∷ b ∷ ls) t in
    record {
      first = back.0;
      ground = t.0.short;
      frame = short_back frame_layout b (only_layout t.1.0) t.1.0.short;
      weights = later.weights;
      heights = later.heights;
      same = simp length-map;
      fits = subst (λ (z : List ℕ). length z ≤ 4_096) back.1 fits;
    }

-- a sheet that is read was laid out: no other is read
pub read_laid : (s : List ℕ) (r : Sheet) → read_sheet s ≡ accepted r → (l : Line) × ((s ≡ sheet_laid l r) × Laid l r)
read_laid s r e =
    let l = read_lines s r e in
    let b = sheet_back l.lines l.laid (subst (λ (x : List ℕ). length x ≤ 4_096) l.is l.short) in
    let first = line_at l.lines 0 in
    let back = l.is ∙ (lines_back l.lines l.laid).1 in
    (first, subst (λ (x : Sheet). (s ≡ sheet_laid first x) × Laid first x) l.held (back, b))
