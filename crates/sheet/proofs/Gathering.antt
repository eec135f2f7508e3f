-- Level lines read one by one: those before, and what is left of the sheet.
--   joined before o    the outcome o, its lines above those before
-- Assumes nothing.
use mathlib.Core.Path.{◌≡◌, refl, sym, ap, ◌∙◌}
use mathlib.Core.Bool.{true, false}
use mathlib.Core.List.{List, [], ◌∷◌, ◌++◌, append_assoc, append-nil, map}
use Prim.Native.Nat.{ℕ, ◌+◌, ◌≤◌, ◌<◌, min}
use native.Mathlib.Nat.{add_assoc}
use native.Mathlib.Omega.{arith}
use lib.ListN.{length, get_or, set, length-append, length-drop, length-map, length-take}
use lib.Seq.{set_out}
use Rattle.std.specs.Prelude.{Ok, Err}
use Rattle.limits.specs.Outcome.{Outcome, accepted, refused, zeros, ◌>>=◌}
use Rattle.text.specs.Bytes.{bytes}
use Rattle.text.specs.Line.{line}
use Rattle.text.specs.Reading.{otherwise}
use Rattle.text.proofs.Readings.{Went}
use Rattle.text.proofs.Stored.{kept_length, kept_more}
use Rattle.text.proofs.Takes.{line_takes}
use Rattle.sheet.proofs.Fitting.{line_fits}
use Rattle.sheet.proofs.LaidRead.{level_worded}
use Rattle.sheet.proofs.Lines.{read_end, read_stop, read_on}
use Rattle.sheet.specs.Layouts.{Line, ended}
use Rattle.sheet.specs.Lines.{line_in, read_from}
use Rattle.sheet.specs.Reading.{level_lines, kept_most, cells_of, levels_read}
use Rattle.sheet.specs.Sheet.{level_form, level_layout}

abbrev joined : List Line → Outcome (List Line) → Outcome (List Line)
joined before o = o >>= λ ls. accepted (before ++ ls)

joined_none : (o : Outcome (List Line)) → joined [] o ≡ o
joined_none (accepted ls) = refl
joined_none (refused n p) = refl

joined_one : (before : List Line) (l : Line) (o : Outcome (List Line))
    → joined before (o >>= λ ls. accepted (l ∷ ls)) ≡ joined (before ++ (l ∷ [])) o
joined_one before l (accepted ls) = ap accepted (sym (append_assoc before (l ∷ []) ls))
joined_one before l (refused n p) = refl

-- the i-th number of each line
abbrev column : ℕ → List Line → List ℕ
column i ls = map (λ l. get_or l.numbers i 0) ls

column_more : (i : ℕ) (ls : List Line) (l : Line) → column i (ls ++ (l ∷ [])) ≡ column i ls ++ (get_or l.numbers i 0 ∷ [])
column_more i [] l = refl
column_more i (k ∷ ls) l = ap (λ (ns : List ℕ). get_or k.numbers i 0 ∷ ns) (column_more i ls l)

abbrev level_line : List ℕ → Line
level_line ns = record { word = bytes "level"; numbers = ns }

-- ---- after n lines, t is left: the cells keep the first levels, and the whole is those before and what is left
pub record Gathered (s weights heights : List ℕ) (n : ℕ) (t : List ℕ) : Type 0 where
  pub before : List Line
  pub count : length before ≡ n
  pub cells : (weights ≡ cells_of (column 0 before)) × (heights ≡ cells_of (column 1 before))
  pub few : n + length t ≤ length s
  pub whole : read_from 3 level_form s ≡ joined before (read_from (3 + n) level_form t)

pub gathered_none : (s : List ℕ) → Gathered s (zeros kept_most) (zeros kept_most) 0 s
gathered_none s =
    record {
      before = [];
      count = refl;
      cells = (refl, refl);
      few = omega arith;
      whole = sym (joined_none (read_from 3 level_form s));
    }

module _ {s weights heights : List ℕ} {n : ℕ} {t : List ℕ} (g : Gathered s weights heights n t) where
  pub gathered_size : (length weights ≡ kept_most) × (length heights ≡ kept_most)
  gathered_size = (
    ap length g.cells.0 ∙ kept_length (zeros kept_most) (column 0 g.before),
    ap length g.cells.1 ∙ kept_length (zeros kept_most) (column 1 g.before),
  )

  pub gathered_all : {k : ℕ} → length t ≡ 0 → k ≡ min kept_most n
      → Ok (record { weights = weights; heights = heights; count = k }) ≡ levels_read (level_lines s)
  unfolding level_lines levels_read
  gathered_all {k} h e =
      rw (
        g.whole ∙ ap (joined g.before) (read_end (3 + n) level_form t (empty t h)),
        append-nil g.before,
        ← g.cells.0,
        ← g.cells.1,
        length-take kept_most (column 0 g.before) ∙ ap (min kept_most) (length-map g.before _ ∙ g.count) ∙ sym e,
      )
    where
      empty : (t : List ℕ) → length t ≡ 0 → ended level_form t ≡ true
      empty [] h = refl
      empty (b ∷ t) h = absurd (let z : ⊥ = omega arith in z)

  module _ (h : 0 < length t) where
    left_some : ended level_form t ≡ false
    left_some = go t h
      where
        go : (t : List ℕ) → 0 < length t → ended level_form t ≡ false
        go [] h = absurd (let z : ⊥ = omega arith in z)
        go (b ∷ t) h = refl

    pub gathered_stop : line (bytes "level") 2 t ≡ otherwise → levels_read (level_lines s) ≡ Err (record { number = 16; place = 3 + n })
    unfolding level_lines line_in levels_read
    gathered_stop o = simp (g.whole ∙ ap (joined g.before) (read_stop (3 + n) level_form t 16 (3 + n) left_some (simp o)))

    module _ {ns u : List ℕ} (w : Went t u (line (bytes "level") 2 t) ns) where
      -- a line takes a byte
      pub gathered_less : length u < length t
      gathered_less = omega (arith, ap length w.to, length-drop w.used t, line_takes (bytes "level") 2 t ns w.used w.is)

      stored : (i : ℕ) (held : List ℕ) → held ≡ cells_of (column i g.before)
          → set held n (get_or ns i 0) ≡ cells_of (column i (g.before ++ (level_line ns ∷ [])))
      stored i held e =
          let c : length (column i g.before) ≡ n = length-map g.before (λ l. get_or l.numbers i 0) ∙ g.count in
          rw (← c, e, column_more i g.before (level_line ns)) (sym (kept_more (zeros kept_most) (column i g.before) (get_or ns i 0)))

      pub gathered_more : Gathered s (set weights n (get_or ns 0 0)) (set heights n (get_or ns 1 0)) (n + 1) u
      unfolding line_in
      gathered_more =
          record {
            before = g.before ++ (level_line ns ∷ []);
            count = length-append g.before (level_line ns ∷ []) ∙ omega (arith, g.count);
            cells = (stored 0 weights g.cells.0, stored 1 heights g.cells.1);
            few = omega (arith, g.few, gathered_less);
            whole =
                g.whole
                ∙ ap (joined g.before)
                (read_on (3 + n) level_form t (record { line = level_line ns; rest = u }) level_worded
                (line_fits (3 + n) level_layout [] t w))
                ∙ joined_one g.before (level_line ns) (read_from (3 + n + 1) level_form u)
                ∙ ap (λ (m : ℕ). joined (g.before ++ (level_line ns ∷ [])) (read_from m level_form u)) (add_assoc 3 n 1);
          }

      -- past the last cell nothing is stored
      pub gathered_past : kept_most ≤ n → Gathered s weights heights (n + 1) u
      gathered_past h =
          let size = gathered_size in
          rw (
            set_out weights n (get_or ns 0 0) (omega arith),
            set_out heights n (get_or ns 1 0) (omega arith),
          ) at gathered_more
