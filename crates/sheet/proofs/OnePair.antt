-- A sheet whose site line has seven numbers, one pair of near-fault factors for both hazard levels: where it is accepted, or both have at most 4,096
-- bytes, it gets what the sheet of nine numbers with the pair repeated gets, byte for byte; and 6 at place 1 or 2, never at 3 or 4.
--   site_sheet ns x    the line `site` with the numbers ns, and the bytes x after it
-- Assumes nothing.
use mathlib.Core.Path.{◌≡◌, refl, sym, ap, subst, ◌∙◌}
use mathlib.Core.List.Memᴰ
use mathlib.Core.List.{List, [], ◌∷◌, ◌++◌}
use mathlib.Core.Logic.{⊎_elim}
use Prim.Native.Nat.{ℕ, zero, suc, ◌≤◌}
use native.Mathlib.Omega.{arith}
use lib.ListN.{length, get_or}
use Rattle.limits.specs.declared.ground.GroundValues.{GroundValues}
use Rattle.limits.specs.declared.ground.GroundValues.TheVariants.{Site}
use Rattle.limits.specs.declared.judging.Given.{Given}
use Rattle.limits.specs.Applies.{OutOf}
use Rattle.limits.specs.Judging.{judged_job}
use Rattle.limits.specs.Outcome.{Outcome, accepted, refused, ◌>>=◌}
use Rattle.limits.proofs.Foremost.{one_pair_lowest, na_lowest}
use Rattle.limits.proofs.Passed.{one_value, bind_passed, only}
use Rattle.job.specs.Job.{Results, results_of, job_of}
use Rattle.text.specs.Reading.{starts}
use Rattle.text.specs.Writing.{Short, AllShort}
use Rattle.sheet.proofs.Allowed.{judged_sheet, allowed_laid}
use Rattle.sheet.proofs.LaidRead.{sheet_lines_lem, sheet_worded}
use Rattle.sheet.proofs.Lines.{read_on, read_lines_laid}
use Rattle.sheet.proofs.OneLine.{standing_line}
use Rattle.sheet.proofs.Otherwise.{read_refused}
use Rattle.sheet.proofs.ReadLaid.{read_lines, lines_back}
use Rattle.sheet.proofs.Refused.{bind_refused}
use Rattle.sheet.specs.Laid.{site_line}
use Rattle.sheet.specs.Layouts.{Layout, Line, layout_of, first_of, past, line_laid, LaidLine}
use Rattle.sheet.specs.Lines.{read_from}
use Rattle.sheet.specs.Listing.{listing, job_of_sheet, outcome_of, sheet_listing}
use Rattle.sheet.specs.Reading.{sheet_lines, read_sheet}
use Rattle.sheet.specs.Sheet.{one_pair_layout, sheet_form, site_values, pair_twice, ground_of, Sheet, sheet_of}

-- what the job of a sheet is refused for, its judgments refuse
judged : (r : Sheet) (n p : ℕ) → job_of_sheet r ≡ refused n p
    → judged_job r.ground r.frame r.levels.weights r.levels.heights (length r.levels.weights) ≡ refused n p
unfolding job_of
judged r n p e = only (judged_job _ _ _ _ _) (λ g. results_of g r.levels.weights r.levels.heights) e

-- ---- a sheet whose numbers a job accepts is no longer than a sheet may be
allowed_short : (s : List ℕ) (r : Sheet) (g : Given) → sheet_lines s ≡ accepted r
    → judged_sheet r ≡ accepted g → length s ≤ 4_096
unfolding sheet_lines
allowed_short s r g e j =
    let b = bind_passed (read_from 1 sheet_form s) (λ ls. accepted (sheet_of ls)) e in
    let t = read_lines_laid (suc (length s)) 1 sheet_form s b.0 b.1 in
    let back = lines_back b.0 t.1 in
    let held = subst (λ (x : Sheet). judged_sheet x ≡ accepted g) (sym (one_value b.2)) j in
    subst (λ (x : List ℕ). length x ≤ 4_096) (sym (t.0 ∙ back.1)) (allowed_laid _ (sheet_of b.0) _ g back.0 held).fits

-- ---- any number of a line of short numbers is short
at_short : (ns : List ℕ) (i : ℕ) → AllShort ns → Short (get_or ns i 0)
at_short [] i s = omega arith
at_short (n ∷ ns) zero s = s.0
at_short (n ∷ ns) (suc i) s = at_short ns i s.1

twice_short : (ns : List ℕ) → AllShort ns → AllShort (pair_twice ns)
twice_short ns s =
    let at : (i : ℕ) → Short (get_or ns i 0) = λ i. at_short ns i s in
    (at 0, (at 1, (at 2, (at 3, (at 4, (at 5, (at 4, (at 5, (at 6, tt)))))))))

abbrev pub site_sheet : List ℕ → List ℕ → List ℕ
site_sheet ns x = line_laid (site_line ns) ++ x

module _ (ns x : List ℕ) (one : LaidLine (one_pair_layout ∷ []) (site_line ns)) where
  seven : layout_of (site_line ns) ≡ one_pair_layout
  seven = Memᴰ.eq_of_singleton one.layout

  -- ---- what is read: line 1, and what the bytes after it hold
  abbrev after : Line → Outcome Sheet
  after l = read_from 2 (past sheet_form) x >>= λ ls. accepted (sheet_of (l ∷ ls))

  begun : (l : Line) → LaidLine (first_of sheet_form) l → sheet_lines (line_laid l ++ x) ≡ after l
  unfolding sheet_lines
  begun l t =
      let stands = standing_line 1 (first_of sheet_form) l x (sheet_worded 0) t in
      ap (λ (o : Outcome (List Line)). o >>= λ ls. accepted (sheet_of ls))
      (read_on 1 sheet_form (line_laid l ++ x) (record { line = l; rest = x }) sheet_worded stands)
      ∙ together (read_from 2 (past sheet_form) x)
    where
      together : (o : Outcome (List Line))
          → ((o >>= λ ls. accepted (l ∷ ls)) >>= λ ls. accepted (sheet_of ls)) ≡ (o >>= λ ls. accepted (sheet_of (l ∷ ls)))
      together (accepted ls) = refl
      together (refused n p) = refl

  seven_begun : sheet_lines (site_sheet ns x) ≡ after (site_line ns)
  seven_begun = begun (site_line ns) (record { layout = Memᴰ.head seven; short = one.short })

  nine_begun : sheet_lines (site_sheet (pair_twice ns) x) ≡ after (site_line (pair_twice ns))
  nine_begun =
      begun (site_line (pair_twice ns)) (record { layout = Memᴰ.tail (Memᴰ.head refl); short = twice_short ns one.short })

  -- line 1 holds the same
  seven_held : ground_of (site_line ns) ≡ Site (site_values (pair_twice ns))
  unfolding starts
  seven_held = rw (ap (λ (k : Layout). k.numbers) seven)

  nine_held : ground_of (site_line (pair_twice ns)) ≡ Site (site_values (pair_twice ns))
  unfolding starts
  nine_held = refl

  same_lines : sheet_lines (site_sheet (pair_twice ns) x) ≡ sheet_lines (site_sheet ns x)
  same_lines = nine_begun ∙ ap held (nine_held ∙ sym seven_held) ∙ sym seven_begun
    where
      held : GroundValues → Outcome Sheet
      held g = do
        ls ← read_from 2 (past sheet_form) x
        accepted (record { ground = g; frame = (sheet_of (site_line ns ∷ ls)).frame; levels = (sheet_of (site_line ns ∷ ls)).levels })

  -- ---- so both have one outcome, where both have at most 4,096 bytes
  pub pair_repeated : length (site_sheet ns x) ≤ 4_096 → length (site_sheet (pair_twice ns) x) ≤ 4_096
      → outcome_of (site_sheet (pair_twice ns) x) ≡ outcome_of (site_sheet ns x)
  pair_repeated a b =
      ap (λ (o : Outcome Sheet). o >>= job_of_sheet)
      (sheet_lines_lem (site_sheet (pair_twice ns) x) b ∙ same_lines ∙ sym (sheet_lines_lem (site_sheet ns x) a))

  -- as both have where the sheet of seven is accepted
  module _ (o : Results) (e : outcome_of (site_sheet ns x) ≡ accepted o) where
    pub accepted_repeated : outcome_of (site_sheet (pair_twice ns) x) ≡ accepted o
    unfolding job_of
    accepted_repeated =
        let b = bind_passed (read_sheet (site_sheet ns x)) job_of_sheet e in
        let r = b.0 in
        let fits = (read_lines (site_sheet ns x) r b.1).short in
        let g = bind_passed (judged_job _ _ _ _ _) (λ y. accepted (results_of y r.levels.weights r.levels.heights)) b.2 in
        let lines = same_lines ∙ sym (sheet_lines_lem (site_sheet ns x) fits) ∙ b.1 in
        pair_repeated fits (allowed_short (site_sheet (pair_twice ns) x) r g.0 lines g.1) ∙ e

    pub listed_repeated : sheet_listing (site_sheet (pair_twice ns) x) ≡ sheet_listing (site_sheet ns x)
    unfolding sheet_listing
    listed_repeated = ap listing (accepted_repeated ∙ sym e)

  -- ---- a factor out of range is refused at the first pair's place
  on_line : (r : Sheet) → read_sheet (site_sheet ns x) ≡ accepted r → r.ground ≡ Site (site_values (pair_twice ns))
  on_line r e =
      let fits = (read_lines (site_sheet ns x) r e).short in
      let b =
      bind_passed (read_from 2 (past sheet_form) x) (λ ls. accepted (sheet_of (site_line ns ∷ ls)))
      (sym seven_begun ∙ sym (sheet_lines_lem (site_sheet ns x) fits) ∙ e) in
      ap (λ (y : Sheet). y.ground) (sym (one_value b.2)) ∙ seven_held

  module _ (p : ℕ) (e : outcome_of (site_sheet ns x) ≡ refused 6 p) where
    record Given6 : Type 0 where
      pub sheet : Sheet
      pub is : judged_job (Site (site_values (pair_twice ns))) sheet.frame sheet.levels.weights sheet.levels.heights
          (length sheet.levels.weights) ≡ refused 6 p

    given_6 : Given6
    given_6 =
        ⊎_elim
        (λ u. absurd (⊎_elim (λ h. let z : ⊥ = omega (arith, h.0) in z) (λ h. let z : ⊥ = omega (arith, h.1) in z) (read_refused _ 6 p u)))
        (λ u.
        let r = u.0 in
        record {
          sheet = r;
          is =
              subst
              (λ (g : GroundValues).
              judged_job g r.frame r.levels.weights r.levels.heights (length r.levels.weights) ≡ refused 6 p)
              (on_line r u.1) (judged r 6 p u.2);
        })
        (bind_refused (read_sheet (site_sheet ns x)) job_of_sheet e)

    pub places_1_2 : (1 ≤ p) × (p ≤ 2)
    places_1_2 = one_pair_lowest _ _ _ _ _ p given_6.is refl refl

    pub bad_na_first : OutOf 100 150 (get_or ns 4 0) → p ≡ 1
    bad_na_first o = na_lowest _ _ _ _ _ p given_6.is o
