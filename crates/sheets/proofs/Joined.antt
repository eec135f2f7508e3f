-- A file of one sheet without an empty line has that sheet; and sheets joined by empty lines come apart again.
-- Assumes nothing.
use mathlib.Core.Path.{◌≡◌, refl, sym, ap, ◌∙◌}
use mathlib.Core.Bool.{Bool, true, false, ◌&&◌, not}
use mathlib.Core.List.{List, [], ◌∷◌, ◌++◌}
use Prim.Native.Nat.{ℕ, ◌<◌}
use lib.ListN.{length}
use Rattle.text.proofs.Digital.{both}
use Rattle.sheets.proofs.Parts.{filled_more, filled_last, no_sheet}
use Rattle.sheets.specs.Joined.{no_empty_line, closed, joined, AllSound}
use Rattle.sheets.specs.Split.{is_lf, before, parts, filled, sheets_in}

-- a test that does not hold
denied : (a : Bool) → not a ≡ true → a ≡ false
denied true e = sym e
denied false e = refl

-- ---- bytes without an empty line are one part
one_part : (fresh : Bool) (s : List ℕ) → no_empty_line fresh s ≡ true → parts fresh s ≡ s ∷ []
unfolding no_empty_line parts
one_part fresh [] e = refl
one_part fresh (b ∷ s) e =
    let u = both (not (fresh && is_lf b)) (no_empty_line (is_lf b) s) e in
    simp (denied (fresh && is_lf b) u.0) (ap (before b) (one_part (is_lf b) s u.1))

pub one_sheet : (s : List ℕ) → 0 < length s → no_empty_line true s ≡ true → sheets_in s ≡ s ∷ []
unfolding sheets_in
one_sheet s h e = ap filled (one_part true s e) ∙ filled_last s h

-- ---- an empty line after them ends the part
part_ends : (fresh : Bool) (s rest : List ℕ) → no_empty_line fresh s ≡ true → closed fresh s ≡ true
    → parts fresh (s ++ (10 ∷ rest)) ≡ s ∷ parts true rest
unfolding no_empty_line closed parts
part_ends fresh [] rest e c = simp c
part_ends fresh (b ∷ s) rest e c =
    let u = both (not (fresh && is_lf b)) (no_empty_line (is_lf b) s) e in
    simp (denied (fresh && is_lf b) u.0) (ap (before b) (part_ends (is_lf b) s rest u.1 c))

pub sheet_then : (s rest : List ℕ) → no_empty_line true s ≡ true → closed true s ≡ true → sheets_in (s ++ (10 ∷ rest)) ≡ s ∷ sheets_in rest
unfolding sheets_in
sheet_then s rest e c = ap filled (part_ends true s rest e c) ∙ filled_more s rest

pub come_apart : (ss : List (List ℕ)) → AllSound ss → sheets_in (joined ss) ≡ ss
unfolding joined
come_apart [] h = no_sheet
come_apart (s ∷ []) h = one_sheet s h.0.some h.0.whole
come_apart (s ∷ t ∷ ss) h =
    sheet_then s (joined (t ∷ ss)) h.0.whole h.0.ended ∙ ap (λ (ps : List (List ℕ)). s ∷ ps) (come_apart (t ∷ ss) h.1)
