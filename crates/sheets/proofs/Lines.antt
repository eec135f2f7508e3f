-- The lines of a district: a row as the code writes it, and how long they are.
-- Assumes nothing.
use mathlib.Core.Path.{◌≡◌, refl, ap, ◌∙◌}
use mathlib.Core.List.{List, [], ◌∷◌}
use Prim.Native.Nat.{ℕ, ◌+◌, ◌*◌, ◌≤◌}
use native.Mathlib.Omega.{arith}
use lib.ListN.{length, get_or}
use Rattle.limits.specs.Outcome.{Outcome, accepted, refused}
use Rattle.text.specs.Bytes.{bytes}
use Rattle.text.specs.Writing.{laid_out}
use Rattle.text.proofs.Fields.{line_most}
use Rattle.district_call.specs.declared.report.Totals.{Totals}
use Rattle.district_call.specs.declared.weighed.Weighed.{Weighed}
use Rattle.district_call.specs.Row.{row_of}
use Rattle.sheets.specs.Listing.{row_line, totals_line, cell_line}

-- ---- a row has seven numbers
abbrev seven : List ℕ → List ℕ
seven l = get_or l 0 0 ∷ get_or l 1 0 ∷ get_or l 2 0 ∷ get_or l 3 0 ∷ get_or l 4 0 ∷ get_or l 5 0 ∷ get_or l 6 0 ∷ []

all_seven : (o : Outcome Weighed) → seven (row_of o) ≡ row_of o
unfolding row_of
all_seven (accepted w) = refl
all_seven (refused n p) = refl

pub row_is : (i : ℕ) (o : Outcome Weighed) (l : List ℕ) → l ≡ row_of o → laid_out (bytes "row") (i ∷ seven l) ≡ row_line i o
unfolding row_line
row_is i o l e = ap (λ (ns : List ℕ). laid_out (bytes "row") (i ∷ ns)) (ap seven e ∙ all_seven o)

-- ---- how long, with 20 digits a number
pub row_most : (i : ℕ) (o : Outcome Weighed) → length (row_line i o) ≤ 172
unfolding row_line row_of
row_most i (accepted w) = line_most (bytes "row") (i ∷ row_of (accepted w))
row_most i (refused n p) = line_most (bytes "row") (i ∷ row_of (refused n p))

pub totals_most : (t : Totals) → length (totals_line t) ≤ 133
unfolding totals_line
totals_most t = line_most (bytes "report") (t.accepted ∷ t.refused ∷ t.sum ∷ t.v ∷ t.vm ∷ t.star ∷ [])

pub cell_most : (k c : ℕ) → length (cell_line k c) ≤ 68
unfolding cell_line
cell_most k c = omega (arith, line_most (bytes "cell") (10 * k ∷ (10 * k + 9) ∷ c ∷ []))
