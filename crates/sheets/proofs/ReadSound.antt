-- A sheet that is read has a byte and no empty line, and its last line ends with LF. So sheets that are read, joined by empty lines, come apart again: a
-- row of the file for each of them.
--   NoLf l          no byte of l is LF
--   Same f a g b    bytes a, at the start of a line where f says so, have an empty line, and end at the start of one, just where b after g do
-- Assumes nothing.
use mathlib.Core.Path.{◌≡◌, refl, sym, ap, subst, ◌∙◌}
use mathlib.Core.Bool.{Bool, true, false}
use mathlib.Core.List.Memᴰ
use mathlib.Core.List.{List, [], ◌∷◌, ◌++◌, append_assoc, append-nil, Memᴰ}
use mathlib.Core.Logic.{⊎_elim}
use Prim.Native.Nat.{ℕ, ◌+◌, ◌^◌, ◌<◌}
use native.Mathlib.Nat.{lt_of_le_of_lt}
use native.Mathlib.Omega.{arith}
use lib.Dec.{lit<}
use lib.ListN.{length, length-append}
use borrow.Author.Tests.{ne_eqb}
use Rattle.limits.specs.Outcome.{accepted}
use Rattle.limits.proofs.Passed.{differ}
use Rattle.text.specs.Line.{lf}
use Rattle.text.specs.Number.{digits}
use Rattle.text.specs.Writing.{digits_of, decimal, field_of, fields_of, laid_out, Short, AllShort}
use Rattle.text.proofs.Digital.{Digital, digits_digital}
use Rattle.text.proofs.Fields.{line_length}
use Rattle.text.proofs.Printed.{printed_digits}
use Rattle.sheet.specs.Layouts.{Layout, Line, layout_of, first_of, past, line_laid, lines_laid, LaidLine, LaidLines}
use Rattle.sheet.specs.Reading.{read_sheet}
use Rattle.sheet.specs.Sheet.{sheet_form, level_form, one_pair_layout, two_pairs_layout, basin_layout, frame_layout, level_layout, Sheet}
use Rattle.sheet.proofs.ReadLaid.{read_lines}
use Rattle.sheets.proofs.Joined.{come_apart}
use Rattle.sheets.specs.Joined.{no_empty_line, closed, joined, Sound, AllSound}
use Rattle.sheets.specs.Split.{is_lf, sheets_in}

-- ---- no byte of a word or of a field is LF
abbrev NoLf : List ℕ → Type 0
NoLf [] = Unit {0}
NoLf (b ∷ l) = (is_lf b ≡ false) × NoLf l

no_lf_join : (a b : List ℕ) → NoLf a → NoLf b → NoLf (a ++ b)
no_lf_join [] b p q = q
no_lf_join (x ∷ a) b p q = (p.0, no_lf_join a b p.1 q)

digital_no_lf : (l : List ℕ) → Digital l → NoLf l
digital_no_lf [] d = tt
digital_no_lf (b ∷ l) d = (ne_eqb b 10 (λ e. let z : ⊥ = omega (arith, d.0) in z), digital_no_lf l d.2)

decimal_no_lf : (n : ℕ) → Short n → NoLf (decimal n)
unfolding decimal digits
decimal_no_lf n s =
    let fits : n < 10 ^ (19 + 1) = lt_of_le_of_lt s (lit< tt) in
    digital_no_lf (digits_of 19 n)
    (subst Digital (printed_digits 19 n fits [] ∙ append-nil (digits_of 19 n)) (digits_digital (digits_of 19 n ++ [])))

fields_no_lf : (ns : List ℕ) → AllShort ns → NoLf (fields_of ns)
unfolding fields_of field_of
fields_no_lf [] s = tt
fields_no_lf (n ∷ ns) s = (refl, no_lf_join (decimal n) (fields_of ns) (decimal_no_lf n s.0) (fields_no_lf ns s.1))

-- ---- in a line, and past its end
record Same (f : Bool) (a : List ℕ) (g : Bool) (b : List ℕ) : Type 0 where
  line : no_empty_line f a ≡ no_empty_line g b
  end : closed f a ≡ closed g b

same_then : {f g h : Bool} {a b c : List ℕ} → Same f a g b → Same g b h c → Same f a h c
same_then p q = record { line = p.line ∙ q.line; end = p.end ∙ q.end }

on : (l x : List ℕ) → NoLf l → Same false (l ++ x) false x
unfolding no_empty_line closed
on [] x h = record { line = refl; end = refl }
on (b ∷ l) x h = let r = on l x h.1 in record { line = simp h.0 r.line; end = ap (λ (t : Bool). closed t (l ++ x)) h.0 ∙ r.end }

-- a line whose word has a byte
abbrev Word : List ℕ → Type 0
Word [] = ⊥
Word (b ∷ w) = NoLf (b ∷ w)

over : (w ns x : List ℕ) → Word w → AllShort ns → Same true (laid_out w ns ++ x) true x
unfolding laid_out no_empty_line closed
over [] ns x h s = absurd h
over (b ∷ w) ns x h s =
    let r = same_then (on w (fields_of ns ++ (10 ∷ x)) h.1) (on (fields_of ns) (10 ∷ x) (fields_no_lf ns s)) in
    let rest = w ++ (fields_of ns ++ (10 ∷ x)) in
    let is : (w ++ (fields_of ns ++ lf)) ++ x ≡ rest = simp append_assoc in
    record {
      line = ap (λ (y : List ℕ). no_empty_line true (b ∷ y)) is ∙ simp h.0 r.line;
      end = ap (λ (y : List ℕ). closed true (b ∷ y)) is ∙ ap (λ (t : Bool). closed t rest) h.0 ∙ r.end;
    }

-- ---- the words of a sheet's lines
abbrev Words : List Layout → Type 0
Words ks = (k : Layout) → Memᴰ k ks → Word k.word

no_more : Words []
no_more k m = absurd (Memᴰ.not-nil m)

and_more : (k : Layout) {ks : List Layout} → Word k.word → Words ks → Words (k ∷ ks)
and_more k u w j m = ⊎_elim (λ e. subst (λ (i : Layout). Word i.word) (sym e) u) (w j) (Memᴰ.cases_cons m)

line_over : {ks : List Layout} (l : Line) (x : List ℕ) → Words ks → LaidLine ks l → Same true (line_laid l ++ x) true x
line_over l x w t = over l.word l.numbers x (w (layout_of l) t.layout) t.short

of_level : Words (first_of level_form)
of_level = and_more level_layout (refl, (refl, (refl, (refl, (refl, tt))))) no_more

of_frame : Words (first_of (past sheet_form))
of_frame = and_more frame_layout (refl, (refl, (refl, (refl, (refl, tt))))) no_more

of_ground : Words (first_of sheet_form)
of_ground =
    and_more one_pair_layout (refl, (refl, (refl, (refl, tt))))
    (and_more two_pairs_layout (refl, (refl, (refl, (refl, tt)))) (and_more basin_layout (refl, (refl, (refl, (refl, (refl, tt))))) no_more))

levels_over : (ls : List Line) → LaidLines level_form ls → Same true (lines_laid ls) true []
levels_over [] t = record { line = refl; end = refl }
levels_over (l ∷ ls) t = same_then (line_over l (lines_laid ls) of_level t.0) (levels_over ls t.1)

sheet_over : (ls : List Line) → LaidLines sheet_form ls → Same true (lines_laid ls) true [] × (0 < length (lines_laid ls))
sheet_over [] t = absurd (differ (sym t))
sheet_over (l ∷ []) t = absurd (differ (sym t.1))
sheet_over (l ∷ k ∷ ls) t = (
  same_then (line_over l (lines_laid (k ∷ ls)) of_ground t.0)
      (same_then (line_over k (lines_laid ls) of_frame t.1.0) (levels_over ls t.1.1)),
  omega (arith, length-append (line_laid l) (lines_laid (k ∷ ls)), line_length l.word l.numbers),
)

pub read_sound : (s : List ℕ) (r : Sheet) → read_sheet s ≡ accepted r → Sound s
unfolding no_empty_line closed
read_sound s r e =
    let l = read_lines s r e in
    let o = sheet_over l.lines l.laid in
    rw l.is (record { some = o.1; whole = o.0.line; ended = o.0.end })

-- ---- sheets that are read
abbrev pub AllRead : List (List ℕ) → Type 0
AllRead [] = Unit {0}
AllRead (s ∷ ss) = ((r : Sheet) × (read_sheet s ≡ accepted r)) × AllRead ss

pub read_apart : (ss : List (List ℕ)) → AllRead ss → sheets_in (joined ss) ≡ ss
read_apart ss h = come_apart ss (all_sound ss h)
  where
    all_sound : (ss : List (List ℕ)) → AllRead ss → AllSound ss
    all_sound [] h = tt
    all_sound (s ∷ ss) h = (read_sound s h.0.0 h.0.1, all_sound ss h.1)
