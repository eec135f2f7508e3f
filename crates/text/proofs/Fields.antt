-- The fields of a line: one more and all of them, and how long they are.
-- Assumes nothing.
use mathlib.Core.Path.{◌≡◌, sym, ap, ◌∙◌}
use mathlib.Core.List.{List, [], ◌∷◌, ◌++◌, append_assoc, append-nil}
use Prim.Native.Nat.{ℕ, zero, suc, ◌+◌, ◌*◌, ◌≤◌, ◌<◌}
use native.Mathlib.Nat.{not-suc-le-zero, le_of_suc-le-suc}
use native.Mathlib.Numerals.{add-one}
use native.Mathlib.Omega.{arith}
use lib.ListN.{length, get_or, take, length-append}
use lib.Seq.{take-suc}
use Rattle.text.proofs.Decimal.{decimal_most}
use Rattle.text.specs.declared.writing.Writer.{Writer}
use Rattle.text.specs.Line.{lf}
use Rattle.text.specs.Writing.{field_of, fields_of, laid_out, Room}

fields_join : (l : List ℕ) (n : ℕ) → fields_of (l ++ (n ∷ [])) ≡ fields_of l ++ field_of n
unfolding fields_of
fields_join [] n = append-nil (field_of n)
fields_join (a ∷ l) n =
    ap (λ (z : List ℕ). field_of a ++ z) (fields_join l n) ∙ sym (append_assoc (field_of a) (fields_of l) (field_of n))

pub fields_next : (ns : List ℕ) (i : ℕ) → i < length ns
    → fields_of (take (i + 1) ns) ≡ fields_of (take i ns) ++ field_of (get_or ns i 0)
fields_next ns i h = rw (add-one i, take-suc ns i 0 h) (fields_join (take i ns) (get_or ns i 0))

-- there is room for the next where there is for all
next_fits : (ns : List ℕ) (i : ℕ) → i < length ns
    → length (fields_of (take i ns)) + length (field_of (get_or ns i 0)) ≤ length (fields_of ns)
unfolding fields_of
next_fits [] i h = absurd (not-suc-le-zero h)
next_fits (n ∷ ns) zero h = simp length-append (omega arith)
next_fits (n ∷ ns) (suc i) h = simp length-append (omega (arith, next_fits ns i (le_of_suc-le-suc h)))

pub fields_room : {w : Writer} (ns : List ℕ) (i : ℕ) → i < length ns → Room w (fields_of ns)
    → Room w (fields_of (take i ns) ++ field_of (get_or ns i 0))
fields_room ns i h room =
    record { fits = omega (arith, room, next_fits ns i h, length-append (fields_of (take i ns)) (field_of (get_or ns i 0))) }

fields_most : (ns : List ℕ) → length (fields_of ns) ≤ 21 * length ns
unfolding fields_of field_of
fields_most [] = omega arith
fields_most (n ∷ ns) = simp length-append (omega (arith, fields_most ns, decimal_most n))

pub line_length : (w ns : List ℕ) → length (laid_out w ns) ≡ length w + length (fields_of ns) + 1
unfolding laid_out
line_length w ns = simp length-append (omega arith)

pub line_parts : (w ns : List ℕ) → laid_out w ns ≡ (w ++ fields_of ns) ++ lf
unfolding laid_out
line_parts w ns = sym (append_assoc w (fields_of ns) lf)

pub line_most : (w ns : List ℕ) → length (laid_out w ns) ≤ length w + 21 * length ns + 1
line_most w ns = omega (arith, line_length w ns, fields_most ns)
