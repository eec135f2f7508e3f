-- The lines of a list, written one after the other, and how long they are.
--   Lined f from w all i l    the writer `from` is w behind the first of the lines `all`; those of the elements l, numbered upward from i, are left
-- Assumes nothing.
use mathlib.Core.Path.{◌≡◌, refl, sym, ap, ◌∙◌}
use mathlib.Core.List.{List, [], ◌∷◌, ◌++◌, append_assoc, append-nil}
use Prim.Native.Nat.{ℕ, ◌+◌, ◌*◌, ◌≤◌, ◌<◌}
use native.Mathlib.Numerals.{add-one}
use native.Mathlib.Omega.{arith}
use lib.ListN.{length, get_or, drop, length-append}
use lib.Seq.{drop-cons}
use Rattle.text.specs.declared.writing.Writer.{Writer}
use Rattle.text.specs.Writing.{Room, Writes}
use Rattle.text.proofs.Spliced.{room_first, writes_none, writes_room, writes_more}
use Rattle.sheets.specs.Numbered.{numbered}

-- what is left of a list begins with the next element
pub drop_next : (l : List ℕ) (k : ℕ) → k < length l → drop k l ≡ get_or l k 0 ∷ drop (k + 1) l
drop_next l k h = rw (add-one k) (drop-cons l k 0 h)

module _ {A : Type 0} (f : ℕ → A → List ℕ) where
  pub numbered_most : (most : ℕ) → ((i : ℕ) (a : A) → length (f i a) ≤ most) → (i : ℕ) (l : List A)
      → length (numbered f i l) ≤ most * length l
  unfolding numbered
  numbered_most most h i [] = omega arith
  numbered_most most h i (a ∷ l) = simp length-append (omega (arith, h i a, numbered_most most h (i + 1) l))

  pub record Lined (from w : Writer) (all : List ℕ) (i : ℕ) (l : List A) : Type 0 where
    pub done : List ℕ
    pub lines : Writes from done w
    pub whole : done ++ numbered f i l ≡ all

  pub lined_none : (from : Writer) (i : ℕ) (l : List A) → Lined from from (numbered f i l) i l
  lined_none from i l = record { done = []; lines = writes_none from; whole = refl }

  module _ {from w : Writer} {all : List ℕ} {i : ℕ} {l : List A} (d : Lined from w all i l) where
    pub lined_all : l ≡ [] → Writes from all w
    unfolding numbered
    lined_all e = rw (sym (append-nil d.done) ∙ rw e at d.whole) at d.lines

    module _ (room : Room from all) {a : A} {m : List A} (e : l ≡ a ∷ m) where
      next : numbered f i l ≡ f i a ++ numbered f (i + 1) m
      unfolding numbered
      next = rw e

      parted : Room from (d.done ++ (f i a ++ numbered f (i + 1) m))
      parted = rw (← next, d.whole) room

      pub lined_room : Room w (f i a)
      lined_room = room_first (f i a) (numbered f (i + 1) m) (writes_room d.lines parted)

      pub lined_more : {w' : Writer} → Writes w (f i a) w' → Lined from w' all (i + 1) m
      lined_more more =
          record {
            done = d.done ++ f i a;
            lines =
                writes_more d.lines
                (room_first (d.done ++ f i a) (numbered f (i + 1) m) (rw (append_assoc d.done (f i a) (numbered f (i + 1) m)) parted))
                more;
            whole =
                append_assoc d.done (f i a) (numbered f (i + 1) m) ∙ ap (λ (z : List ℕ). d.done ++ z) (sym next) ∙ d.whole;
          }
