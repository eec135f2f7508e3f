-- A buffer that is written from a place on.
-- Assumes nothing.
use mathlib.Core.Path.{◌≡◌, sym, ap, ap₂, ◌∙◌}
use mathlib.Core.List.{List, [], ◌∷◌, ◌++◌, append_assoc}
use Prim.Native.Nat.{ℕ, suc, ◌+◌, ◌≤◌, ◌<◌}
use native.Mathlib.Nat.{add-zero, add_assoc}
use native.Mathlib.Numerals.{add-one}
use native.Mathlib.Omega.{arith}
use lib.ListN.{length, set, take, drop, length-append, length-drop, length-set, take-append-drop}
use borrow.Rule.Slice.PartMut.{put_mid}
use lib.Seq.{length-take-le, take_at, drop_at, drop-cons, drop-drop, set_split, get_or-set_same, take-set-le, drop-set-lt}
use Rattle.text.specs.declared.writing.Writer.{Writer}
use Rattle.text.specs.Writing.{spliced, Room, Writes}

spliced_length : (old : List ℕ) (at : ℕ) (new : List ℕ) → at + length new ≤ length old → length (spliced old at new) ≡ length old
unfolding spliced
spliced_length old at new h = simp (length-append, length-drop, length-take-le at old (omega arith)) (omega arith)

spliced_none : (old : List ℕ) (at : ℕ) → spliced old at [] ≡ old
unfolding spliced
spliced_none old at = rw (add-zero at) (take-append-drop at old)

-- one run after another is the two as one
spliced_spliced : (old : List ℕ) (at : ℕ) (a b : List ℕ) → at + length a + length b ≤ length old
    → spliced (spliced old at a) (at + length a) b ≡ spliced old at (a ++ b)
unfolding spliced
spliced_spliced old at a b h =
    let n : length (take at old ++ a) ≡ at + length a = length-append (take at old) a
    ∙ ap (λ (k : ℕ). k + length a) (length-take-le at old (omega arith)) in
    let e₁ : take (at + length a) ((take at old ++ a) ++ drop (at + length a) old) ≡ take at old ++ a = take_at
    (take at old ++ a) (drop (at + length a) old) (at + length a) n in
    let e₂ : drop (at + length a) ((take at old ++ a) ++ drop (at + length a) old) ≡ drop (at + length a) old = drop_at
    (take at old ++ a) (drop (at + length a) old) (at + length a) n in
    rw (
      ← append_assoc (take at old) a (drop (at + length a) old),
      ← drop-drop (length b) (at + length a)
          ((take at old ++ a) ++ drop (at + length a) old),
      e₁,
      e₂,
    )
    (simp (drop-drop, length-append, append_assoc, add_assoc))

pub spliced_one : (old : List ℕ) (at v : ℕ) → at < length old → set old at v ≡ spliced old at (v ∷ [])
unfolding spliced
spliced_one old at v h = rw (add-one at) (set_split old at v h)

-- the last byte of a run may come before the others
pub spliced_last : (old : List ℕ) (at : ℕ) (a : List ℕ) (v : ℕ) → at + length a < length old
    → spliced (set old (at + length a) v) at a ≡ spliced old at (a ++ (v ∷ []))
unfolding spliced
spliced_last old at a v h =
    let p = at + length a in
    let room : p < length (set old p v) = omega (arith, length-set old p v) in
    let tail : drop p (set old p v) ≡ v ∷ drop (suc p) old = drop-cons (set old p v) p 0 room
    ∙ ap₂ (λ (x : ℕ) (l : List ℕ). x ∷ l) (get_or-set_same old p v 0 h) (drop-set-lt (suc p) old p v (omega arith)) in
    let next : suc p ≡ at + length (a ++ (v ∷ [])) = omega (arith, length-append a (v ∷ [])) in
    ap₂ (λ (l m : List ℕ). l ++ (a ++ m)) (take-set-le at old p v (omega arith)) tail
    ∙ ap (λ (k : ℕ). take at old ++ (a ++ (v ∷ drop k old))) next
    ∙ ap (λ (l : List ℕ). take at old ++ l) (sym (append_assoc a (v ∷ []) (drop (at + length (a ++ (v ∷ []))) old)))

-- ---- what a writer wrote: nothing; one run after the other, where there is room for both
pub writes_none : (w : Writer) → Writes w [] w
writes_none w = record { at_after = sym (add-zero w.at); out_after = sym (spliced_none w.out.now w.at) }

pub room_first : {w : Writer} (a b : List ℕ) → Room w (a ++ b) → Room w a
room_first a b room = record { fits = omega (arith, room, length-append a b) }

module _ {w w' : Writer} {a b : List ℕ} (wrote : Writes w a w') (room : Room w (a ++ b)) where
  pub writes_room : Room w' b
  writes_room =
      let both = length-append a b in
      let size : length w'.out.now ≡ length w.out.now = ap length wrote.out_after ∙ spliced_length w.out.now w.at a (omega (arith, room)) in
      record { fits = omega (arith, room, wrote.at_after) }

  pub writes_more : {x : Writer} → Writes w' b x → Writes w (a ++ b) x
  writes_more more =
      record {
        at_after = more.at_after ∙ rw (length-append a b, wrote.at_after) (add_assoc w.at (length a) (length b));
        out_after =
            more.out_after
            ∙ rw (wrote.out_after, wrote.at_after)
            (spliced_spliced w.out.now w.at a b (omega (arith, room, length-append a b)));
      }

-- what a run that is written over the bytes from `at` on leaves
pub spliced_over : (old : List ℕ) (at k : ℕ) (new written : List ℕ) → written ≡ new → k ≡ length new
    → put_mid at k old written ≡ spliced old at new
unfolding spliced
spliced_over old at k new written e f = rw (e, f) (ap (λ (l : List ℕ). take at old ++ (new ++ l)) (drop-drop (length new) at old))
