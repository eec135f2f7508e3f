-- A word at the front of bytes: they begin with it where the first of them, as many as it has, are its own.
-- Assumes nothing.
use mathlib.Core.Path.{◌≡◌, refl, sym, ap₂, ◌∙◌}
use mathlib.Core.Bool.{Bool, true, false, ◌&&◌}
use mathlib.Core.List.{List, [], ◌∷◌, ◌++◌}
use Prim.Native.Nat.{ℕ, ◌+◌}
use lib.Dec.{eqb}
use lib.ListN.{length, take, drop}
use denote.Ref.{Bor}
use borrow.Author.Tests.{eq-eqb, ne_eqb, eqb-true, eqb-false}
use Rattle.std.specs.Cmp.Lexicographic.{pointwise}
use Rattle.std.specs.Prelude.{Option, Some, None, MatchOption}
use Rattle.text.specs.Reading.{starts, word, left, reads, rest}

-- a word that stands there is found
pub starts_join : (w l : List ℕ) → starts w (w ++ l) ≡ true
unfolding starts
starts_join [] l = refl
starts_join (a ∷ w) l = simp (eq-eqb a a refl, starts_join w l)

-- the test of `strip_prefix`
turned : (a b : ℕ) → eqb b a ≡ eqb a b
turned a b = go (eqb a b) refl
  where
    go : (t : Bool) → eqb a b ≡ t → eqb b a ≡ t
    go true e = eq-eqb b a (sym (eqb-true a b e))
    go false e = ne_eqb b a (λ s. eqb-false a b e (sym s))

pub starts_is : (w l : List ℕ) → pointwise eqb (take (length w) l) w ≡ starts w l
unfolding starts
starts_is [] l = refl
starts_is (a ∷ w) [] = refl
starts_is (a ∷ w) (b ∷ l) = ap₂ (λ (x y : Bool). x && y) (turned a b) (starts_is w l)

pub word_stripped : (w l : List ℕ) (r : Option (Bor (List ℕ)))
    → MatchOption r (pointwise eqb (take (length w) l) w ≡ false)
    (λ x. (pointwise eqb (take (length w) l) w ≡ true) × (x.now ≡ drop (length w) l) × (length x.now + length w ≡ length l))
    → rest r ≡ reads (word w) l
unfolding word left
word_stripped w l None e = simp (sym (starts_is w l) ∙ e)
word_stripped w l (Some b) e = simp (sym (starts_is w l) ∙ e.0, e.1)
