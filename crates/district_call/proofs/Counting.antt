-- How many of a list a test takes: what is left from the i-th on, how many there can be, of two lists that are joined, and tests of which each takes what the others
-- leave.
-- Assumes nothing.
use mathlib.Core.Path.{◌≡◌, refl, ap, ◌∙◌}
use mathlib.Core.Bool.{Bool, true, false}
use mathlib.Core.List.{List, [], ◌∷◌, ◌++◌, map}
use Prim.Native.Nat.{ℕ, ◌+◌, ◌≤◌, ◌<◌}
use native.Mathlib.Numerals.{add-one}
use native.Mathlib.Omega.{arith}
use lib.ListN.{length, get_or, drop, drop_of_length-le, length-map}
use lib.Seq.{drop-cons}
use Rattle.whole.specs.Cells.{cells, sum}
use Rattle.whole.proofs.Cells.{cells_by_place}
use Rattle.district_call.specs.Report.{one_if, how_many}
use Rattle.district_call.proofs.Rows.{map_at}

pub one_at_most : (t : Bool) → one_if t ≤ 1
one_at_most true = omega arith
one_at_most false = omega arith

module _ {A : Type 0} (d : A) (t : A → Bool) where
  pub many_step : (l : List A) (i : ℕ) → i < length l → how_many t (drop i l) ≡ one_if (t (get_or l i d)) + how_many t (drop (i + 1) l)
  unfolding how_many
  many_step l i h = rw (add-one i, drop-cons l i d h)

module _ {A : Type 0} (t : A → Bool) where
  pub many_end : (l : List A) (i : ℕ) → length l ≤ i → how_many t (drop i l) ≡ 0
  unfolding how_many
  many_end l i h = rw (drop_of_length-le l h)

  pub many_most : (l : List A) → how_many t l ≤ length l
  unfolding how_many
  many_most [] = omega arith
  many_most (a ∷ l) = omega (arith, many_most l, one_at_most (t a))

  pub many_join : (l m : List A) → how_many t (l ++ m) ≡ how_many t l + how_many t m
  unfolding how_many
  many_join [] m = omega arith
  many_join (a ∷ l) m = omega (arith, many_join l m)

-- ---- tests that part a list: where each element is taken by as many of them as r takes it, their counts add up
module _ {A : Type 0} (r s t : A → Bool) where
  pub two_part : (l : List A) → ((a : A) → one_if (s a) + one_if (t a) ≡ one_if (r a)) → how_many s l + how_many t l ≡ how_many r l
  unfolding how_many
  two_part [] h = refl
  two_part (a ∷ l) h = omega (arith, two_part l h, h a)

  pub three_part : (u : A → Bool) (l : List A) → ((a : A) → one_if (s a) + one_if (t a) + one_if (u a) ≡ one_if (r a))
      → how_many s l + how_many t l + how_many u l ≡ how_many r l
  unfolding how_many
  three_part u [] h = refl
  three_part u (a ∷ l) h = omega (arith, three_part u l h, h a)

-- ---- counts over a list that is made element by element
pub many_map : {A B : Type 0} (f : A → B) (t : B → Bool) (s : A → Bool) → ((a : A) → t (f a) ≡ s a) → (l : List A)
    → how_many t (map f l) ≡ how_many s l
unfolding how_many
many_map f t s h [] = refl
many_map f t s h (a ∷ l) = rw (h a) (omega (arith, many_map f t s h l))

pub sum_map : {A : Type 0} (f g : A → ℕ) → ((a : A) → f a ≡ g a) → (l : List A) → sum (map f l) ≡ sum (map g l)
unfolding sum
sum_map f g h [] = refl
sum_map f g h (a ∷ l) = omega (arith, h a, sum_map f g h l)

pub map_map : {A B C : Type 0} (g : B → C) (f : A → B) (l : List A) → map g (map f l) ≡ map (λ a. g (f a)) l
map_map g f [] = refl
map_map {C = C} g f (a ∷ l) = ap (λ (r : List C). g (f a) ∷ r) (map_map g f l)

-- ---- how many of the places below n a test takes, and a list's count by its places
abbrev pub places_that : (ℕ → Bool) → ℕ → ℕ
places_that t n = sum (cells (λ i. one_if (t i)) n)

many_sum : {A : Type 0} (t : A → Bool) (l : List A) → how_many t l ≡ sum (map (λ a. one_if (t a)) l)
unfolding how_many sum
many_sum t [] = refl
many_sum t (a ∷ l) = omega (arith, many_sum t l)

pub many_places : {A : Type 0} (t : A → Bool) (s : ℕ → Bool) (d : A) (l : List A) → ((i : ℕ) → i < length l → t (get_or l i d) ≡ s i)
    → how_many t l ≡ places_that s (length l)
many_places t s d l h =
    many_sum t l
    ∙ ap sum (cells_by_place (λ i. one_if (s i)) (map (λ a. one_if (t a)) l) (length l) (length-map l (λ a. one_if (t a)))
    (λ i k. map_at (λ a. one_if (t a)) d 0 l i k ∙ ap one_if (h i k)))
