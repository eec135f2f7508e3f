-- A number by its digits.
-- Assumes nothing.
use mathlib.Core.Path.{◌≡◌, refl, sym, ap, ◌∙◌}
use mathlib.Core.Bool.{Bool, true, false}
use mathlib.Core.List.{List, [], ◌∷◌}
use Prim.Native.Nat.{ℕ, suc, ◌≤◌, ◌<◌}
use native.Mathlib.Nat.{add-zero, not-suc-le-zero}
use native.Mathlib.Omega.{arith}
use lib.Dec.{leb}
use lib.ListN.{length, get_or, take, drop}
use lib.Seq.{take_all, length-take-le, get_or-drop}
use borrow.Author.Tests.{le-leb, lt-leb, leb-true, leb-false}
use Rattle.whole.proofs.Choice.{by_test}
use Rattle.limits.specs.Ranges.{in_range}
use Rattle.text.specs.declared.number.Digits.{Digits}
use Rattle.text.specs.Number.{digits, value, counted, leading_zero, well_made, number}
use Rattle.text.specs.Reading.{found, otherwise}

module _ (l : List ℕ) where
  number_none : length (digits l) < 1 → number l ≡ otherwise
  unfolding number well_made in_range
  number_none h = simp (lt-leb _ _ h)

  pub number_many : 9 < length (digits l) → number l ≡ otherwise
  unfolding number well_made in_range
  number_many h = simp (le-leb 1 (length (digits l)) (omega arith), lt-leb _ _ h)

  module _ (some : 1 ≤ length (digits l)) (few : length (digits l) ≤ 9) where
    number_led : leading_zero (length (digits l)) (get_or (digits l) 0 0) ≡ true → number l ≡ otherwise
    unfolding number well_made in_range
    number_led e = simp (le-leb _ _ some, le-leb _ _ few, e)

    pub number_found : leading_zero (length (digits l)) (get_or (digits l) 0 0) ≡ false
        → number l ≡ found (value (digits l)) (length (digits l))
    unfolding number well_made in_range
    number_found e = simp (le-leb _ _ some, le-leb _ _ few, e)

-- ---- ten digits tell as much as all of them
module _ (ds : List ℕ) where
  ten_many : 9 < length (take 10 ds) → 9 < length ds
  ten_many h = go (leb 10 (length ds)) refl
    where
      go : (t : Bool) → leb 10 (length ds) ≡ t → 9 < length ds
      go true e = leb-true 10 (length ds) e
      go false e =
          let s : length ds ≤ 10 = omega (arith, leb-false 10 (length ds) e) in
          rw (take_all 10 ds s) at h

  ten_all : length (take 10 ds) ≤ 9 → take 10 ds ≡ ds
  ten_all h = go (leb 10 (length ds)) refl
    where
      go : (t : Bool) → leb 10 (length ds) ≡ t → take 10 ds ≡ ds
      go true e = absurd (let b : ⊥ = omega (arith, length-take-le 10 ds (leb-true 10 (length ds) e)) in b)
      go false e = take_all 10 ds (omega (arith, leb-false 10 (length ds) e))

-- ---- the digits stand at the front of the bytes
digits_short : (l : List ℕ) → length (digits l) ≤ length l
unfolding digits
digits_short [] = omega arith
digits_short (b ∷ l) =
    by_test (λ (ds : List ℕ). length ds ≤ suc (length l)) (in_range 48 57 b) (b ∷ digits l) []
    (λ _. omega (arith, digits_short l)) (λ _. omega arith)

digits_first : (l : List ℕ) → 1 ≤ length (digits l) → get_or (digits l) 0 0 ≡ get_or l 0 0
unfolding digits
digits_first [] h = refl
digits_first (b ∷ l) h =
    by_test (λ (ds : List ℕ). 1 ≤ length ds → get_or ds 0 0 ≡ b) (in_range 48 57 b) (b ∷ digits l) []
    (λ _ _. refl) (λ _ n. absurd (not-suc-le-zero n)) h

-- ---- what the code counts, ten digits at the most, and the number at the front of the bytes
module _ (l : List ℕ) (d : Digits) (e : d ≡ counted (take 10 (digits l))) where
  count_is : d.count ≡ length (take 10 (digits l))
  count_is = ap (λ (x : Digits). x.count) e

  pub count_none : d.count < 1 → number l ≡ otherwise
  count_none h =
      let same = ten_all (digits l) (omega (arith, count_is)) in
      number_none l (omega (arith, count_is, ap length same))

  pub count_many : 9 < d.count → number l ≡ otherwise
  count_many h = number_many l (ten_many (digits l) (omega (arith, count_is)))

  module _ (some : 1 ≤ d.count) (few : d.count ≤ 9) where
    all : d ≡ counted (digits l)
    all = e ∙ ap counted (ten_all (digits l) (omega (arith, count_is)))

    is_all : d.count ≡ length (digits l)
    is_all = ap (λ (x : Digits). x.count) all

    pub count_short : d.count ≤ length l
    count_short = omega (arith, is_all, digits_short l)

    module _ (b : ℕ) (first : b ≡ get_or l 0 0) where
      tests : leading_zero (length (digits l)) (get_or (digits l) 0 0) ≡ leading_zero d.count b
      tests = rw (digits_first l (omega (arith, is_all)), ← is_all, first)

      pub count_led : leading_zero d.count b ≡ true → number l ≡ otherwise
      count_led z = number_led l (omega (arith, is_all)) (omega (arith, is_all)) (tests ∙ z)

      pub count_found : leading_zero d.count b ≡ false → number l ≡ found d.value d.count
      count_found z =
          number_found l (omega (arith, is_all)) (omega (arith, is_all)) (tests ∙ z)
          ∙ ap (λ (x : Digits). found x.value x.count) (sym all)

pub head_at : (l : List ℕ) (i : ℕ) → get_or (drop i l) 0 0 ≡ get_or l i 0
head_at l i = get_or-drop i l 0 0 ∙ ap (λ (k : ℕ). get_or l k 0) (add-zero i)
