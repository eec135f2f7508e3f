-- The parts of a file between its empty lines: how far the first of them goes, and what is left after it.
-- Assumes nothing.
use mathlib.Core.Path.{◌≡◌, refl, sym, ap, ap₂, ◌∙◌}
use mathlib.Core.Bool.{Bool, true, false, ◌&&◌}
use mathlib.Core.List.{List, [], ◌∷◌}
use Prim.Native.Nat.{ℕ, zero, suc, ◌+◌, ◌-◌, ◌≤◌, ◌<◌, min}
use native.Mathlib.Numerals.{add-one}
use native.Mathlib.Omega.{arith}
use lib.Dec.{leb}
use lib.ListN.{length, get_or, take, drop, length-drop, drop_of_length-le}
use lib.Seq.{drop-cons, length-take-le, take_all}
use borrow.Author.Tests.{leb-true, leb-false}
use Rattle.whole.proofs.Choice.{by_leb}
use Rattle.text.proofs.Digital.{both}
use Rattle.sheets.specs.Split.{is_lf, before, parts, filled, sheets_in, first_in}

-- ---- the first part, byte by byte
first_before : (b : ℕ) (ps : List (List ℕ)) → get_or (before b ps) 0 [] ≡ b ∷ get_or ps 0 []
first_before b [] = refl
first_before b (p ∷ ps) = refl

module _ (s : List ℕ) (at : ℕ) (fresh : Bool) where
  pub first_past : length s ≤ at → length (first_in fresh (drop at s)) ≡ 0
  unfolding parts
  first_past h = rw (drop_of_length-le s {i = at} h)

  pub first_ends : at < length s → fresh ≡ true → is_lf (get_or s at 0) ≡ true → length (first_in fresh (drop at s)) ≡ 0
  unfolding parts
  first_ends h f e = rw (drop-cons s at 0 h) (simp (f, e))

  pub first_goes : at < length s → (fresh && is_lf (get_or s at 0)) ≡ false
      → length (first_in fresh (drop at s)) ≡ suc (length (first_in (is_lf (get_or s at 0)) (drop (at + 1) s)))
  unfolding parts
  first_goes h e =
      rw (add-one at, drop-cons s at 0 h)
      (simp e (ap length (first_before (get_or s at 0) (parts (is_lf (get_or s at 0)) (drop (suc at) s)))))

-- ---- the parts are the first and those after it
-- what is left after n bytes: the parts after an empty line, where there is one
abbrev left : List ℕ → List (List ℕ)
left [] = []
left (b ∷ s) = parts true s

record Apart (fresh : Bool) (s : List ℕ) : Type 0 where
  size : ℕ
  fits : size ≤ length s
  is : parts fresh s ≡ take size s ∷ left (drop size s)

apart : (fresh : Bool) (s : List ℕ) → Apart fresh s
unfolding parts
apart fresh [] = record { size = 0; fits = omega arith; is = refl }
apart fresh (b ∷ s) = go (fresh && is_lf b) refl (apart (is_lf b) s)
  where
    go : (t : Bool) → (fresh && is_lf b) ≡ t → Apart (is_lf b) s → Apart fresh (b ∷ s)
    go true e r =
        let lf = both fresh (is_lf b) e in
        record { size = 0; fits = omega arith; is = simp (lf.0, lf.1) }
    go false e r = record { size = suc r.size; fits = omega (arith, r.fits); is = simp e (ap (before b) r.is) }

-- the first part is the first bytes
first_is : (fresh : Bool) (s : List ℕ) → take (apart fresh s).size s ≡ first_in fresh s
first_is fresh s = sym (ap (λ (ps : List (List ℕ)). get_or ps 0 []) (apart fresh s).is)

first_size : (fresh : Bool) (s : List ℕ) → (apart fresh s).size ≡ length (first_in fresh s)
first_size fresh s = let r = apart fresh s in sym (length-take-le r.size s r.fits) ∙ ap length (first_is fresh s)

-- ---- the sheets are the first part and those after it
pub filled_more : (p s : List ℕ) → filled (p ∷ parts true s) ≡ p ∷ sheets_in s
unfolding filled sheets_in
filled_more p s = let r = apart true s in rw r.is

pub filled_last : (p : List ℕ) → 0 < length p → filled (p ∷ []) ≡ p ∷ []
unfolding filled
filled_last [] h = absurd (let z : ⊥ = omega arith in z)
filled_last (b ∷ p) h = refl

pub no_sheet : sheets_in [] ≡ []
unfolding sheets_in parts filled
no_sheet = refl

sheets_first : (s : List ℕ) → 0 < length s → sheets_in s ≡ first_in true s ∷ sheets_in (drop (suc (length (first_in true s))) s)
unfolding sheets_in
sheets_first s h =
    let r = apart true s in
    go r (leb (length s) r.size) refl ∙ ap₂ (λ (p : List ℕ) (k : ℕ). p ∷ sheets_in (drop (suc k) s)) (first_is true s) (first_size true s)
  where
    go : (r : Apart true s) (t : Bool) → leb (length s) r.size ≡ t → sheets_in s ≡ take r.size s ∷ sheets_in (drop (suc r.size) s)
    go r true e =
        let all = leb-true _ _ e in
        ap filled r.is
        ∙ rw (drop_of_length-le s {i = r.size} all, drop_of_length-le s {i = suc r.size} (omega arith), take_all r.size s all)
        (filled_last s h ∙ ap (λ (ps : List (List ℕ)). s ∷ ps) (sym no_sheet))
    go r false e =
        ap filled r.is
        ∙ rw (drop-cons s r.size 0 (leb-false _ _ e)) (filled_more (take r.size s) (drop (suc r.size) s))

-- no file has more sheets than bytes
pub sheets_most : (s : List ℕ) → length (sheets_in s) ≤ length s
sheets_most s = go (length s) s (omega arith)
  where
    go : (n : ℕ) (s : List ℕ) → length s ≤ n → length (sheets_in s) ≤ length s
    go n [] h = rw no_sheet (omega arith)
    go zero (b ∷ s) h = absurd (let z : ⊥ = omega arith in z)
    go (suc n) (b ∷ s) h =
        let k = length (first_in true (b ∷ s)) in
        let rest : length (drop (suc k) (b ∷ s)) ≤ length s = simp length-drop (omega arith) in
        rw (sheets_first (b ∷ s) (omega arith)) (omega (arith, go n (drop (suc k) (b ∷ s)) (omega arith)))

-- ---- as the code goes through a file
first_most : (s : List ℕ) → length (first_in true s) ≤ length s
first_most s = omega (arith, first_size true s, (apart true s).fits)

pub sheets_none : (s : List ℕ) → length s ≡ 0 → sheets_in s ≡ []
sheets_none [] e = no_sheet
sheets_none (b ∷ s) e = absurd (let z : ⊥ = omega arith in z)

module _ (s : List ℕ) {n : ℕ} (is : n ≡ length (first_in true s)) where
  pub first_fits : n ≤ length s
  first_fits = omega (arith, first_most s)

  -- the first sheet, and the sheets of what is left after the empty line
  pub sheets_next : 0 < length s → {m : ℕ} → m ≡ min (length s) (n + 1)
      → sheets_in s ≡ take n s ∷ sheets_in (take (length s - m) (drop m s))
  sheets_next h {m} e =
      let whole : take (length s - m) (drop m s) ≡ drop m s = take_all (length s - m) (drop m s) (simp length-drop (omega arith)) in
      let next : suc (length (first_in true s)) ≡ n + 1 = omega arith in
      rw (whole, past) (sheets_first s h ∙ ap₂ (λ (p : List ℕ) (k : ℕ). p ∷ sheets_in (drop k s)) (sym here) next)
    where
      here : take n s ≡ first_in true s
      here = rw (is, ← first_size true s) (first_is true s)

      past : drop m s ≡ drop (n + 1) s
      past =
          by_leb (λ (_ : Bool). drop m s ≡ drop (n + 1) s) (length s) (n + 1) true false
          (λ h. rw (drop_of_length-le s {i = m} (omega arith), drop_of_length-le s {i = n + 1} h))
          (λ h. ap (λ (k : ℕ). drop k s) (omega arith))
