-- What a row is answered once its stretch is judged: 21 where that is outside the store, else what the job on it is.
-- Assumes nothing.
use mathlib.Core.Path.{◌≡◌, refl, sym, subst}
use mathlib.Core.Bool.{Bool, true, false}
use mathlib.Core.List.{List, [], ◌∷◌, map}
use Prim.Native.Nat.{ℕ, zero, suc, ◌+◌, ◌≤◌, ◌<◌}
use native.Mathlib.Nat.{le_of_suc-le-suc, not-suc-le-zero}
use lib.Dec.{leb}
use lib.ListN.{length, get_or}
use borrow.Author.Tests.{leb-true}
use Rattle.limits.specs.District.{stretch, judged_stretch}
use Rattle.limits.specs.Outcome.{Outcome, accepted, refused, require}
use Rattle.limits.proofs.Passed.{never}
use Rattle.district_call.specs.declared.weighed.Weighed.{Weighed}
use Rattle.district_call.specs.Entered.{Entered}
use Rattle.district_call.specs.Row.{answer_to}
use Rattle.district_call.specs.Tally.{Sorted}
use Rattle.district_call.specs.Weighed.{weighed_job}
use Rattle.district_call.proofs.WeighedJobs.{weighed_sorted}

-- a stretch that passes is inside the store
pub stretch_inside : (store start count : ℕ) → judged_stretch store start count ≡ accepted tt → start + count ≤ store
unfolding judged_stretch
stretch_inside store start count e = go (leb (start + count) store) refl e
  where
    go : (t : Bool) → leb (start + count) store ≡ t → require t 21 0 ≡ accepted tt → start + count ≤ store
    go true l h = leb-true _ _ l
    go false l h = absurd (never h)

pub stretch_fits : (store start count : ℕ) → accepted tt ≡ judged_stretch store start count → start + count ≤ store
stretch_fits store start count e = stretch_inside store start count (sym e)

module _ (ws hs : List ℕ) (e : Entered) where
  pub row_outside : {n p : ℕ} → judged_stretch (length ws) e.start e.count ≡ refused n p → answer_to ws hs e ≡ refused n p
  unfolding answer_to
  row_outside j = simp j

  pub row_inside : judged_stretch (length ws) e.start e.count ≡ accepted tt
      → answer_to ws hs e ≡ weighed_job e.ground e.frame (stretch e.start e.count ws) (stretch e.start e.count hs)
  unfolding answer_to
  row_inside j = simp j

  -- so every accepted row has a cell
  pub row_sorted : Sorted (answer_to ws hs e)
  row_sorted = go (judged_stretch (length ws) e.start e.count) refl
    where
      go : (o : Outcome (Unit {0})) → judged_stretch (length ws) e.start e.count ≡ o → Sorted (answer_to ws hs e)
      go (accepted u) j =
          subst (λ (o : Outcome Weighed). Sorted o) (sym (row_inside j))
          (weighed_sorted e.ground e.frame (stretch e.start e.count ws) (stretch e.start e.count hs))
      go (refused n p) j = subst (λ (o : Outcome Weighed). Sorted o) (sym (row_outside j)) tt

-- what stands at a place of a list that is made element by element, whatever stands past its end
pub map_at : {A B : Type 0} (f : A → B) (a : A) (b : B) (l : List A) (i : ℕ) → i < length l → get_or (map f l) i b ≡ f (get_or l i a)
map_at f a b [] i h = absurd (not-suc-le-zero h)
map_at f a b (x ∷ l) zero h = refl
map_at f a b (x ∷ l) (suc i) h = map_at f a b l i (le_of_suc-le-suc h)
