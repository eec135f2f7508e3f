-- A row of a district and a whole district are given the first refusal that applies: of a row 21 before all that its job can be refused with; 22 of the whole
-- call.
-- Assumes nothing.
use mathlib.Core.Path.{◌≡◌, refl}
use mathlib.Core.Bool.{Bool, true, false}
use mathlib.Core.List.{List}
use mathlib.Core.Logic.{inr, inl}
use Prim.Native.Nat.{ℕ, ◌+◌, ◌≤◌}
use native.Mathlib.Omega.{arith}
use lib.Dec.{leb, eqb}
use lib.ListN.{length}
use borrow.Author.Tests.{leb-true, leb-false, lt-leb, eqb-false, ne_eqb}
use Rattle.limits.specs.declared.frame.FrameValues.{FrameValues}
use Rattle.limits.specs.declared.ground.GroundValues.{GroundValues}
use Rattle.limits.specs.Applies.{LevelsApply, outside, RowLevelsApply, of_stretch, of_own_levels, RowApplies}
use Rattle.limits.specs.Applies.{DistrictApplies, jobs_many, store_lists, row_buffer}
use Rattle.limits.specs.District.{stretch, judged_stretch, judged_district}
use Rattle.limits.specs.FirstRefusal.{FirstRefusal}
use Rattle.limits.specs.Judging.{judged_given, judged_job, judged_row_levels, judged_row}
use Rattle.limits.specs.Levels.{judged_levels}
use Rattle.limits.specs.Outcome.{Outcome, accepted, refused, Done, require, ◌>>◌}
use Rattle.limits.proofs.Ascending.{stretch_first}
use Rattle.limits.proofs.First.{first_refusal}
use Rattle.limits.proofs.GivenStage.{given_first}
use Rattle.limits.proofs.LevelsStage.{levels_up_to, levels_stop}
use Rattle.limits.proofs.Numbers.{numbered_levels}
use Rattle.limits.proofs.Passed.{never}
use Rattle.limits.proofs.Precedence.{Stops, UpTo, both_up_to, require_up_to, first_stops, later_stops, require_yields, require_stops}
use Rattle.limits.proofs.Refusing.{levels_told}
use Rattle.limits.proofs.Told.{Told, then_told, require_told, told_as}

-- ---- a row: its levels, of a stretch of the store, are a first judgment before ground and frame
module _ (start count : ℕ) (ws hs : List ℕ) where
  abbrev F : ℕ → ℕ → Type 0
  F = RowLevelsApply start count ws hs

  abbrev W : List ℕ
  W = stretch start count ws

  abbrev H : List ℕ
  H = stretch start count hs

  row_up_to : UpTo 4 (judged_row_levels start count ws hs)
  unfolding judged_row_levels judged_stretch
  row_up_to =
      both_up_to 4 (require (leb (start + count) (length ws)) 21 0) _ (require_up_to 4 (leb (start + count) (length ws)) 21 0 (omega arith))
      (levels_up_to W H (length W))

  row_stops : (n q : ℕ) → F n q → Stops n q (judged_row_levels start count ws hs)
  unfolding judged_row_levels judged_stretch
  row_stops n q (of_stretch (outside o)) =
      first_stops 21 0 (require (leb (start + count) (length ws)) 21 0) _
      (require_stops 21 0 (leb (start + count) (length ws)) 21 0 (lt-leb _ _ o) (inr (refl, inl refl)))
  row_stops n q (of_own_levels l a) =
      let h = numbered_levels a in
      later_stops n q (require (leb (start + count) (length ws)) 21 0) _
      (require_yields n q (leb (start + count) (length ws)) 21 0 (inl (stretch_first.0 n (omega arith))))
      (λ _. levels_stop W H (length W) n q a)

  row_told : Told F (judged_row_levels start count ws hs)
  unfolding judged_row_levels judged_stretch
  row_told =
      then_told F (require (leb (start + count) (length ws)) 21 0) _
      (require_told F (leb (start + count) (length ws)) 21 0 (λ e. of_stretch (outside (leb-false _ _ e))))
      (λ e. told_as (LevelsApply W H (length W)) F (λ n p. of_own_levels (passed (leb (start + count) (length ws)) refl e)) (judged_levels W H (length W))
      (levels_told W H (length W)))
    where
      passed : (t : Bool) → leb (start + count) (length ws) ≡ t → require t 21 0 ≡ accepted tt → start + count ≤ length ws
      passed true e r = leb-true _ _ e
      passed false e r = absurd (never r)

  pub row_first : (G : GroundValues) (f : FrameValues) → FirstRefusal (RowApplies G f start count ws hs) (judged_row G f start count ws hs)
  unfolding judged_row
  row_first G f = given_first F (judged_row_levels start count ws hs) row_up_to row_stops row_told G f

  -- which is the stretch, then the job on it
  pub row_judged : (G : GroundValues) (f : FrameValues)
      → judged_row G f start count ws hs ≡ (judged_stretch (length ws) start count >> judged_job G f W H (length W))
  unfolding judged_row judged_row_levels judged_job
  row_judged G f = go (judged_stretch (length ws) start count)
    where
      go : (o : Outcome Done) → judged_given (o >> judged_levels W H (length W)) G f ≡ (o >> judged_given (judged_levels W H (length W)) G f)
      go (accepted u) = refl
      go (refused n p) = refl

-- ---- the whole call
module _ (jobs weights heights rows : ℕ) where
  abbrev D : ℕ → ℕ → Type 0
  D = DistrictApplies jobs weights heights rows

  stops : (n q : ℕ) → D n q → Stops n q (judged_district jobs weights heights rows)
  unfolding judged_district
  stops n q (jobs_many o) =
      first_stops 22 0 (require (leb jobs 256) 22 0) _ (require_stops 22 0 (leb jobs 256) 22 0 (lt-leb _ _ o) (inr (refl, inl refl)))
  stops n q (store_lists o) =
      later_stops 22 0 (require (leb jobs 256) 22 0) _ (require_yields 22 0 (leb jobs 256) 22 0 (inr (refl, inl refl)))
      (λ _. first_stops 22 0 (require (eqb heights weights) 22 0) _
      (require_stops 22 0 (eqb heights weights) 22 0 (ne_eqb _ _ o) (inr (refl, inl refl))))
  stops n q (row_buffer o) =
      later_stops 22 0 (require (leb jobs 256) 22 0) _ (require_yields 22 0 (leb jobs 256) 22 0 (inr (refl, inl refl)))
      (λ _. later_stops 22 0 (require (eqb heights weights) 22 0) _ (require_yields 22 0 (eqb heights weights) 22 0 (inr (refl, inl refl)))
      (λ _. require_stops 22 0 (leb jobs rows) 22 0 (lt-leb _ _ o) (inr (refl, inl refl))))

  told : Told D (judged_district jobs weights heights rows)
  unfolding judged_district
  told =
      then_told D (require (leb jobs 256) 22 0) _ (require_told D (leb jobs 256) 22 0 (λ e. jobs_many (leb-false _ _ e)))
      (λ _. then_told D (require (eqb heights weights) 22 0) _
      (require_told D (eqb heights weights) 22 0 (λ e. store_lists (eqb-false _ _ e)))
      (λ _. require_told D (leb jobs rows) 22 0 (λ e. row_buffer (leb-false _ _ e))))

  pub district_first : FirstRefusal D (judged_district jobs weights heights rows)
  district_first = first_refusal D (judged_district jobs weights heights rows) stops told
