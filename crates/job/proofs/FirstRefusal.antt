-- 'Bad data gets the first refusal number that applies, with its place'; 'data to which no refusal number applies is accepted': of the answers of `job`, of
-- `figures`, of the shear call and of the distribution. The one premise is the entry's contract.
-- Assumes nothing.
use Rattle.std.specs.Prelude.{Err}
use mathlib.Core.Path.{◌≡◌, refl, sym, subst}
use mathlib.Core.List.{List}
use mathlib.Core.Logic.{◌⊎◌}
use Prim.Native.Nat.{ℕ, ◌≤◌}
use lib.ListN.{length}
use Rattle.limits.specs.declared.frame.FrameValues.{FrameValues}
use Rattle.limits.specs.declared.ground.GroundValues.{GroundValues}
use Rattle.limits.specs.declared.ground.GroundValues.TheVariants.{Site, Basin}
use Rattle.limits.specs.declared.refusal.Refusal.{Refusal}
use Rattle.limits.specs.declared.site.SiteValues.{SiteValues}
use Rattle.limits.specs.Applies.{LevelsApply, BuildingApplies, JobApplies, ShearCallApplies, DistributionApplies}
use Rattle.limits.specs.FirstRefusal.{FirstRefusal}
use Rattle.limits.specs.Judging.{judged_job, judged_shear_call, judged_distribution}
use Rattle.limits.specs.Outcome.{outcome, Answer, Done}
use Rattle.limits.proofs.First.{first_of_value, first_then_value}
use Rattle.limits.proofs.Foremost as judged
use Rattle.limits.proofs.Numbers.{numbered_levels, numbered_building}
use Rattle.base_shear.specs.declared.Figures.{Figures}
use Rattle.job.specs.Distribution.{Buffers, columns_at, shortest, distribution_of, Distributed}
use Rattle.job.specs.Job.{Results, results_of, job_of, figures_only, Figured, Answers}
use Rattle.job.specs.ShearCall.{building_figures, shear_call_of, Sheared}

-- ---- a job, and its figures alone
module _ (G : GroundValues) (f : FrameValues) (ws hs : List ℕ) where
  pub results_first : (room : ℕ) → FirstRefusal (JobApplies G f ws hs room) (job_of G f ws hs room)
  unfolding job_of
  results_first room =
      first_of_value (JobApplies G f ws hs room) (judged_job G f ws hs room) (λ g. results_of g ws hs) (judged.job_first G f ws hs room)

  five_first : (room : ℕ) → FirstRefusal (JobApplies G f ws hs room) (figures_only (job_of G f ws hs room))
  five_first room =
      first_of_value (JobApplies G f ws hs room) (job_of G f ws hs room) (λ (r : Results). r.figures) (results_first room)

  pub job_first : (b : Buffers) (a : Answer Figures) (b' : Buffers) → Answers G f ws hs b a b'
      → FirstRefusal (JobApplies G f ws hs (shortest b)) (outcome a)
  job_first b a b' h = subst (FirstRefusal (JobApplies G f ws hs (shortest b))) (sym h.0) (five_first (shortest b))

  pub figures_first : (a : Answer Figures) → Figured G f ws hs a → FirstRefusal (JobApplies G f ws hs (length ws)) (outcome a)
  figures_first a h = subst (FirstRefusal (JobApplies G f ws hs (length ws))) (sym h) (five_first (length ws))

-- on a site this is 'the lowest number that applies'; in the Basin it is the lowest, or 18 before 8 to 12
pub lowest_number : (s : SiteValues) (f : FrameValues) (ws hs : List ℕ) (b : Buffers) (r : Refusal) (b' : Buffers)
    → Answers (Site s) f ws hs b (Err r) b' → (m q : ℕ) → JobApplies (Site s) f ws hs (shortest b) m q → r.number ≤ m
lowest_number s f ws hs b r b' a m q w =
    judged.lowest_number (LevelsApply ws hs (shortest b)) (λ n p. numbered_levels) f (outcome (Err r)) r.number r.place m q refl
    s (job_first (Site s) f ws hs b (Err r) b' a) w

pub lowest_in_basin : (z : ℕ) (f : FrameValues) (ws hs : List ℕ) (b : Buffers) (r : Refusal) (b' : Buffers)
    → Answers (Basin z) f ws hs b (Err r) b' → (m q : ℕ) → JobApplies (Basin z) f ws hs (shortest b) m q
    → (r.number ≤ m) ⊎ ((r.number ≡ 18) × (8 ≤ m))
lowest_in_basin z f ws hs b r b' a m q w =
    judged.lowest_in_basin (LevelsApply ws hs (shortest b)) (λ n p. numbered_levels) f (outcome (Err r)) r.number r.place m q refl
    z (job_first (Basin z) f ws hs b (Err r) b' a) w

-- ---- the shear call
pub shear_call_first : (G : GroundValues) (f : FrameValues) (W h : ℕ) (a : Answer Figures) → Sheared G f W h a
    → FirstRefusal (ShearCallApplies G f W h) (outcome a)
unfolding shear_call_of
shear_call_first G f W h a e =
    subst (FirstRefusal (ShearCallApplies G f W h)) (sym e)
    (first_of_value (ShearCallApplies G f W h) (judged_shear_call G f W h) (λ g. building_figures g W h) (judged.shear_call_first G f W h))

pub lowest_called : (s : SiteValues) (f : FrameValues) (W h : ℕ) (r : Refusal) → Sheared (Site s) f W h (Err r)
    → (m q : ℕ) → ShearCallApplies (Site s) f W h m q → r.number ≤ m
lowest_called s f W h r a m q w =
    judged.lowest_number (BuildingApplies W h) (λ n p. numbered_building) f (outcome (Err r)) r.number r.place m q refl
    s (shear_call_first (Site s) f W h (Err r) a) w

pub lowest_called_in_basin : (z : ℕ) (f : FrameValues) (W h : ℕ) (r : Refusal) → Sheared (Basin z) f W h (Err r)
    → (m q : ℕ) → ShearCallApplies (Basin z) f W h m q → (r.number ≤ m) ⊎ ((r.number ≡ 18) × (8 ≤ m))
lowest_called_in_basin z f W h r a m q w =
    judged.lowest_in_basin (BuildingApplies W h) (λ n p. numbered_building) f (outcome (Err r)) r.number r.place m q refl
    z (shear_call_first (Basin z) f W h (Err r) a) w

-- ---- the distribution
module _ (v T : ℕ) (ws hs : List ℕ) (b : Buffers) (b' : Buffers) where
  pub distribution_first : (a : Answer Done) → Distributed v T ws hs b a b' → FirstRefusal (DistributionApplies v T ws hs (shortest b)) (outcome a)
  unfolding distribution_of
  distribution_first a h =
      let A = DistributionApplies v T ws hs (shortest b) in
      subst (FirstRefusal A) (sym h.0)
      (first_of_value A (distribution_of v T ws hs (shortest b)) (λ _. tt)
      (first_then_value A (judged_distribution v T ws hs (shortest b)) (columns_at T v ws hs) (judged.distribution_first v T ws hs (shortest b))))

  pub lowest_distributed : (r : Refusal) → Distributed v T ws hs b (Err r) b' → (m q : ℕ)
      → DistributionApplies v T ws hs (shortest b) m q → r.number ≤ m
  lowest_distributed r a m q w =
      judged.lowest_distributed v T ws hs (shortest b) (outcome (Err r)) r.number r.place m q refl
      (distribution_first (Err r) a) w
