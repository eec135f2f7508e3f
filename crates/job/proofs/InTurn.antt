-- A job is the shear call and the distribution in turn, the levels being judged first: of the definitions.
-- Assumes nothing.
use mathlib.Core.Path.{◌≡◌, refl, ◌∙◌}
use mathlib.Core.List.{List}
use Prim.Native.Nat.{ℕ}
use Rattle.whole.specs.Cells.{sum}
use Rattle.limits.specs.declared.frame.FrameValues.{FrameValues}
use Rattle.limits.specs.declared.ground.GroundValues.{GroundValues}
use Rattle.limits.specs.declared.judging.Given.{Given}
use Rattle.limits.specs.Judging.{judged_job, judged_shear_call}
use Rattle.limits.specs.Levels.{judged_levels, top_height}
use Rattle.limits.specs.Outcome.{Outcome, accepted, refused, Done}
use Rattle.limits.proofs.AcceptedCalls.{shear_call_allowed, judged_in_turn, judged_handed_lem}
use Rattle.limits.proofs.Passed.{then_passed}
use Rattle.job.specs.InTurn.{in_turn}
use Rattle.job.specs.Job.{job_of}
use Rattle.job.specs.ShearCall.{building_figures}
use Rattle.job.proofs.Distributed.{distribution_accepted}
use Rattle.job.proofs.GivenReached.{given_between, between_handed}
use Rattle.job.proofs.Sheared as call
use Rattle.job.proofs.Stages.{job_refused, job_accepted}

module _ (G : GroundValues) (f : FrameValues) (ws hs : List ℕ) (room : ℕ) where
  pub levels_refuse : {n p : ℕ} → judged_levels ws hs room ≡ refused n p → judged_job G f ws hs room ≡ refused n p
  unfolding judged_job
  levels_refuse e = simp e

  pub levels_pass : {g : Given} → judged_job G f ws hs room ≡ accepted g → judged_levels ws hs room ≡ accepted tt
  unfolding judged_job
  levels_pass e = (then_passed (judged_levels ws hs room) _ e).0

  pub job_in_turn : job_of G f ws hs room ≡ in_turn G f ws hs room
  unfolding in_turn
  job_in_turn = of_levels (judged_levels ws hs room) refl
    where
      of_call : judged_levels ws hs room ≡ accepted tt → (o : Outcome Given) → judged_shear_call G f (sum ws) (top_height hs) ≡ o
          → job_of G f ws hs room ≡ in_turn G f ws hs room
      of_call l (refused n p) e =
          simp (job_refused G f ws hs room (judged_in_turn G f ws hs room l ∙ e), l, call.call_refused G f (sum ws) (top_height hs) e)
      of_call l (accepted g) e =
          let n = building_figures g (sum ws) (top_height hs) in
          let all = shear_call_allowed G f (sum ws) (top_height hs) g e in
          let handed = between_handed n (given_between g (sum ws) (top_height hs) all) in
          simp (
            job_accepted G f ws hs room (judged_in_turn G f ws hs room l ∙ e),
            l,
            call.call_accepted G f (sum ws) (top_height hs) e,
            distribution_accepted n.vd n.t ws hs room (judged_handed_lem n.vd n.t ws hs room handed ∙ l),
          )

      of_levels : (o : Outcome Done) → judged_levels ws hs room ≡ o → job_of G f ws hs room ≡ in_turn G f ws hs room
      of_levels (refused n p) l = simp (job_refused G f ws hs room (levels_refuse l), l)
      of_levels (accepted u) l = of_call l (judged_shear_call G f (sum ws) (top_height hs)) refl
