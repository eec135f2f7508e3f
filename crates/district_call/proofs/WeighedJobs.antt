-- What a weighed job is: the answer of the job without buffers, with its W. V_D is at most 1,125 N for each kN of W.
-- Assumes nothing.
use mathlib.Core.Path.{◌≡◌, refl, sym, ap, subst, ◌∙◌}
use mathlib.Core.List.{List}
use Prim.Native.Nat.{ℕ, ◌≤◌}
use native.Mathlib.Omega.{arith}
use lib.ListN.{length}
use Rattle.whole.specs.Cells.{sum}
use Rattle.limits.specs.declared.frame.FrameValues.{FrameValues}
use Rattle.limits.specs.declared.ground.GroundValues.{GroundValues}
use Rattle.limits.specs.declared.judging.Given.{Given}
use Rattle.limits.specs.Building.{total_most}
use Rattle.limits.specs.Judging.{judged_job}
use Rattle.limits.specs.Levels.{top_height}
use Rattle.limits.specs.Outcome.{Outcome, accepted, refused}
use Rattle.limits.proofs.Accepted.{given_allowed}
use Rattle.limits.proofs.AcceptedCalls.{given_building, levels_building}
use Rattle.limits.proofs.Passed.{never, one_value}
use Rattle.base_shear.specs.declared.Figures.{Figures}
use Rattle.job.specs.Job.{job_of, job_figures, figures_only}
use Rattle.job.proofs.GivenReached.{given_between, given_for_each}
use Rattle.job.proofs.Stages.{job_refused, job_accepted}
use Rattle.district_call.specs.declared.weighed.Weighed.{Weighed}
use Rattle.district_call.specs.Tally.{Ratio, Sorted}
use Rattle.district_call.specs.Weighed.{weighed_job}

module _ (G : GroundValues) (f : FrameValues) (ws hs : List ℕ) where
  -- the two lines of a weighed job, of the figures without buffers
  pub weighed_refused : {n p : ℕ} → figures_only (job_of G f ws hs (length ws)) ≡ refused n p → weighed_job G f ws hs ≡ refused n p
  unfolding weighed_job
  weighed_refused e = simp e

  pub weighed_accepted : {n : Figures} → figures_only (job_of G f ws hs (length ws)) ≡ accepted n
      → weighed_job G f ws hs ≡ accepted (record { figures = n; weight = sum ws })
  unfolding weighed_job
  weighed_accepted e = simp e

  -- what the judgments of an accepted job gave
  pub record Given' (n : Figures) : Type 0 where
    pub given : Given
    pub judged : judged_job G f ws hs (length ws) ≡ accepted given
    pub figures : n ≡ job_figures given ws hs

  pub figured_given : (n : Figures) → figures_only (job_of G f ws hs (length ws)) ≡ accepted n → Given' n
  figured_given n e = go (judged_job G f ws hs (length ws)) refl
    where
      go : (o : Outcome Given) → judged_job G f ws hs (length ws) ≡ o → Given' n
      go (accepted g) j =
          record { given = g; judged = j; figures = one_value (sym e ∙ ap figures_only (job_accepted G f ws hs (length ws) j)) }
      go (refused m p) j = absurd (never (sym (ap figures_only (job_refused G f ws hs (length ws) j)) ∙ e))

  -- W of an accepted job
  pub figured_weight : (n : Figures) → figures_only (job_of G f ws hs (length ws)) ≡ accepted n → (1 ≤ sum ws) × (sum ws ≤ total_most)
  figured_weight n e =
      let j = figured_given n e in
      (levels_building ws hs (given_allowed G f ws hs (length ws) j.given j.judged).0.levels).weight

  -- a weighed job by an answer without buffers
  pub weighs : (n : Figures) → accepted n ≡ figures_only (job_of G f ws hs (length ws)) → sum ws ≤ total_most
  weighs n e = (figured_weight n (sym e)).1

  pub figured_ratio : (n : Figures) → figures_only (job_of G f ws hs (length ws)) ≡ accepted n
      → Ratio (record { figures = n; weight = sum ws })
  figured_ratio n e =
      let j = figured_given n e in
      let a = given_building j.given ws hs (given_allowed G f ws hs (length ws) j.given j.judged).0 in
      let each = given_for_each j.given (sum ws) (top_height hs) a in
      let most = given_between j.given (sum ws) (top_height hs) a in
      subst (λ (m : Figures). Ratio (record { figures = m; weight = sum ws })) (sym j.figures)
      (record { weight = (figured_weight n e).0; most = each; base = omega (arith, most.1) })

  pub weighed_sorted : Sorted (weighed_job G f ws hs)
  weighed_sorted = go (figures_only (job_of G f ws hs (length ws))) refl
    where
      go : (o : Outcome Figures) → figures_only (job_of G f ws hs (length ws)) ≡ o → Sorted (weighed_job G f ws hs)
      go (accepted n) e = subst (λ (o : Outcome Weighed). Sorted o) (sym (weighed_accepted e)) (figured_ratio n e)
      go (refused m p) e = subst (λ (o : Outcome Weighed). Sorted o) (sym (weighed_refused e)) tt
