-- What an answer of `job`, once it is known, says: of the judgments, of the figures and of the buffers.
-- Assumes nothing.
use Rattle.std.specs.Prelude.{Ok, Err}
use mathlib.Core.Path.{◌≡◌, refl, sym, ap, ◌∙◌}
use mathlib.Core.List.{List, [], ◌∷◌}
use Prim.Native.Nat.{ℕ}
use Rattle.limits.specs.declared.frame.FrameValues.{FrameValues}
use Rattle.limits.specs.declared.ground.GroundValues.{GroundValues}
use Rattle.limits.specs.declared.judging.Given.{Given}
use Rattle.limits.specs.declared.refusal.Refusal.{Refusal}
use Rattle.limits.specs.Judging.{judged_job}
use Rattle.limits.specs.Outcome.{Outcome, accepted, refused, number, place, values, Answer, outcome}
use Rattle.limits.proofs.Passed.{never, one_value, one_refusal}
use Rattle.limits.proofs.Reading.{success, refusal}
use Rattle.base_shear.specs.declared.Figures.{Figures}
use Rattle.job.specs.Distribution.{Buffers, shortest}
use Rattle.job.specs.Job.{Results, job_figures, results_at, figures_only, written, Answers}
use Rattle.job.specs.ShearCall.{five}
use Rattle.job.proofs.Stages.{job_refused, job_accepted}

module _ (G : GroundValues) (f : FrameValues) (ws hs : List ℕ) (b : Buffers) where
  -- of a taken answer: the judgments accept, n is what `job_figures` gives, and each level's cells are written
  pub record Accepted (n : Figures) (b' : Buffers) : Type 0 where
    pub given : Given
    pub judged : judged_job G f ws hs (shortest b) ≡ accepted given
    pub figures : n ≡ job_figures given ws hs
    pub cells : b' ≡ written (accepted (results_at n ws hs)) b

  module _ (n : Figures) (b' : Buffers) (a : Answers G f ws hs b (Ok n) b') where
    pub taken_accepted : Accepted n b'
    taken_accepted = go (judged_job G f ws hs (shortest b)) refl
      where
        go : (o : Outcome Given) → judged_job G f ws hs (shortest b) ≡ o → Accepted n b'
        go (accepted g) e =
            let o = job_accepted G f ws hs (shortest b) e in
            let same = one_value (a.0 ∙ ap figures_only o) in
            record {
              given = g;
              judged = e;
              figures = same;
              cells =
                  a.1 ∙ ap (λ (x : Outcome Results). written x b) o
                  ∙ ap (λ (m : Figures). written (accepted (results_at m ws hs)) b) (sym same);
            }
        go (refused m p) e = absurd (never (sym (a.0 ∙ ap figures_only (job_refused G f ws hs (shortest b) e))))

  module _ (r : Refusal) (b' : Buffers) (a : Answers G f ws hs b (Err r) b') where
    pub refused_judged : judged_job G f ws hs (shortest b) ≡ refused r.number r.place
    refused_judged = go (judged_job G f ws hs (shortest b)) refl
      where
        go : (o : Outcome Given) → judged_job G f ws hs (shortest b) ≡ o
            → judged_job G f ws hs (shortest b) ≡ refused r.number r.place
        go (accepted g) e = absurd (never (a.0 ∙ ap figures_only (job_accepted G f ws hs (shortest b) e)))
        go (refused m p) e =
            let same = one_refusal (a.0 ∙ ap figures_only (job_refused G f ws hs (shortest b) e)) in
            e ∙ λ i. refused (sym same.0 i) (sym same.1 i)

    -- 'buffers untouched'
    pub refused_untouched : b' ≡ b
    refused_untouched = a.1 ∙ ap (λ (x : Outcome Results). written x b) (job_refused G f ws hs (shortest b) refused_judged)

-- the numbers that come back: number and place, and 'figures 0' where data is refused
pub taken_values : (n : Figures)
    → (number (outcome (Ok n)) ≡ 0) × (place (outcome (Ok n)) ≡ 0) × (values five 5 (outcome (Ok n)) ≡ five n)
taken_values n = success n five 5

pub refused_values : (r : Refusal)
    → (number (outcome {A = Figures} (Err r)) ≡ r.number) × (place (outcome {A = Figures} (Err r)) ≡ r.place)
    × (values five 5 (outcome {A = Figures} (Err r)) ≡ 0 ∷ 0 ∷ 0 ∷ 0 ∷ 0 ∷ [])
refused_values r = refusal r.number r.place five
