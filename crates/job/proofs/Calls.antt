-- What is proved of a call with buffers holds of every outcome of `job_of`, and of the figures without buffers: there is such a call.
--   blank ws       buffers of one cell a level
-- Assumes nothing.
use Rattle.std.specs.Prelude.{Ok, Err}
use mathlib.Core.Path.{◌≡◌, refl, sym, ap, ◌∙◌}
use mathlib.Core.List.{List}
use Prim.Native.Nat.{ℕ, min}
use native.Mathlib.Omega.{arith}
use lib.ListN.{length}
use Rattle.whole.specs.Cells.{cells}
use Rattle.whole.proofs.Cells.{cells_length}
use Rattle.limits.specs.declared.frame.FrameValues.{FrameValues}
use Rattle.limits.specs.declared.ground.GroundValues.{GroundValues}
use Rattle.limits.specs.Outcome.{Outcome, accepted, refused, Answer, outcome}
use Rattle.limits.proofs.Unique.{answer_of, says_outcome}
use Rattle.base_shear.specs.declared.Figures.{Figures}
use Rattle.job.specs.Distribution.{Buffers, shortest}
use Rattle.job.specs.Job.{job_of, figures_only, written, Figured, Answers}

abbrev pub blank : List ℕ → Buffers
blank ws =
    record { forces = cells (λ _. 0) (length ws); shears = cells (λ _. 0) (length ws); overturnings = cells (λ _. 0) (length ws) }

blank_room : (ws : List ℕ) → shortest (blank ws) ≡ length ws
blank_room ws =
    ap (λ (n : ℕ). min (min n n) n) (cells_length (λ (x : ℕ). 0) (length ws)) ∙ omega arith

module _ (G : GroundValues) (f : FrameValues) (ws hs : List ℕ) where
  pub outcome_answers : (b : Buffers)
      → Answers G f ws hs b (answer_of (figures_only (job_of G f ws hs (shortest b)))) (written (job_of G f ws hs (shortest b)) b)
  outcome_answers b = (says_outcome _, refl)

  pub figured_answers : (a : Answer Figures) → Figured G f ws hs a
      → Answers G f ws hs (blank ws) a (written (job_of G f ws hs (length ws)) (blank ws))
  figured_answers a p =
      let room = sym (blank_room ws) in (
        p ∙ ap (λ (n : ℕ). figures_only (job_of G f ws hs n)) room,
        ap (λ (n : ℕ). written (job_of G f ws hs n) (blank ws)) room,
      )
