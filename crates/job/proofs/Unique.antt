-- No second outcome meets the contracts of `job` and `figures`: one answer, and one content of each buffer.
-- Assumes nothing.
use Rattle.std.specs.Prelude.{Ok, Err}
use mathlib.Core.Path.{◌≡◌, refl, sym, ◌∙◌}
use mathlib.Core.List.{List}
use Prim.Native.Nat.{ℕ}
use Rattle.limits.specs.declared.frame.FrameValues.{FrameValues}
use Rattle.limits.specs.declared.ground.GroundValues.{GroundValues}
use Rattle.limits.specs.Outcome.{Outcome, Answer, outcome}
use Rattle.limits.proofs.Unique.{one_answer}
use Rattle.base_shear.specs.declared.Figures.{Figures}
use Rattle.job.specs.Distribution.{Buffers}
use Rattle.job.specs.Job.{Figured, Answers}

module _ (G : GroundValues) (f : FrameValues) (ws hs : List ℕ) where
  -- `figures`
  pub one_figured : {a a' : Answer Figures} → Figured G f ws hs a → Figured G f ws hs a' → a ≡ a'
  one_figured p q = one_answer p q

  -- `job`
  pub one_outcome : (b : Buffers) {a a' : Answer Figures} {c c' : Buffers} → Answers G f ws hs b a c → Answers G f ws hs b a' c'
      → (a ≡ a') × (c ≡ c')
  one_outcome b p q = (one_answer p.0 q.0, p.1 ∙ sym q.1)
