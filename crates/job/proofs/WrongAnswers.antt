-- Answers to document 01's worked sheet that the contract of `job` rules out: any refusal, where the shortest buffer has just one cell for each level; and figures with
-- buffers in which nothing is written. 'A core that refuses every job breaks demand 1, one that writes nothing demand 2's cells.'
-- Assumes nothing.
use Rattle.std.specs.Prelude.{Ok, Err}
use mathlib.Core.Path.{◌≡◌, ap, ◌∙◌}
use mathlib.Core.List.{[], ◌∷◌}
use Prim.Native.Nat.{ℕ}
use native.Mathlib.Omega.{arith}
use lib.ListN.{get_or}
use Rattle.limits.specs.declared.refusal.Refusal.{Refusal}
use Rattle.limits.specs.Outcome.{Outcome, Answer}
use Rattle.limits.proofs.Passed.{never}
use Rattle.base_shear.specs.declared.Figures.{Figures}
use Rattle.job.specs.Distribution.{Buffers, shortest}
use Rattle.job.specs.Job.{Results, job_of, figures_only, written, Answers}
use Rattle.job.proofs.Worked.{worked}
use Rattle.job.proofs.WorkedSheet.{plain, frame, weights, heights}

pub never_refused : (b : Buffers) (r : Refusal) (b' : Buffers) → shortest b ≡ 3
    → Answers plain (frame 1000 480) weights heights b (Err r) b' → ⊥
never_refused b r b' room a =
    never (a.0 ∙ ap (λ (n : ℕ). figures_only (job_of plain (frame 1000 480) weights heights n)) room ∙ ap figures_only worked)

abbrev zeros : Buffers
zeros = record { forces = 0 ∷ 0 ∷ 0 ∷ []; shears = 0 ∷ 0 ∷ 0 ∷ []; overturnings = 0 ∷ 0 ∷ 0 ∷ [] }

pub never_unwritten : (n : Figures) → Answers plain (frame 1000 480) weights heights zeros (Ok n) zeros → ⊥
never_unwritten n a =
    let e = ap (λ (b : Buffers). get_or b.forces 0 0) (a.1 ∙ ap (λ (o : Outcome Results). written o zeros) worked) in
    let z : ◌≡◌ {A = ℕ} 0 166_071 = e in
    omega arith
