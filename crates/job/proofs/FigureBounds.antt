-- Between which numbers V_D and T of every accepted job lie.
-- Assumes nothing.
use Rattle.std.specs.Prelude.{Ok}
use Rattle.limits.specs.Outcome.{Answer}
use mathlib.Core.Path.{sym, subst}
use mathlib.Core.List.{List}
use Prim.Native.Nat.{ℕ}
use Rattle.limits.specs.declared.frame.FrameValues.{FrameValues}
use Rattle.limits.specs.declared.ground.GroundValues.{GroundValues}
use Rattle.limits.proofs.Accepted.{given_allowed}
use Rattle.limits.proofs.AcceptedCalls.{given_building}
use Rattle.base_shear.specs.declared.Figures.{Figures}
use Rattle.job.specs.Distribution.{Buffers, shortest}
use Rattle.job.specs.Job.{Answers}
use Rattle.job.proofs.Answered.{taken_accepted}
use Rattle.job.proofs.GivenReached.{Between, given_between}

pub figures_between : (G : GroundValues) (f : FrameValues) (ws hs : List ℕ) (b : Buffers) (n : Figures) (b' : Buffers)
    → Answers G f ws hs b (Ok n) b' → Between n
figures_between G f ws hs b n b' a =
    let t = taken_accepted G f ws hs b n b' a in
    let all = (given_allowed G f ws hs (shortest b) t.given t.judged).0 in
    subst Between (sym t.figures) (given_between t.given _ _ (given_building t.given ws hs all))
