-- Demand 3 of every accepted job, and of `job` itself: of the base shear that it answers and of the cells of shears that it
-- writes. The one premise is that it answered with figures.
-- Assumes nothing.
use Rattle.std.specs.Prelude.{Ok}
use mathlib.Core.Path.{◌≡◌, sym, ap, subst}
use mathlib.Core.List.{List}
use Prim.Native.Nat.{ℕ}
use lib.ListN.{get_or}
use Rattle.limits.specs.declared.frame.FrameValues.{FrameValues}
use Rattle.limits.specs.declared.ground.GroundValues.{GroundValues}
use Rattle.limits.specs.declared.judging.Given.{Given}
use Rattle.limits.specs.Judging.{judged_job}
use Rattle.limits.specs.Levels.{top_height}
use Rattle.limits.specs.Outcome.{accepted, Answer}
use Rattle.limits.proofs.Accepted.{given_allowed}
use Rattle.limits.proofs.AcceptedCalls.{given_building}
use Rattle.response.specs.Period.{period_of}
use Rattle.response.specs.Unit.{unit}
use Rattle.base_shear.specs.declared.Figures.{Figures}
use Rattle.base_shear.specs.Shears.{figures_at}
use Rattle.storeys.specs.Storeys.{shear_under}
use Rattle.margin.specs.Demand3.{Demand3}
use Rattle.margin.proofs.Demand3.{of_cells}
use Rattle.margin.proofs.Reached.{demand3_reached}
use Rattle.job.specs.Distribution.{Buffers, shortest}
use Rattle.job.specs.Job.{job_figures, Answers}
use Rattle.job.specs.ShearCall.{given_hazards}
use Rattle.job.proofs.Answered.{taken_accepted}
use Rattle.job.proofs.Storeys.{shear_cell}
use Rattle.job.proofs.GivenReached.{standing, given_reached, given_between}

pub demand3_accepted : (G : GroundValues) (f : FrameValues) (ws hs : List ℕ) (room : ℕ) (g : Given)
    → judged_job G f ws hs room ≡ accepted g
    → let n = job_figures g ws hs in
    Demand3 unit (given_hazards g) g.frame ws hs n.t n.vd (shear_under n.t n.vd ws hs)
unfolding figures_at
demand3_accepted G f ws hs room g e =
    let a = (given_allowed G f ws hs room g e).0 in
    let b = given_building g ws hs a in
    demand3_reached (given_hazards g) g.frame _ (given_reached g _ _ b) a.frame (given_between g _ _ b).3 ws hs
    (standing ws hs a.levels).positive

module _ (G : GroundValues) (f : FrameValues) (ws hs : List ℕ) (b : Buffers) where
  -- at the period in use of the judged ground and frame, with square roots unrounded
  pub record Kept (n : Figures) (b' : Buffers) : Type 0 where
    pub given : Given
    pub judged : judged_job G f ws hs (shortest b) ≡ accepted given
    pub period : n.t ≡ period_of given.frame.kind given.frame.calculated (top_height hs)
    pub kept : Demand3 unit (given_hazards given) given.frame ws hs n.t n.vd (λ x. get_or b'.shears x 0)

  pub demand_3 : (n : Figures) (b' : Buffers) → Answers G f ws hs b (Ok n) b' → Kept n b'
  unfolding figures_at
  demand_3 n b' a =
      let t = taken_accepted G f ws hs b n b' a in
      let g = t.given in
      let exact = demand3_accepted G f ws hs (shortest b) g t.judged in
      let k = given_hazards g in
      record {
        given = g;
        judged = t.judged;
        period = ap (λ (m : Figures). m.t) t.figures;
        kept =
            of_cells unit k g.frame ws hs n.t
            (subst (λ (m : Figures). Demand3 unit k g.frame ws hs m.t m.vd (shear_under m.t m.vd ws hs)) (sym t.figures) exact)
            (λ x h. sym (shear_cell G f ws hs b n b' a x h));
      }
