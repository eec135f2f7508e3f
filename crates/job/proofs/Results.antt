-- The results of every accepted job, as `job_of` gives them: forces that add up to V_D, and demand 3 of V_D and of the storey shears.
-- Assumes nothing.
use mathlib.Core.Path.{◌≡◌, sym}
use mathlib.Core.List.{List}
use Prim.Native.Nat.{ℕ}
use lib.ListN.{length, get_or}
use Rattle.whole.specs.Cells.{sum}
use Rattle.whole.proofs.Cells.{cells_at}
use Rattle.limits.specs.declared.frame.FrameValues.{FrameValues}
use Rattle.limits.specs.declared.ground.GroundValues.{GroundValues}
use Rattle.limits.specs.declared.judging.Given.{Given}
use Rattle.limits.specs.Judging.{judged_job}
use Rattle.limits.specs.Outcome.{accepted}
use Rattle.limits.proofs.Accepted.{given_allowed}
use Rattle.response.specs.Unit.{unit}
use Rattle.storeys.specs.Storeys.{shear_under}
use Rattle.storeys.proofs.Roof.{roof_at_most_one}
use Rattle.storeys.proofs.Telescope.{forces_sum}
use Rattle.margin.specs.Demand3.{Demand3}
use Rattle.margin.proofs.Demand3.{of_cells}
use Rattle.job.specs.Job.{job_figures, results_of}
use Rattle.job.specs.ShearCall.{given_hazards}
use Rattle.job.proofs.Demand3.{demand3_accepted}
use Rattle.job.proofs.GivenReached.{standing}

-- of figures and storeys of a judged ground and frame
pub record Promised (g : Given) (ws hs : List ℕ) : Type 0 where
  pub adds_up : sum (results_of g ws hs).columns.forces ≡ (job_figures g ws hs).vd
  pub kept : let n = job_figures g ws hs in
      Demand3 unit (given_hazards g) g.frame ws hs n.t n.vd (λ x. get_or (results_of g ws hs).columns.shears x 0)

pub promised : (G : GroundValues) (f : FrameValues) (ws hs : List ℕ) (room : ℕ) (g : Given) → judged_job G f ws hs room ≡ accepted g
    → Promised g ws hs
promised G f ws hs room g e =
    let n = job_figures g ws hs in
    let a = (given_allowed G f ws hs room g e).0 in
    let l = standing ws hs a.levels in
    record {
      adds_up = forces_sum n.t n.vd ws hs l.some l.positive (roof_at_most_one n.t);
      kept =
          of_cells unit (given_hazards g) g.frame ws hs n.t (demand3_accepted G f ws hs room g e)
          (λ x h. sym (cells_at (shear_under n.t n.vd ws hs) (length ws) x h));
    }
