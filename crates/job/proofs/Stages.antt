-- What a job answers once its judgments have: the lines of `job_of`; and that its levels are a building, whose figures are the job's.
-- Assumes nothing.
use Rattle.std.specs.Prelude.{Ok, Err}
use mathlib.Core.Path.{◌≡◌, sym, ap, ◌∙◌}
use mathlib.Core.List.{List}
use Prim.Native.Nat.{ℕ}
use native.Mathlib.Omega.{arith}
use Rattle.whole.specs.Cells.{laid, sum}
use Rattle.limits.specs.declared.frame.FrameValues.{FrameValues}
use Rattle.limits.specs.declared.ground.GroundValues.{GroundValues}
use Rattle.limits.specs.declared.judging.Given.{Given}
use Rattle.limits.specs.declared.refusal.Refusal.{Refusal}
use Rattle.limits.specs.Allowed.{AllowedJob, AllowedShearCall}
use Rattle.limits.specs.Judging.{judged_job}
use Rattle.limits.specs.Levels.{top_height}
use Rattle.limits.specs.Outcome.{Outcome, accepted, refused, Answer}
use Rattle.limits.proofs.AcceptedCalls.{given_building}
use Rattle.base_shear.specs.declared.Figures.{Figures}
use Rattle.job.specs.Distribution.{Buffers, shortest}
use Rattle.job.specs.Job.{Results, job_figures, results_at, results_of, job_of, figures_only, written, Answers}
use Rattle.job.specs.ShearCall.{building_figures}

-- the levels of an allowed job as a building, of a total weight and a top height that are theirs
pub building_of : (g : Given) (ws hs : List ℕ) (W h : ℕ) → AllowedJob g ws hs → W ≡ sum ws → h ≡ top_height hs → AllowedShearCall g W h
building_of g ws hs W h a ew eh =
    let all = given_building g ws hs a in
    record {
      ground = all.ground;
      frame = all.frame;
      building = record { weight = omega (arith, all.building.weight); top = omega (arith, all.building.top) };
    }

pub figures_of : (g : Given) (ws hs : List ℕ) (W h : ℕ) {n : Figures} → n ≡ building_figures g W h → W ≡ sum ws → h ≡ top_height hs
    → n ≡ job_figures g ws hs
figures_of g ws hs W h e ew eh = e ∙ λ i. building_figures g (ew i) (eh i)

module _ (G : GroundValues) (f : FrameValues) (ws hs : List ℕ) (room : ℕ) where
  pub job_refused : {n p : ℕ} → judged_job G f ws hs room ≡ refused n p → job_of G f ws hs room ≡ refused n p
  unfolding job_of
  job_refused e = simp e

  pub job_accepted : {g : Given} → judged_job G f ws hs room ≡ accepted g → job_of G f ws hs room ≡ accepted (results_of g ws hs)
  unfolding job_of
  job_accepted e = simp e

  module _ (b : Buffers) (short : room ≡ shortest b) where
    pub refused_answers : (r : Refusal) → judged_job G f ws hs room ≡ refused r.number r.place → Answers G f ws hs b (Err r) b
    refused_answers r e =
        let o = ap (λ (n : ℕ). job_of G f ws hs n) (sym short) ∙ job_refused e in
        (sym (ap figures_only o), sym (ap (λ (x : Outcome Results). written x b) o))

    -- what the storeys' code wrote, at the figures that it was handed
    pub accepted_answers : (g : Given) (n : Figures) {ps us os : List ℕ} → judged_job G f ws hs room ≡ accepted g
        → n ≡ job_figures g ws hs
        → us ≡ laid (results_at n ws hs).columns.shears b.shears
        → ps ≡ laid (results_at n ws hs).columns.forces b.forces
        → os ≡ laid (results_at n ws hs).columns.overturnings b.overturnings
        → Answers G f ws hs b (Ok n) (record { forces = ps; shears = us; overturnings = os })
    accepted_answers g n {ps} {us} {os} e same eu ep em =
        let o = ap (λ (n : ℕ). job_of G f ws hs n) (sym short) ∙ job_accepted e in
        let cells : record { forces = ps; shears = us; overturnings = os } ≡ written (accepted (results_at n ws hs)) b
        = λ i. record { forces = ep i; shears = eu i; overturnings = em i } in (
          ap accepted same ∙ sym (ap figures_only o),
          cells
              ∙ ap (λ (m : Figures). written (accepted (results_at m ws hs)) b) same
              ∙ sym (ap (λ (x : Outcome Results). written x b) o),
        )
