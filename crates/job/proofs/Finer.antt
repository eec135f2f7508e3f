-- What a job answers in ten-millionths is not above what it would answer in millionths: V, V_M, V*, V_D, the shear and the overturning moment of
-- every storey and the force of the top level. So the shears and moments of a listing of the same job in millionths are not below. A force
-- below the top level is at most one newton above, as it is the difference of two shears that are each rounded.
--   in_millionths g W h    the five figures of a building in millionths
--   columns_in_millionths g T ws hs    forces, shears and overturning moments of that V_D, at the period T
--   NotAbove n m          V, V_M, V* and V_D of n are at most those of m
-- Assumes nothing.
use Rattle.std.specs.Prelude.{Ok}
use mathlib.Core.Path.{◌≡◌, sym, subst}
use mathlib.Core.List.{List}
use Prim.Native.Nat.{ℕ, ◌+◌, ◌≤◌, ◌<◌}
use native.Mathlib.Omega.{arith}
use lib.ListN.{length, get_or}
use Rattle.whole.specs.Cells.{sum}
use Rattle.limits.specs.declared.frame.FrameValues.{FrameValues}
use Rattle.limits.specs.declared.ground.GroundValues.{GroundValues}
use Rattle.limits.specs.declared.judging.Given.{Given}
use Rattle.limits.specs.Allowed.{AllowedShearCall}
use Rattle.limits.specs.Judging.{judged_job}
use Rattle.limits.specs.Levels.{top_height}
use Rattle.limits.specs.Outcome.{accepted, Answer}
use Rattle.limits.proofs.Accepted.{given_allowed}
use Rattle.limits.proofs.AcceptedCalls.{given_building}
use Rattle.response.specs.Period.{period_of}
use Rattle.base_shear.specs.declared.Figures.{Figures}
use Rattle.base_shear.specs.Shears.{figures_at}
use Rattle.storeys.specs.Storeys.{shear_under, force, overturning}
use Rattle.storeys.proofs.Roof.{roof_at_most_one}
use Rattle.margin.proofs.Finer.{finer_shear_never_above, finer_star_never_above, unit_never_above_millionths}
use Rattle.margin.proofs.RisesWithBase.{shear_rises, top_force_rises, force_rises_by_one}
use Rattle.margin.proofs.OverturningRises.{overturning_rises}
use Rattle.job.specs.Distribution.{Columns, columns_at, Buffers, shortest}
use Rattle.job.specs.Job.{Answers}
use Rattle.job.specs.ShearCall.{given_hazards, building_figures}
use Rattle.job.proofs.Answered.{taken_accepted}
use Rattle.job.proofs.GivenReached.{standing, given_reached, given_between}
use Rattle.job.proofs.Storeys.{shear_cell, force_cell, overturning_cell}

abbrev pub in_millionths : Given → ℕ → ℕ → Figures
in_millionths g W h = figures_at 1_000_000 (given_hazards g) g.frame W (period_of g.frame.kind g.frame.calculated h)

pub record NotAbove (n m : Figures) : Type 0 where
  pub v : n.v ≤ m.v
  pub vm : n.vm ≤ m.vm
  pub star : n.star ≤ m.star
  pub vd : n.vd ≤ m.vd

-- what a job and a shear call answer with
pub building_not_above : (g : Given) (W h : ℕ) → AllowedShearCall g W h → NotAbove (building_figures g W h) (in_millionths g W h)
unfolding figures_at
building_not_above g W h a =
    let k = given_hazards g in
    let f = g.frame in
    let c = given_reached g W h a in
    let t = (given_between g W h a).3 in
    let y = c.shearing _ t in
    let pa : 0 < f.alpha = omega (arith, a.frame.alpha) in
    record {
      v = finer_shear_never_above 10 1_000_000 k _ y c.meeting f pa W k.design y.design;
      vm = finer_shear_never_above 10 1_000_000 k _ y c.meeting f pa W k.mce y.mce;
      star = finer_star_never_above 10 1_000_000 k _ y c.meeting f pa W;
      vd = unit_never_above_millionths k f _ c a.frame t W;
    }

abbrev pub columns_in_millionths : Given → ℕ → List ℕ → List ℕ → Columns
columns_in_millionths g T ws hs = columns_at T (in_millionths g (sum ws) (top_height hs)).vd ws hs

module _ (G : GroundValues) (f : FrameValues) (ws hs : List ℕ) (b : Buffers) where
  pub record AtMostMillionths (n : Figures) (b' : Buffers) : Type 0 where
    pub given : Given
    pub judged : judged_job G f ws hs (shortest b) ≡ accepted given
    pub figures : NotAbove n (in_millionths given (sum ws) (top_height hs))
    pub shears : (x : ℕ) → x < length ws
        → get_or b'.shears x 0 ≤ shear_under n.t (in_millionths given (sum ws) (top_height hs)).vd ws hs x
    pub overturnings : (x : ℕ) → x < length ws
        → get_or b'.overturnings x 0 ≤ overturning (columns_in_millionths given n.t ws hs).forces hs x
    pub forces : (x : ℕ) → x < length ws → get_or b'.forces x 0 ≤ force (columns_in_millionths given n.t ws hs).shears x + 1
    pub top_force : (x : ℕ) → x + 1 ≡ length ws → get_or b'.forces x 0 ≤ force (columns_in_millionths given n.t ws hs).shears x

  -- the one premise is that it answered with figures
  pub job_not_above : (n : Figures) (b' : Buffers) → Answers G f ws hs b (Ok n) b' → AtMostMillionths n b'
  job_not_above n b' a =
      let t = taken_accepted G f ws hs b n b' a in
      let g = t.given in
      let all = (given_allowed G f ws hs (shortest b) g t.judged).0 in
      let m = in_millionths g (sum ws) (top_height hs) in
      let c = columns_in_millionths g n.t ws hs in
      let least = subst (λ (k : Figures). NotAbove k m) (sym t.figures) (building_not_above g _ _ (given_building g ws hs all)) in
      let stands = standing ws hs all.levels in
      let roof = roof_at_most_one n.t in
      record {
        given = g;
        judged = t.judged;
        figures = least;
        shears =
            λ x h.
            subst (λ (u : ℕ). u ≤ shear_under n.t m.vd ws hs x) (sym (shear_cell G f ws hs b n b' a x h))
            (shear_rises n.t n.vd m.vd ws hs x roof stands.positive least.vd);
        overturnings =
            λ x h.
            subst (λ (u : ℕ). u ≤ overturning c.forces hs x) (sym (overturning_cell G f ws hs b n b' a x h))
            (overturning_rises n.t n.vd m.vd ws hs x roof stands.positive stands.weighing.same stands.rising least.vd);
        forces =
            λ x h.
            subst (λ (u : ℕ). u ≤ force c.shears x + 1) (sym (force_cell G f ws hs b n b' a x h))
            (force_rises_by_one n.t n.vd m.vd ws hs x roof stands.positive least.vd);
        top_force =
            λ x e.
            subst (λ (u : ℕ). u ≤ force c.shears x) (sym (force_cell G f ws hs b n b' a x (omega arith)))
            (top_force_rises n.t n.vd m.vd ws hs x roof stands.positive least.vd (omega arith));
      }
