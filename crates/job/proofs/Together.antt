-- Demand 3 of the shear call and the distribution together: of any shear call, and the distribution of its V_D at its T over any levels.
-- Assumes nothing.
use Rattle.std.specs.Prelude.{Ok}
use mathlib.Core.Path.{◌≡◌}
use mathlib.Core.List.{List}
use Prim.Native.Nat.{ℕ}
use lib.ListN.{get_or}
use Rattle.limits.specs.declared.frame.FrameValues.{FrameValues}
use Rattle.limits.specs.declared.ground.GroundValues.{GroundValues}
use Rattle.limits.specs.declared.judging.Given.{Given}
use Rattle.limits.specs.Judging.{judged_shear_call}
use Rattle.limits.specs.Outcome.{accepted}
use Rattle.response.specs.Period.{period_of}
use Rattle.response.specs.Unit.{unit}
use Rattle.base_shear.specs.declared.Figures.{Figures}
use Rattle.margin.specs.Demand3.{BaseDemand3, StoreyDemand3}
use Rattle.margin.proofs.Demand3.{together}
use Rattle.job.specs.Distribution.{Buffers, Distributed}
use Rattle.job.specs.ShearCall.{given_hazards, Sheared}
use Rattle.job.proofs.Distributed.{stands, handed_kept}
use Rattle.job.proofs.Sheared as call

module _ (G : GroundValues) (f : FrameValues) (W h : ℕ) (ws hs : List ℕ) (b : Buffers) where
  pub record Kept (n : Figures) (b' : Buffers) : Type 0 where
    pub given : Given
    pub judged : judged_shear_call G f W h ≡ accepted given
    pub period : n.t ≡ period_of given.frame.kind given.frame.calculated h
    pub base : BaseDemand3 unit (given_hazards given) given.frame W n.t n.vd
    pub storeys : StoreyDemand3 unit (given_hazards given) given.frame W ws hs n.t (λ x. get_or b'.shears x 0)

  pub demand_3 : (n : Figures) (b' : Buffers) → Sheared G f W h (Ok n) → Distributed n.vd n.t ws hs b (Ok tt) b' → Kept n b'
  demand_3 n b' c d =
      let t = call.demand_3 G f W h n c in
      record {
        given = t.given;
        judged = t.judged;
        period = t.period;
        base = t.kept;
        storeys =
            together n.t ws hs (stands n.vd n.t ws hs b b' d).positive unit (given_hazards t.given) t.given.frame W n.vd _
            t.kept (handed_kept n.vd n.t ws hs b b' d);
      }
