-- Demand 3, and its base part alone, of all hazards within reach, whatever made them, and every allowed frame, in the unit in use.
-- Assumes nothing.
use mathlib.Core.List.{List}
use Prim.Native.Nat.{ℕ, ◌≤◌, ◌<◌}
use native.Mathlib.Omega.{arith}
use Rattle.whole.specs.Cells.{sum}
use Rattle.limits.specs.Allowed.{AllowedFrame}
use Rattle.limits.specs.declared.frame.Frame.{Frame}
use Rattle.site.specs.declared.hazard.Hazards.{Hazards}
use Rattle.response.specs.Period.{period_most}
use Rattle.response.specs.Unit.{unit}
use Rattle.base_shear.specs.Ready.{Reached}
use Rattle.base_shear.specs.Shears.{base}
use Rattle.storeys.specs.Storeys.{weight_height, shear_under}
use Rattle.margin.specs.Demand3.{BaseDemand3, Demand3}
use Rattle.margin.proofs.Demand3.{base_demand3, demand3}

module _ (k : Hazards) (f : Frame) (T : ℕ) (c : Reached k) (b : AllowedFrame f) (t : T ≤ period_most) where
  pub base_demand3_reached : (W : ℕ) → BaseDemand3 unit k f W T (base unit k f W T)
  base_demand3_reached W = base_demand3 unit k f W T (c.shearing T t) c.meeting (omega (arith, b.alpha)) c.star_least

  pub demand3_reached : (ws hs : List ℕ) → 0 < weight_height ws hs
      → let v = base unit k f (sum ws) T in Demand3 unit k f ws hs T v (shear_under T v ws hs)
  demand3_reached ws hs p = demand3 unit k f ws hs T (c.shearing T t) c.meeting (omega (arith, b.alpha)) c.star_least p
