-- Number 15, of a kind alone.
--   judged_layer_kind n     15: kind not 1 measured, 2 cohesive, 3 cohesionless, 4 soft clay
use Rattle.std.specs.Prelude.{ℕ, eqb}
use Rattle.whole.specs.Choice.{pick}
use Rattle.limits.specs.declared.layer.LayerKind.{LayerKind}
use Rattle.limits.specs.declared.layer.LayerKind.TheVariants.{Measured, Cohesive, Cohesionless, SoftClay}
use Rattle.limits.specs.Outcome.{Outcome, accepted, refused}

unfoldable pub judged_layer_kind : ℕ → Outcome LayerKind
judged_layer_kind n =
    pick (eqb n 1) (accepted Measured)
    (pick (eqb n 2) (accepted Cohesive) (pick (eqb n 3) (accepted Cohesionless) (pick (eqb n 4) (accepted SoftClay) (refused 15 0))))
