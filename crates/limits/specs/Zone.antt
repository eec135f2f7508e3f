-- Number 18: the micro-zone of the Taipei Basin.
--   judged_zone n     18: zone not 1 to 4
use Rattle.std.specs.Prelude.{ℕ, eqb}
use Rattle.whole.specs.Choice.{pick}
use Rattle.limits.specs.declared.zone.Zone.{Zone}
use Rattle.limits.specs.declared.zone.Zone.TheVariants.{One, Two, Three, Four}
use Rattle.limits.specs.Outcome.{Outcome, accepted, refused}

unfoldable pub judged_zone : ℕ → Outcome Zone
judged_zone n =
    pick (eqb n 1) (accepted One)
    (pick (eqb n 2) (accepted Two) (pick (eqb n 3) (accepted Three) (pick (eqb n 4) (accepted Four) (refused 18 0))))
