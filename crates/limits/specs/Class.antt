-- Number 7: the site class.
--   judged_class n     7: class not 1 hard, 2 normal, 3 soft
use Rattle.std.specs.Prelude.{ℕ, eqb}
use Rattle.whole.specs.Choice.{pick}
use Rattle.limits.specs.declared.class.Class.{Class}
use Rattle.limits.specs.declared.class.Class.TheVariants.{Hard, Normal, Soft}
use Rattle.limits.specs.Outcome.{Outcome, accepted, refused}

unfoldable pub judged_class : ℕ → Outcome Class
judged_class n =
    pick (eqb n 1) (accepted Hard) (pick (eqb n 2) (accepted Normal) (pick (eqb n 3) (accepted Soft) (refused 7 0)))
