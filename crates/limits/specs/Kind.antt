-- Number 11: the kind of frame.
--   judged_kind n     11: kind not 1 steel frame, 2 RC or SRC frame, 3 eccentric brace, 4 other
use Rattle.std.specs.Prelude.{ℕ, eqb}
use Rattle.whole.specs.Choice.{pick}
use Rattle.limits.specs.declared.kind.Kind.{Kind}
use Rattle.limits.specs.declared.kind.Kind.TheVariants.{Steel, Concrete, Braced, Other}
use Rattle.limits.specs.Outcome.{Outcome, accepted, refused}

unfoldable pub judged_kind : ℕ → Outcome Kind
judged_kind n =
    pick (eqb n 1) (accepted Steel)
    (pick (eqb n 2) (accepted Concrete) (pick (eqb n 3) (accepted Braced) (pick (eqb n 4) (accepted Other) (refused 11 0))))
