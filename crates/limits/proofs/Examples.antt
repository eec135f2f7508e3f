-- A shear call in which everything is wrong is refused for its total weight, at place 0: the definition, computed.
-- Assumes nothing.
use mathlib.Core.Path.{◌≡◌, refl}
use Rattle.limits.specs.declared.ground.GroundValues.TheVariants.{Basin}
use Rattle.limits.specs.Building.{judged_building}
use Rattle.limits.specs.Judging.{judged_shear_call}
use Rattle.limits.specs.Outcome.{refused}
use Rattle.limits.specs.Ranges.{in_range, within}
use Rattle.limits.specs.Zone.{judged_zone}

pub total_first : judged_shear_call (Basin 9) (record { kind = 0; calculated = 0; r = 0; i = 0; alpha = 0 }) 0 0 ≡ refused 3 0
unfolding judged_shear_call judged_building within in_range judged_zone
total_first = refl
