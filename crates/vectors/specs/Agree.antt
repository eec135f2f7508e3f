-- Every row agrees: the definitions give what the model of tests/ gives, printed and exact.
use Rattle.std.specs.Prelude.{◌≡◌, refl, Bool, true, ◌&&◌, List, [], ◌∷◌, length}
use Rattle.whole.specs.Rounding.{up, down}
use Rattle.whole.specs.Search.{largest, smallest, bits_from}
use Rattle.whole.specs.Root.{lower_root, upper_root}
use Rattle.whole.specs.Cells.{cells, sum}
use Rattle.whole.specs.Line.{between}
use Rattle.whole.specs.Signed.{floor, ceiling}
use Rattle.response.specs.Period.{approximate, in_use}
use Rattle.response.specs.Spectrum.{spectrum, exact_spectrum}
use Rattle.response.specs.Factor.{factor, lower_factor, upper_factor}
use Rattle.response.specs.Ratio.{ratio, modified, blended, bent}
use Rattle.base_shear.specs.Shears.{newtons, shear, star, base, figures_at}
use Rattle.storeys.specs.Storeys.{weight_height, about}
use Rattle.vectors.specs.Vector.{Vector, agrees, printed, exact, stages, star_stages, period, places, same_numbers, same_fraction, same_fractions}
use Rattle.vectors.specs.Rows.{rows}

unfoldable pub every : List Vector → Bool
every [] = true
every (v ∷ vs) = agrees v && every vs

pub counted : length rows ≡ 785
unfolding rows
counted = refl

pub all_agree : every rows ≡ true
unfolding every rows agrees printed exact stages star_stages period places same_numbers same_fraction same_fractions
    up down largest smallest bits_from lower_root upper_root cells sum between floor ceiling
    approximate in_use spectrum exact_spectrum factor lower_factor upper_factor ratio modified blended bent
    newtons shear star base figures_at weight_height about
all_agree = refl
