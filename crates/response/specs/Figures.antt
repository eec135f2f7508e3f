-- Document 01's 'Figures to hold it to' in ten-millionths: those that are proved together, as one table.
--   computed    what the definitions give
--   stated      what was worked out, in document 01's order: the hard site 80/45 at T = 112, 113, 563, 1406, 1407; the ratios at both
--               thresholds and one to each side; the lower roots of R = 480, design and MCE, and of R = 100, design and MCE; the period of
--               kind 2 at 300 dm
use Rattle.std.specs.Prelude.{◌≡◌, refl, List, [], ◌∷◌, ℕ}
use Rattle.whole.specs.Rounding.{up, down}
use Rattle.whole.specs.Search.{largest, bits_from}
use Rattle.whole.specs.Line.{between}
use Rattle.limits.specs.declared.class.Class.TheVariants.{Hard, Normal, Soft}
use Rattle.limits.specs.declared.kind.Kind.TheVariants.{Steel, Concrete, Other}
use Rattle.site.specs.Coefficients.{factored, fa, fv, acceleration_a, acceleration_b}
use Rattle.site.specs.Capacity.{design_square, mce_square}
use Rattle.site.specs.Lines.{lines}
use Rattle.response.specs.Unit.{unit}
use Rattle.response.specs.Period.{approximate}
use Rattle.response.specs.Spectrum.{spectrum, exact_spectrum}
use Rattle.whole.specs.Root.{lower_root}
use Rattle.response.specs.Ratio.{modified, bent}

abbrev hard_spectrum : ℕ → ℕ
hard_spectrum T = spectrum unit (acceleration_a Hard (factored 80 100)) (acceleration_b Hard (factored 45 100)) T

abbrev computed : List ℕ
computed =
    hard_spectrum 112
    ∷ hard_spectrum 113
    ∷ hard_spectrum 563
    ∷ hard_spectrum 1406
    ∷ hard_spectrum 1407
    ∷ modified unit lines 2_999_999
    ∷ modified unit lines 3_000_000
    ∷ modified unit lines 3_000_001
    ∷ modified unit lines 7_999_999
    ∷ modified unit lines 8_000_000
    ∷ modified unit lines 8_000_001
    ∷ lower_root unit (design_square 480)
    ∷ lower_root unit (mce_square 480)
    ∷ lower_root unit (design_square 100)
    ∷ lower_root unit (mce_square 100)
    ∷ approximate Concrete 300
    ∷ []

abbrev stated : List ℕ
stated =
    7_978_667
    ∷ 8_000_000
    ∷ 7_992_896
    ∷ 3_200_569
    ∷ 3_200_000
    ∷ 2_999_999
    ∷ 3_000_000
    ∷ 3_000_001
    ∷ 5_600_000
    ∷ 5_600_000
    ∷ 5_600_001
    ∷ 24_630_604
    ∷ 29_325_756
    ∷ 10_000_000
    ∷ 10_000_000
    ∷ 897
    ∷ []

pub figures_hold : computed ≡ stated
unfolding spectrum exact_spectrum modified bent lower_root approximate largest bits_from up down between
figures_hold = refl

-- The definitions at the figures that are run: the periods of kind 4 at 1 dm and of kind 1 at 2,000 dm; normal F_a at 6500; soft
-- F_v at 3200.
pub run_figures_hold : (approximate Other 1 ∷ approximate Steel 2000 ∷ fa Normal 6500 ∷ fv Soft 3200 ∷ [])
    ≡ (8 ∷ 4520 ∷ 10_500 ∷ 17_600 ∷ [])
unfolding approximate largest bits_from down between
run_figures_hold = refl
