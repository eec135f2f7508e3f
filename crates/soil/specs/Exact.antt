-- The exact time of a log and its average velocity, with no time rounded: the twin of U and L.
--   slowness ds vs      the sum of d/v over layers of thicknesses ds in cm and velocities vs in dm/s
--   average ds vs       equation (2): the sum of the thicknesses over that sum, in dm/s
--   exact_time ds vs    10⁸ times that sum: the time of all layers, in ns
--   time_at h           3·10⁹/h: the time of the 3,000 cm at h tens of m/s, in ns
-- An average stands for a number where no thickness and no velocity is 0 (`average_sound` of proofs/Rounded.antt).
use Rattle.std.specs.Prelude.{List, [], ◌∷◌, ℕ}
use Rattle.whole.specs.declared.Fraction.{Fraction}
use Rattle.whole.specs.Cells.{sum}
use Rattle.whole.specs.Fraction.{over, plus, times, quotient}
use Rattle.soil.specs.Class.{depth_time}
use Rattle.soil.specs.Times.{ns_at_unit}

unfoldable pub slowness : List ℕ → List ℕ → Fraction
slowness [] vs = over 0 1
slowness (d ∷ ds) [] = over 0 1
slowness (d ∷ ds) (v ∷ vs) = plus (over d v) (slowness ds vs)

abbrev pub average : List ℕ → List ℕ → Fraction
average ds vs = quotient (over (sum ds) 1) (slowness ds vs)

abbrev pub exact_time : List ℕ → List ℕ → Fraction
exact_time ds vs = times (over (ns_at_unit 1) 1) (slowness ds vs)

abbrev pub time_at : ℕ → Fraction
time_at h = over depth_time h
