-- Document 01's figures of velocities. Of soft clay those of q = 1 and 400, and of 1 kgf/cm², 1200 dm/s exactly; that q of 0 and 401, kind
-- 5 and cohesive soil of N = 1 are refused. Two logs of three layers of 10 m, measured, that come out normal though their averages are above
-- 270 m/s (270.0000033) and below 180 m/s (179.9999980): their exact times lie within 2 ns of the limits.
-- Assumes nothing.
use mathlib.Core.Path.{◌≡◌, refl}
use mathlib.Core.List.{List, [], ◌∷◌}
use Prim.Native.Nat.{ℕ}
use lib.Dec.{lit<}
use Rattle.whole.specs.Cells.{sum}
use Rattle.whole.specs.Fraction.{over, Less}
use Rattle.whole.specs.Rounding.{up, down}
use Rattle.whole.specs.Search.{bits_from, largest}
use Rattle.limits.specs.declared.class.Class.TheVariants.{Normal}
use Rattle.limits.specs.Outcome.{accepted, refused}
use Rattle.limits.specs.Ranges.{in_range, within}
use Rattle.soil.specs.Class.{table3, class_of}
use Rattle.soil.specs.Exact.{slowness, average}
use Rattle.soil.specs.Log.{thick, deep, judged_log, site_class}
use Rattle.soil.specs.Times.{added, judged_times}
use Rattle.soil.specs.Velocity.{cube_root, strength_root, measured, by_rule, velocity, velocities}

pub velocity_figures : (velocity 2 25 1 ≡ accepted 2_924) × (velocity 3 50 1 ≡ accepted 2_947)
unfolding velocity by_rule cube_root largest bits_from within in_range
velocity_figures = (refl, refl)

pub soft_clay_figures : (velocity 4 1 1 ≡ accepted 228) × (velocity 4 100 1 ≡ accepted 1_200) × (velocity 4 400 1 ≡ accepted 1_976)
unfolding velocity by_rule strength_root largest bits_from within in_range
soft_clay_figures = (refl, refl, refl)

pub soft_clay_refusals : (velocity 4 0 1 ≡ refused 15 1) × (velocity 4 401 1 ≡ refused 15 1) × (velocity 5 100 1 ≡ refused 15 1)
    × (velocity 2 1 1 ≡ refused 15 1)
unfolding velocity by_rule within in_range
soft_clay_refusals = (refl, refl, refl, refl)

abbrev thicknesses : List ℕ
thicknesses = 1_000 ∷ 1_000 ∷ 1_000 ∷ []

abbrev kinds : List ℕ
kinds = 1 ∷ 1 ∷ 1 ∷ []

abbrev fast : List ℕ
fast = 1_190 ∷ 7_340 ∷ 7_433 ∷ []

abbrev slow : List ℕ
slow = 700 ∷ 5_030 ∷ 25_453 ∷ []

pub above_270_yet_normal : (velocities 1 kinds fast ≡ accepted fast) × (site_class table3 thicknesses kinds fast ≡ accepted Normal)
    × Less (over 2_700 1) (average thicknesses fast)
unfolding site_class judged_log thick deep judged_times velocities velocity measured within in_range sum added up down class_of slowness
above_270_yet_normal = (refl, refl, lit< tt)

pub below_180_yet_normal : (velocities 1 kinds slow ≡ accepted slow) × (site_class table3 thicknesses kinds slow ≡ accepted Normal)
    × Less (average thicknesses slow) (over 1_800 1)
unfolding site_class judged_log thick deep judged_times velocities velocity measured within in_range sum added up down class_of slowness
below_180_yet_normal = (refl, refl, lit< tt)
