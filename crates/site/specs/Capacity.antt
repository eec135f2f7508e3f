-- The ductility capacity, and the square of its root (5), (6), (11), (16); R in 0.01.
--   design_capacity R, design_square R    R_a = 1 + (R − 1)/1.5, and 2·R_a − 1
--   basin_capacity R, basin_square R      of the Taipei Basin: R_a = 1 + (R − 1)/2.0, and 2·R_a − 1, which is R:
--                                       `basin_allowable`, `basin_rooted` (proofs/Capacities.antt)
--   mce_capacity R, mce_square R          R itself, and 2·R − 1
-- ℕ's subtraction stops at 0; R is at least 100.
use Rattle.std.specs.Prelude.{ℕ, ◌+◌, ◌-◌, ◌*◌}
use Rattle.whole.specs.declared.Fraction.{Fraction}
use Rattle.whole.specs.Fraction.{over}

abbrev pub design_capacity : ℕ → Fraction
design_capacity R = over (2 * R + 100) 300

abbrev pub design_square : ℕ → Fraction
design_square R = over (R - 25) 75

abbrev pub basin_capacity : ℕ → Fraction
basin_capacity R = over (R + 100) 200

abbrev pub basin_square : ℕ → Fraction
basin_square R = over R 100

abbrev pub mce_capacity : ℕ → Fraction
mce_capacity R = over R 100

abbrev pub mce_square : ℕ → Fraction
mce_square R = over (R - 50) 50
