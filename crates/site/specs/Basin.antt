-- The three hazards of a zone of the Taipei Basin and an R (10), (11), (15), (19). No site class and no near-fault factor plays a part.
--   basin_hazard S T0 k q    S_DS or S_MS in 10⁻⁵ g, T0 in ms: A is S in 10⁻⁸ g, and B = A·T0/1000, which is whole; with a capacity k and
--                           its square q. Its corner is T0: `design_corner`, `mce_corner` (proofs/Corners.antt)
--   basin_design z R         S_DS = 0.6 g, T0 of the zone, the Basin's allowable capacity
--   basin_mce z R            S_MS = 0.8 g, the same T0, R itself
--   basin_hazards z R        V's, V_M's, and V*'s, which is V's; the divisors 1.4 of (7), (17) and 3.5 of (19), in tenths
use Rattle.std.specs.Prelude.{ℕ, ◌*◌}
use Rattle.whole.specs.declared.Fraction.{Fraction}
use Rattle.limits.specs.declared.zone.Zone.{Zone}
use Rattle.site.specs.declared.hazard.Hazard.{Hazard}
use Rattle.site.specs.declared.hazard.Hazards.{Hazards}
use Rattle.site.specs.Capacity.{basin_capacity, basin_square, mce_capacity, mce_square}
use Rattle.site.specs.Lines.{lines}
use Rattle.site.specs.Table4.{corner_period}

abbrev pub basin_hazard : ℕ → ℕ → Fraction → Fraction → Hazard
basin_hazard S T0 capacity square = record { a = S * 1000; b = S * T0; capacity = capacity; square = square }

abbrev pub basin_design : Zone → ℕ → Hazard
basin_design z R = basin_hazard 60_000 (corner_period z) (basin_capacity R) (basin_square R)

abbrev pub basin_mce : Zone → ℕ → Hazard
basin_mce z R = basin_hazard 80_000 (corner_period z) (mce_capacity R) (mce_square R)

abbrev pub basin_hazards : Zone → ℕ → Hazards
basin_hazards z R =
    record {
      design = basin_design z R;
      mce = basin_mce z R;
      star = basin_design z R;
      lines = lines;
      divisor = 14;
      stardivisor = 35;
    }
