-- Table 4 of document 000: the corner period of each micro-zone of the Taipei Basin, T0 and T0^M, in ms.
--   corner_period z    that of a zone
use Rattle.std.specs.Prelude.{ℕ}
use Rattle.limits.specs.declared.zone.Zone.{Zone}
use Rattle.limits.specs.declared.zone.Zone.TheVariants.{One, Two, Three, Four}

abbrev pub corner_period : Zone → ℕ
corner_period One = 1600
corner_period Two = 1300
corner_period Three = 1050
corner_period Four = 850
