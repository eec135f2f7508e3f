-- The site class by the times of a log: Table 3 of document 000, over any class limits.
--   table3          270 and 180 m/s, in 10 m/s
--   depth_time      3·10⁹: the 3,000 cm of a log at h tens of m/s take 3·10⁹/h ns
--   class_of l t    hard if hard·U < 3·10⁹; else soft if soft·L > 3·10⁹; else normal. No log is both where soft is not above hard:
--                    proofs/Classes.antt
--   class_number c    1 hard, 2 normal, 3 soft
use Rattle.std.specs.Prelude.{ℕ, ◌*◌, ltb}
use Rattle.whole.specs.Choice.{pick}
use Rattle.limits.specs.declared.class.Class.{Class}
use Rattle.limits.specs.declared.class.Class.TheVariants.{Hard, Normal, Soft}
use Rattle.soil.specs.declared.class.ClassLimits.{ClassLimits}
use Rattle.soil.specs.declared.times.Times.{Times}

abbrev pub table3 : ClassLimits
table3 = record { hard = 27; soft = 18 }

abbrev pub depth_time : ℕ
depth_time = 3_000_000_000

unfoldable pub class_of : ClassLimits → Times → Class
class_of l t =
    pick (ltb (l.hard * t.up) depth_time) Hard (pick (ltb depth_time (l.soft * t.down)) Soft Normal)

abbrev pub class_number : Class → ℕ
class_number Hard = 1
class_number Normal = 2
class_number Soft = 3
