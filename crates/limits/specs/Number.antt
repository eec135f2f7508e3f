-- The numbers of 'What comes back when data is bad', by their names in the code.
--   number_of n    the number that a refusal has
use Rattle.std.specs.Prelude.{ℕ}
use Rattle.limits.specs.declared.refusal.Number.{Number}
use Rattle.limits.specs.declared.refusal.Number.TheVariants.{Levels, Lengths, Weight, Height, Mapped, NearFault, Class, R, I, AlphaY, Kind, Period, Layers, Thickness, Layer, Line, Sheet, Zone, BaseShear, PeriodHanded, Stretch, District, Displacement, DriftLimit, Average, Dimension}

abbrev pub number_of : Number → ℕ
number_of Levels = 1
number_of Lengths = 2
number_of Weight = 3
number_of Height = 4
number_of Mapped = 5
number_of NearFault = 6
number_of Class = 7
number_of R = 8
number_of I = 9
number_of AlphaY = 10
number_of Kind = 11
number_of Period = 12
number_of Layers = 13
number_of Thickness = 14
number_of Layer = 15
number_of Line = 16
number_of Sheet = 17
number_of Zone = 18
number_of BaseShear = 19
number_of PeriodHanded = 20
number_of Stretch = 21
number_of District = 22
number_of Displacement = 23
number_of DriftLimit = 24
number_of Average = 25
number_of Dimension = 26
