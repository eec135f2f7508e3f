-- Table 2 of document 000: site coefficients in ten-thousandths, by columns of S in 0.0001 g.
--   columns_a c    F_a by S_S, of a class
--   columns_v c    F_v by S_1, of a class
use Rattle.std.specs.Prelude.{List, [], ◌∷◌}
use Rattle.whole.specs.declared.Column.{Column}
use Rattle.whole.specs.Line.{column}
use Rattle.limits.specs.declared.class.Class.{Class}
use Rattle.limits.specs.declared.class.Class.TheVariants.{Hard, Normal, Soft}

abbrev pub columns_a : Class → List Column
columns_a Hard = column 5000 10000 ∷ column 6000 10000 ∷ column 7000 10000 ∷ column 8000 10000 ∷ column 9000 10000 ∷ []
columns_a Normal = column 5000 11000 ∷ column 6000 11000 ∷ column 7000 10000 ∷ column 8000 10000 ∷ column 9000 10000 ∷ []
columns_a Soft = column 5000 12000 ∷ column 6000 12000 ∷ column 7000 11000 ∷ column 8000 10000 ∷ column 9000 10000 ∷ []

abbrev pub columns_v : Class → List Column
columns_v Hard = column 3000 10000 ∷ column 3500 10000 ∷ column 4000 10000 ∷ column 4500 10000 ∷ column 5000 10000 ∷ []
columns_v Normal = column 3000 15000 ∷ column 3500 14000 ∷ column 4000 13000 ∷ column 4500 12000 ∷ column 5000 11000 ∷ []
columns_v Soft = column 3000 18000 ∷ column 3500 17000 ∷ column 4000 16000 ∷ column 4500 15000 ∷ column 5000 14000 ∷ []
