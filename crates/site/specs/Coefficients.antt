-- Site coefficients (1), (9), (12), (13).
--   factored m n        S: the mapped value m (0.01 g) times its near-fault factor n (0.01), exact in 0.0001 g
--   coefficient cs S    what Table 2's columns cs give at S, in ten-thousandths: it comes out whole there
--   fa c S, fv c S      F_a and F_v of a class
--   acceleration_a c S, acceleration_b c S    A = F_a·S_S and B = F_v·S_1, in 10⁻⁸ g
use Rattle.std.specs.Prelude.{List, ℕ, ◌*◌}
use Rattle.whole.specs.declared.Column.{Column}
use Rattle.whole.specs.Fraction.{down_in}
use Rattle.whole.specs.Line.{between}
use Rattle.limits.specs.declared.class.Class.{Class}
use Rattle.site.specs.Table2.{columns_a, columns_v}

abbrev pub factored : ℕ → ℕ → ℕ
factored m n = m * n

abbrev pub coefficient : List Column → ℕ → ℕ
coefficient cs S = down_in 1 (between cs S)

abbrev pub fa : Class → ℕ → ℕ
fa c S = coefficient (columns_a c) S

abbrev pub fv : Class → ℕ → ℕ
fv c S = coefficient (columns_v c) S

abbrev pub acceleration_a : Class → ℕ → ℕ
acceleration_a c S = fa c S * S

abbrev pub acceleration_b : Class → ℕ → ℕ
acceleration_b c S = fv c S * S
