-- The coefficients come out whole: the width between two columns of Table 2 divides what stands in both, so that `coefficient`
-- rounds nothing at any S.
-- Assumes nothing.
use Prim.Native.Nat.{ℕ}
use lib.Dec.{T}
use Rattle.whole.specs.Fraction.{over, Same}
use Rattle.whole.specs.Line.{between}
use Rattle.whole.specs.Rounding.{down}
use Rattle.whole.proofs.Table.{fitting, table_whole}
use Rattle.limits.specs.declared.class.Class.{Class}
use Rattle.limits.specs.declared.class.Class.TheVariants.{Hard, Normal, Soft}
use Rattle.site.specs.Coefficients.{fa, fv}
use Rattle.site.specs.Table2.{columns_a, columns_v}

pub a_fits : (c : Class) → T (fitting (columns_a c))
unfolding fitting down
a_fits Hard = tt
a_fits Normal = tt
a_fits Soft = tt

pub v_fits : (c : Class) → T (fitting (columns_v c))
unfolding fitting down
v_fits Hard = tt
v_fits Normal = tt
v_fits Soft = tt

pub fa_whole : (c : Class) (S : ℕ) → Same (between (columns_a c) S) (over (fa c S) 1)
fa_whole c S = table_whole (columns_a c) S (a_fits c)

pub fv_whole : (c : Class) (S : ℕ) → Same (between (columns_v c) S) (over (fv c S) 1)
fv_whole c S = table_whole (columns_v c) S (v_fits c)
