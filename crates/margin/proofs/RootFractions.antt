-- High and low fractions are there, for all hazards within reach: the whole roots over the unit are such. So no part of demand 3
-- is true just because there are none.
--   lowered s k, raised s k    the whole roots of hazards k in s-ths, upper in V and V_M with lower in V*, and the other way
-- Assumes nothing.
use Prim.Native.Nat.{ℕ}
use native.Mathlib.Omega.{arith}
use Rattle.whole.specs.declared.Fraction.{Fraction}
use Rattle.whole.specs.Fraction.{over}
use Rattle.whole.specs.Root.{lower_root, upper_root}
use Rattle.whole.proofs.Root.{lower_root_is, upper_root_is}
use Rattle.site.specs.declared.hazard.Hazards.{Hazards}
use Rattle.response.specs.Reach.{FineUnit, Ductile}
use Rattle.response.proofs.Reached.{small, root_least, roots_ordered}
use Rattle.base_shear.specs.Exact.{Roots}
use Rattle.base_shear.specs.Ready.{Shearing}
use Rattle.margin.specs.Roots.{High, Low, Lowering, Raising}

module _ (s : ℕ) (c ρ : Fraction) (u : FineUnit s) (d : Ductile s c ρ) where
  pub lower_is_low : Low ρ (over (lower_root s ρ) s)
  lower_is_low =
      record {
        sound = u.positive;
        one = omega (arith, root_least s c ρ u d);
        low = (lower_root_is s ρ (small s c ρ u d)).holds;
      }

  pub upper_is_high : High ρ (over (upper_root s ρ) s)
  upper_is_high =
      record {
        sound = u.positive;
        one = omega (arith, root_least s c ρ u d, roots_ordered s c ρ u d);
        high = (upper_root_is s ρ (small s c ρ u d)).holds;
      }

abbrev pub lowered : ℕ → Hazards → Roots
lowered s k =
    record {
      v = over (upper_root s k.design.square) s;
      vm = over (upper_root s k.mce.square) s;
      star = over (lower_root s k.star.square) s;
    }

abbrev pub raised : ℕ → Hazards → Roots
raised s k =
    record {
      v = over (lower_root s k.design.square) s;
      vm = over (lower_root s k.mce.square) s;
      star = over (upper_root s k.star.square) s;
    }

module _ (s : ℕ) (k : Hazards) (T : ℕ) (g : Shearing s k T) where
  pub lowering_there : Lowering k (lowered s k)
  lowering_there =
      record {
        v = upper_is_high s _ _ g.unit g.design.ductile;
        vm = upper_is_high s _ _ g.unit g.mce.ductile;
        star = lower_is_low s _ _ g.unit g.star.ductile;
      }

  pub raising_there : Raising k (raised s k)
  raising_there =
      record {
        v = lower_is_low s _ _ g.unit g.design.ductile;
        vm = lower_is_low s _ _ g.unit g.mce.ductile;
        star = upper_is_high s _ _ g.unit g.star.ductile;
      }
