-- The root is reached by fractions of whole numbers, compared by products.
--   High ρ r        r is at least 1 and has a square of at least ρ
--   Low ρ r         r is at least 1 and has a square of at most ρ
--   Lowering k r    high fractions in V and V_M with a low one in V*: V and V_M fall as the root grows, V* rises
--   Raising k r     low fractions in V and V_M with a high one in V*
use Rattle.std.specs.Prelude.{◌<◌}
use Rattle.whole.specs.declared.Fraction.{Fraction}
use Rattle.whole.specs.Fraction.{over, square, AtMost}
use Rattle.site.specs.declared.hazard.Hazards.{Hazards}
use Rattle.base_shear.specs.Exact.{Roots}

pub record High (ρ r : Fraction) : Type 0 where
  pub sound : 0 < r.den
  pub one : AtMost (over 1 1) r
  pub high : AtMost ρ (square r)

pub record Low (ρ r : Fraction) : Type 0 where
  pub sound : 0 < r.den
  pub one : AtMost (over 1 1) r
  pub low : AtMost (square r) ρ

pub record Lowering (k : Hazards) (r : Roots) : Type 0 where
  pub v : High k.design.square r.v
  pub vm : High k.mce.square r.vm
  pub star : Low k.star.square r.star

pub record Raising (k : Hazards) (r : Roots) : Type 0 where
  pub v : Low k.design.square r.v
  pub vm : Low k.mce.square r.vm
  pub star : High k.star.square r.star
