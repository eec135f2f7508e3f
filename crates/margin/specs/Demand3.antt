-- Demand 3, of printed figures in N: the base shear v, and u x under level x, from 0.
--   Number x             x stands for a number
--   AtLeast v x          v is at least x;  LessBy v x y    v is less than x + y
--   margin_of e s n f W   e s-ths of I·W/(n/10·alpha-y), plus one newton
--   base_margin s k f W      the base shear's margin: six s-ths of I·W/(1.4·alpha-y), plus one newton
--   storey_margin s k f W    a storey's: that whole margin plus two newtons
--   Numbers k f W T r    each of the three exact shears stands for a number
--   BaseDemand3 s k f W T v      of the base shear, with a total weight W: never below the exact figure, and above it by less than that margin
--   StoreyDemand3 s k f W ws hs T u    of the storeys under a base shear of W: each likewise never below its exact figure, and above it by less
--                                than that whole margin plus two newtons
--   Demand3 s k f ws hs T v u    of both, W being the weights of all levels
--   HandedDemand3 T v ws hs u    of a base shear v that is handed in: each storey shear is at least its exact figure from that number, and less
--                                than two newtons above
use Rattle.std.specs.Prelude.{List, ℕ, ◌<◌, length}
use Rattle.whole.specs.declared.Fraction.{Fraction}
use Rattle.whole.specs.Cells.{sum}
use Rattle.whole.specs.Fraction.{over, plus, AtMost, Less}
use Rattle.limits.specs.declared.frame.Frame.{Frame}
use Rattle.site.specs.declared.hazard.Hazards.{Hazards}
use Rattle.base_shear.specs.Exact.{Roots, exact_newtons, exact_shear, exact_star, exact_base}
use Rattle.storeys.specs.Exact.{exact_shear_under}
use Rattle.margin.specs.Roots.{Lowering, Raising}

abbrev pub Number : Fraction → Type 0
Number x = 0 < x.den

abbrev pub AtLeast : ℕ → Fraction → Type 0
AtLeast v x = AtMost x (over v 1)

abbrev pub LessBy : ℕ → Fraction → Fraction → Type 0
LessBy v x y = Less (over v 1) (plus x y)

abbrev pub margin_of : ℕ → ℕ → ℕ → Frame → ℕ → Fraction
margin_of e s n f W = plus (exact_newtons n f W (over e s)) (over 1 1)

abbrev pub base_margin : ℕ → Hazards → Frame → ℕ → Fraction
base_margin s k f W = margin_of 6 s k.divisor f W

abbrev pub storey_margin : ℕ → Hazards → Frame → ℕ → Fraction
storey_margin s k f W = plus (base_margin s k f W) (over 2 1)

abbrev pub Numbers : Hazards → Frame → ℕ → ℕ → Roots → Type 0
Numbers k f W T r =
    Number (exact_shear k k.design f W T r.v) × Number (exact_shear k k.mce f W T r.vm) × Number (exact_star k f W T r.star)

pub record BaseDemand3 (s : ℕ) (k : Hazards) (f : Frame) (W T v : ℕ) : Type 0 where
  pub margin : Number (base_margin s k f W)
  pub lowered : (r : Roots) → Lowering k r → Numbers k f W T r
  pub raised : (r : Roots) → Raising k r → Numbers k f W T r
  pub never_below : (r : Roots) → Lowering k r → Number (exact_base k f W T r) × AtLeast v (exact_base k f W T r)
  pub close : (r : Roots) → Raising k r → Number (exact_base k f W T r) × LessBy v (exact_base k f W T r) (base_margin s k f W)

pub record StoreyDemand3 (s : ℕ) (k : Hazards) (f : Frame) (W : ℕ) (ws hs : List ℕ) (T : ℕ) (u : ℕ → ℕ) : Type 0 where
  pub margin : Number (storey_margin s k f W)
  pub never_below : (x : ℕ) → x < length ws → (r : Roots) → Lowering k r
      → Number (exact_shear_under T ws hs (exact_base k f W T r) x) × AtLeast (u x) (exact_shear_under T ws hs (exact_base k f W T r) x)
  pub close : (x : ℕ) → x < length ws → (r : Roots) → Raising k r
      → Number (exact_shear_under T ws hs (exact_base k f W T r) x)
      × LessBy (u x) (exact_shear_under T ws hs (exact_base k f W T r) x) (storey_margin s k f W)

pub record Demand3 (s : ℕ) (k : Hazards) (f : Frame) (ws hs : List ℕ) (T v : ℕ) (u : ℕ → ℕ) : Type 0 where
  pub base : BaseDemand3 s k f (sum ws) T v
  pub storeys : StoreyDemand3 s k f (sum ws) ws hs T u

pub record HandedDemand3 (T v : ℕ) (ws hs : List ℕ) (u : ℕ → ℕ) : Type 0 where
  pub never_below : (x : ℕ) → x < length ws
      → Number (exact_shear_under T ws hs (over v 1) x) × AtLeast (u x) (exact_shear_under T ws hs (over v 1) x)
  pub close : (x : ℕ) → x < length ws → LessBy (u x) (exact_shear_under T ws hs (over v 1) x) (over 2 1)
