-- What hazards must be like, whatever made them: for their shears to be worked out in 64 bits, and for what is proved of V_D.
--   Ready s h t       a hazard within the reach of spectrum and factor, at T
--   Shearing s k t    three such hazards, lines in thousandths, divisors of at most ten; a fine unit that 10,000 divides
--   Within v n x      x units over n tenths come to at most v N, at the largest I and W and the smallest alpha-y
--   Bounded v k       no spectrum is above `most` units, and V, V_M and V* of that are within v N: V_D is at most v N
--   Reached k         ready at every period in use, in the unit in use; lines that meet; V* divided by no less than V and V_M;
--                     a base shear that the storeys take
use Rattle.std.specs.Prelude.{◌≡◌, ℕ, ◌*◌, ◌/◌, ◌≤◌, ◌<◌}
use Rattle.limits.specs.Building.{total_most}
use Rattle.site.specs.declared.hazard.Hazard.{Hazard}
use Rattle.site.specs.declared.hazard.Hazards.{Hazards}
use Rattle.response.specs.Period.{period_most}
use Rattle.response.specs.Ratio.{modified}
use Rattle.response.specs.Reach.{FineUnit, Shape, Ductile, Thousandths, Meeting}
use Rattle.response.specs.Unit.{unit}

pub record Ready (s : ℕ) (h : Hazard) (t : ℕ) : Type 0 where
  pub shape : Shape h.a h.b t
  pub ductile : Ductile s h.capacity h.square

pub record Shearing (s : ℕ) (k : Hazards) (t : ℕ) : Type 0 where
  pub unit : FineUnit s
  pub ten_thousands : s / 10_000 * 10_000 ≡ s
  pub lines : Thousandths k.lines
  pub design : Ready s k.design t
  pub mce : Ready s k.mce t
  pub star : Ready s k.star t
  pub divisor : (0 < k.divisor) × (k.divisor ≤ 100)
  pub stardivisor : (0 < k.stardivisor) × (k.stardivisor ≤ 100)

abbrev pub Within : ℕ → ℕ → ℕ → Type 0
Within v n x = 10_000 * (150 * x * total_most) ≤ n * unit * 100 * v

pub record Bounded (v : ℕ) (k : Hazards) : Type 0 where
  pub most : ℕ
  pub design : unit * k.design.a ≤ 100_000_000 * most
  pub mce : unit * k.mce.a ≤ 100_000_000 * most
  pub star : unit * k.star.a ≤ 100_000_000 * most
  pub shears_within : Within v k.divisor (modified unit k.lines most)
  pub star_within : Within v k.stardivisor most

pub record Reached (k : Hazards) : Type 0 where
  pub shearing : (T : ℕ) → T ≤ period_most → Shearing unit k T
  pub meeting : Meeting k.lines
  pub star_least : k.divisor ≤ k.stardivisor
  pub bounded : Bounded 1_400_000_000 k
