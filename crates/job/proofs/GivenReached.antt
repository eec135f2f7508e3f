-- A judged shear call is within reach of the calculation: the hazards, V_D and T; and judged levels are what the storeys ask for. What is known of
-- the ground goes through `given_reached` and `given_bounded`.
--   Between n    V_D is 1 to 1,125,000,000 N and T is 1 to 6328 ms
-- Assumes nothing.
use mathlib.Core.Path.{◌≡◌, sym, subst}
use mathlib.Core.List.{List}
use Prim.Native.Nat.{ℕ, ◌*◌, ◌≤◌, ◌<◌}
use native.Mathlib.Omega.{arith}
use lib.ListN.{length}
use Rattle.limits.specs.declared.judging.Given.{Given}
use Rattle.limits.specs.Allowed.{AllowedLevels, AllowedJob, AllowedShearCall, AllowedHanded}
use Rattle.limits.proofs.AcceptedCalls.{given_building}
use Rattle.response.proofs.Periods.{period_bounds}
use Rattle.base_shear.specs.declared.Figures.{Figures}
use Rattle.base_shear.specs.Ready.{Bounded, Reached}
use Rattle.base_shear.specs.Shears.{figures_at}
use Rattle.base_shear.proofs.Bounds.{base_most, base_least, base_for_each}
use Rattle.storeys.specs.Reach.{Load, Standing}
use Rattle.storeys.proofs.Chain.{load_of, standing_of}
use Rattle.job.specs.Job.{job_figures}
use Rattle.job.specs.ShearCall.{given_hazards, building_figures}
use Rattle.base_shear.proofs.GroundReached.{ground_bounded, ground_reached}

pub standing : (ws hs : List ℕ) → AllowedLevels ws hs → Standing ws hs
standing ws hs l =
    standing_of ws hs (sym l.same) l.some l.few (λ x h. let r = l.rising x h in omega arith)
    (λ x h. let hh : x < length hs = omega (arith, l.same) in
    ((l.weights x h).0, (l.weights x h).1, (l.heights x hh).0, (l.heights x hh).1))

abbrev pub Between : Figures → Type 0
Between n = (1 ≤ n.vd) × (n.vd ≤ 1_125_000_000) × (1 ≤ n.t) × (n.t ≤ 6328)

module _ (g : Given) (W h : ℕ) (a : AllowedShearCall g W h) where
  pub given_reached : Reached (given_hazards g)
  given_reached = ground_reached g.ground g.frame.r a.ground a.frame.r.0 a.frame.r.1

  given_bounded : Bounded 1_125_000_000 (given_hazards g)
  given_bounded = ground_bounded g.ground g.frame.r a.ground a.frame.r.0 a.frame.r.1

  abbrev period : (1 ≤ (building_figures g W h).t) × ((building_figures g W h).t ≤ 6328)
  unfolding figures_at
  period = period_bounds g.frame.kind g.frame.calculated h a.building.top.0 a.building.top.1

  pub given_between : Between (building_figures g W h)
  unfolding figures_at
  given_between =
      let least = base_least _ g.frame W _ given_reached a.frame period.1 a.building.weight.0 in
      let most = base_most _ g.frame W _ given_reached a.frame period.1 _ given_bounded a.building.weight.1 in
      (least, most, period.0, period.1)

  -- V_D over W, N over kN, is at most 1,125 thousandths
  pub given_for_each : (building_figures g W h).vd ≤ 1_125 * W
  unfolding figures_at
  given_for_each = base_for_each _ g.frame W _ given_reached a.frame period.1 1_125 given_bounded

-- so the distribution takes V_D and T: it never refuses them with 19 or 20
pub between_handed : (n : Figures) → Between n → AllowedHanded n.vd n.t
between_handed n b = record { shear = (b.0, omega (arith, b.1)); period = omega (arith, b.3) }

pub load : (n : Figures) → Between n → Load n.t n.vd
load n b = load_of n.t n.vd (omega (arith, b.3)) (omega (arith, b.1))

-- what the storeys ask of the figures of an allowed job
pub figures_load : (ws hs : List ℕ) {g : Given} (n : Figures) → AllowedJob g ws hs → n ≡ job_figures g ws hs → Load n.t n.vd
figures_load ws hs {g} n a e =
    subst (λ (x : Figures). Load x.t x.vd) (sym e)
    (load (job_figures g ws hs) (given_between g _ _ (given_building g ws hs a)))
