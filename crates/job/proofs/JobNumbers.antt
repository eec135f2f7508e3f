-- A job by its numbers, and what it comes to in the unit in use.
--   Job                  ground, frame line, weights, heights, and what is given where they are accepted
--   site_line ..          a site line of seven numbers: one pair for both levels
--   job_on ..             a job of the lines of a sheet, as its numbers stand there, with its class and kind
--   IsAccepted j         they are accepted, with result buffers of as many cells as levels
--   hazards j, period j  the three hazards; T
--   printed j, printed_under j x       V_D, and the shear under level x, from 0
--   exact j r, exact_under j r x       the same of the exact chain, at fractions r for the roots
--   Demand3Of j v u      demand 3 of a base shear v and storey shears u
--   margin e j           e s-ths of I·W/(1.4·alpha-y), plus one newton
-- Assumes nothing.
use mathlib.Core.Path.{◌≡◌}
use mathlib.Core.List.{List}
use Prim.Native.Nat.{ℕ}
use lib.ListN.{length}
use Rattle.whole.specs.declared.Fraction.{Fraction}
use Rattle.whole.specs.Cells.{sum}
use Rattle.limits.specs.Frame.{frame_of}
use Rattle.limits.specs.Judging.{judged_job}
use Rattle.limits.specs.Levels.{top_height}
use Rattle.limits.specs.Outcome.{accepted}
use Rattle.limits.specs.Site.{site_of}
use Rattle.limits.specs.declared.frame.FrameValues.{FrameValues}
use Rattle.limits.specs.declared.kind.Kind.{Kind}
use Rattle.limits.specs.declared.ground.Ground.TheVariants.{Site as OnSite}
use Rattle.limits.specs.declared.ground.GroundValues.{GroundValues}
use Rattle.limits.specs.declared.ground.GroundValues.TheVariants.{Site as SiteOf}
use Rattle.limits.specs.declared.judging.Given.{Given}
use Rattle.limits.specs.declared.class.Class.{Class}
use Rattle.limits.specs.declared.site.SiteValues.{SiteValues}
use Rattle.site.specs.declared.hazard.Hazards.{Hazards}
use Rattle.response.specs.Period.{period_of}
use Rattle.response.specs.Unit.{unit}
use Rattle.base_shear.specs.Exact.{Roots, exact_base}
use Rattle.base_shear.specs.Shears.{base}
use Rattle.storeys.specs.Exact.{exact_shear_under}
use Rattle.storeys.specs.Storeys.{shear_under}
use Rattle.margin.specs.Demand3.{Demand3, margin_of}
use Rattle.job.specs.ShearCall.{given_hazards}

pub record Job : Type 0 where
  pub ground : GroundValues
  pub frame : FrameValues
  pub weights : List ℕ
  pub heights : List ℕ
  pub given : Given

abbrev pub site_line : ℕ → ℕ → ℕ → ℕ → ℕ → ℕ → ℕ → SiteValues
site_line ssd s1d ssm s1m na nv class =
    record { ssd = ssd; s1d = s1d; ssm = ssm; s1m = s1m; nad = na; nvd = nv; nam = na; nvm = nv; class = class }

abbrev pub frame_line : ℕ → ℕ → ℕ → ℕ → ℕ → FrameValues
frame_line kind calculated r i alpha = record { kind = kind; calculated = calculated; r = r; i = i; alpha = alpha }

abbrev pub job_on : SiteValues → Class → FrameValues → Kind → List ℕ → List ℕ → Job
job_on s c f k ws hs =
    record {
      ground = SiteOf s;
      frame = f;
      weights = ws;
      heights = hs;
      given = record { ground = OnSite (site_of s c); frame = frame_of f k };
    }

abbrev pub IsAccepted : Job → Type 0
IsAccepted j = judged_job j.ground j.frame j.weights j.heights (length j.weights) ≡ accepted j.given

abbrev pub hazards : Job → Hazards
hazards j = given_hazards j.given

abbrev pub period : Job → ℕ
period j = period_of j.given.frame.kind j.given.frame.calculated (top_height j.heights)

abbrev pub printed : Job → ℕ
printed j = base unit (hazards j) j.given.frame (sum j.weights) (period j)

abbrev pub exact : Job → Roots → Fraction
exact j r = exact_base (hazards j) j.given.frame (sum j.weights) (period j) r

abbrev pub printed_under : Job → ℕ → ℕ
printed_under j x = shear_under (period j) (printed j) j.weights j.heights x

abbrev pub exact_under : Job → Roots → ℕ → Fraction
exact_under j r x = exact_shear_under (period j) j.weights j.heights (exact j r) x

abbrev pub margin : ℕ → Job → Fraction
margin e j = margin_of e unit (hazards j).divisor j.given.frame (sum j.weights)

abbrev pub Demand3Of : Job → ℕ → (ℕ → ℕ) → Type 0
Demand3Of j v u = Demand3 unit (hazards j) j.given.frame j.weights j.heights (period j) v u
