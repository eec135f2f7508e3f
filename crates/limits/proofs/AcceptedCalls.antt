-- What the two calls accept is allowed, and what the shear call judges of ground and frame it judges of them alone; a building, and a base shear and a
-- period, that are allowed pass their judgment. The levels of a job are a building that the shear call takes: its W and h are in range. So a job is
-- judged as the two calls are in turn.
-- Assumes nothing.
use mathlib.Core.Path.{◌≡◌, sym, ap, ◌∙◌}
use mathlib.Core.List.{List}
use Prim.Native.Nat.{ℕ, ◌≤◌}
use native.Mathlib.Nat.{mul-le-mul_right}
use native.Mathlib.Omega.{arith}
use lib.ListN.{length}
use Rattle.whole.specs.Cells.{sum}
use Rattle.whole.proofs.Sums.{sum_most, sum_step}
use Rattle.limits.specs.declared.frame.FrameValues.{FrameValues}
use Rattle.limits.specs.declared.ground.GroundValues.{GroundValues}
use Rattle.limits.specs.declared.judging.Given.{Given}
use Rattle.limits.specs.Allowed.{AllowedLevels, AllowedJob, AllowedBuilding, AllowedShearCall, AllowedHanded}
use Rattle.limits.specs.Building.{judged_total, judged_top, judged_building}
use Rattle.limits.specs.Handed.{judged_base_shear, judged_handed_period, judged_handed}
use Rattle.limits.specs.Judging.{judged_given, judged_job, judged_shear_call, judged_distribution}
use Rattle.limits.specs.Levels.{judged_levels, top_height}
use Rattle.limits.specs.Outcome.{Outcome, accepted, Done}
use Rattle.limits.proofs.Accepted.{given_parts}
use Rattle.limits.proofs.AcceptedLevels.{levels_allowed, top_allowed}
use Rattle.limits.proofs.Built.{range_passes}
use Rattle.limits.proofs.Passed.{one_value, then_passed, then_done, within_passed}

building_allowed : (W h : ℕ) → judged_building W h ≡ accepted tt → AllowedBuilding W h
unfolding judged_building
building_allowed W h e =
    let b = then_passed (judged_total W) (judged_top h) e in
    record { weight = within_passed 1 1_000_000 W 3 0 b.0; top = within_passed 1 2_000 h 4 0 b.1 }

pub shear_call_allowed : (G : GroundValues) (f : FrameValues) (W h : ℕ) (g : Given) → judged_shear_call G f W h ≡ accepted g
    → AllowedShearCall g W h
unfolding judged_shear_call
shear_call_allowed G f W h g e =
    let parts = given_parts (judged_building W h) G f g e in
    record { ground = parts.1; frame = parts.2; building = building_allowed W h parts.0 }

-- what is judged of ground and frame is judged of them alone: the same, whatever weights and heights are called with them
pub one_given : (G : GroundValues) (f : FrameValues) (W h W' h' : ℕ) (g g' : Given) → judged_shear_call G f W h ≡ accepted g
    → judged_shear_call G f W' h' ≡ accepted g' → g ≡ g'
unfolding judged_shear_call
one_given G f W h W' h' g g' e e' =
    one_value (sym (then_passed (judged_building W h) _ e).1 ∙ (then_passed (judged_building W' h') _ e').1)

pub distribution_allowed : (v t : ℕ) (ws hs : List ℕ) (room : ℕ) → judged_distribution v t ws hs room ≡ accepted tt
    → AllowedLevels ws hs × (length ws ≤ room) × AllowedHanded v t
unfolding judged_distribution judged_handed
distribution_allowed v t ws hs room e =
    let levels = then_passed (judged_levels ws hs room) (judged_handed v t) e in
    let handed = then_passed (judged_base_shear v) (judged_handed_period t) levels.1 in
    let l = levels_allowed ws hs room levels.0 in (
      l.0,
      l.1,
      record { shear = within_passed 1 1_200_000_000 v 19 0 handed.0; period = (within_passed 0 9_999 t 20 0 handed.1).1 },
    )

-- ---- the levels of a job as a building: 50 levels of 20,000 kN are 1,000,000 kN
pub levels_building : (ws hs : List ℕ) → AllowedLevels ws hs → AllowedBuilding (sum ws) (top_height hs)
levels_building ws hs l =
    let least = l.weights 0 l.some in
    record {
      weight = (
        omega (arith, sum_step ws 0 l.some, least),
        omega (arith, sum_most 20_000 ws (λ x h. (l.weights x h).1), mul-le-mul_right 20_000 l.few),
      );
      top = top_allowed ws hs l;
    }

pub given_building : (g : Given) (ws hs : List ℕ) → AllowedJob g ws hs → AllowedShearCall g (sum ws) (top_height hs)
given_building g ws hs a = record { ground = a.ground; frame = a.frame; building = levels_building ws hs a.levels }

-- ---- and what is allowed is accepted
building_passes : (W h : ℕ) → AllowedBuilding W h → judged_building W h ≡ accepted tt
unfolding judged_building
building_passes W h a = simp (range_passes 1 1_000_000 W 3 0 a.weight, range_passes 1 2_000 h 4 0 a.top)

handed_passes : (v t : ℕ) → AllowedHanded v t → judged_handed v t ≡ accepted tt
unfolding judged_handed
handed_passes v t a = simp (range_passes 1 1_200_000_000 v 19 0 a.shear, range_passes 0 9_999 t 20 0 (omega arith, a.period))

-- ---- what the judgment of ground and frame says, after that of the levels and after that of the building
pub judged_job_lem : (G : GroundValues) (f : FrameValues) (ws hs : List ℕ) (room : ℕ) {o : Outcome Done} → o ≡ judged_levels ws hs room
    → judged_given o G f ≡ judged_job G f ws hs room
unfolding judged_job
judged_job_lem G f ws hs room e = ap (λ (x : Outcome Done). judged_given x G f) e

pub judged_call : (G : GroundValues) (f : FrameValues) (W h : ℕ) {o : Outcome Done} → o ≡ judged_building W h
    → judged_given o G f ≡ judged_shear_call G f W h
unfolding judged_shear_call
judged_call G f W h e = ap (λ (x : Outcome Done). judged_given x G f) e

-- ---- so a job is judged as the two calls are in turn: once its levels are accepted, as the shear call of their W and h
pub judged_in_turn : (G : GroundValues) (f : FrameValues) (ws hs : List ℕ) (room : ℕ) → judged_levels ws hs room ≡ accepted tt
    → judged_job G f ws hs room ≡ judged_shear_call G f (sum ws) (top_height hs)
unfolding judged_job judged_shear_call
judged_in_turn G f ws hs room e =
    simp (e, building_passes (sum ws) (top_height hs) (levels_building ws hs (levels_allowed ws hs room e).0))

-- as the distribution, of a base shear and a period in range
pub judged_handed_lem : (v t : ℕ) (ws hs : List ℕ) (room : ℕ) → AllowedHanded v t → judged_distribution v t ws hs room ≡ judged_levels ws hs room
unfolding judged_distribution
judged_handed_lem v t ws hs room a = simp (handed_passes v t a) (then_done (judged_levels ws hs room))
