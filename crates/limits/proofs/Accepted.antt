-- A frame, a judged ground and frame after any first judgment, and a whole job that are accepted are allowed.
-- Assumes nothing.
use mathlib.Core.Path.{◌≡◌, refl, subst}
use mathlib.Core.Bool.{Bool, true, false}
use mathlib.Core.List.{List}
use Prim.Native.Nat.{ℕ, ◌≤◌}
use native.Mathlib.Omega.{arith}
use lib.Dec.{eqb}
use lib.ListN.{length}
use borrow.Author.Tests.{eqb-true}
use Rattle.whole.specs.Choice.{pick}
use Rattle.limits.specs.declared.frame.Frame.{Frame}
use Rattle.limits.specs.declared.frame.FrameValues.{FrameValues}
use Rattle.limits.specs.declared.ground.GroundValues.{GroundValues}
use Rattle.limits.specs.declared.judging.Given.{Given}
use Rattle.limits.specs.Allowed.{AllowedGround, AllowedFrame, AllowedJob}
use Rattle.limits.specs.Frame.{judged_period, judged_frame}
use Rattle.limits.specs.Ground.{judged_ground}
use Rattle.limits.specs.Judging.{judged_given, judged_job}
use Rattle.limits.specs.Levels.{judged_levels}
use Rattle.limits.specs.Outcome.{Outcome, accepted, Done}
use Rattle.limits.specs.Ranges.{within}
use Rattle.limits.proofs.FramePassed.{frame_passed}
use Rattle.limits.proofs.Passed.{one_value, then_passed, bind_passed, within_passed}
use Rattle.limits.proofs.AcceptedGround.{ground_allowed}
use Rattle.limits.proofs.Spread.{spread, listed_accepted}
use Rattle.limits.proofs.AcceptedLevels.{levels_allowed, top_allowed}

-- ---- the frame
pub frame_allowed : (v : FrameValues) (f : Frame) → judged_frame v ≡ accepted f → AllowedFrame f
unfolding judged_period spread
frame_allowed v f e =
    let p = frame_passed v f e in
    subst AllowedFrame p.is
    (record {
      r = within_passed 100 600 v.r 8 0 p.r;
      i = listed_accepted 100 150 v.i 9 0 _ refl p.i;
      alpha = within_passed 100 200 v.alpha 10 0 p.alpha;
      period = most (eqb v.calculated 0) refl p.period;
    })
  where
    most : (t : Bool) → eqb v.calculated 0 ≡ t → pick t (accepted tt) (within 1 60_000 v.calculated 12 0) ≡ accepted tt
        → v.calculated ≤ 60_000
    most true q p = omega (arith, eqb-true v.calculated 0 q)
    most false q p = (within_passed 1 60_000 v.calculated 12 0 p).1

-- ---- ground and frame, after any first judgment
pub given_parts : (o : Outcome Done) (G : GroundValues) (f : FrameValues) (g : Given) → judged_given o G f ≡ accepted g
    → (o ≡ accepted tt) × AllowedGround g.ground × AllowedFrame g.frame
given_parts o G f g e =
    let first = then_passed o _ e in
    let ground = bind_passed (judged_ground G) _ first.1 in
    let frame = bind_passed (judged_frame f) (λ y. accepted (record { ground = ground.0; frame = y })) ground.2 in
    let same : record { ground = ground.0; frame = frame.0 } ≡ g = one_value frame.2 in (
      first.0,
      subst (λ (x : Given). AllowedGround x.ground) same (ground_allowed G ground.0 ground.1),
      subst (λ (x : Given). AllowedFrame x.frame) same (frame_allowed f frame.0 frame.1),
    )

-- ---- the whole job
pub given_allowed : (G : GroundValues) (f : FrameValues) (ws hs : List ℕ) (room : ℕ) (g : Given) → judged_job G f ws hs room ≡ accepted g
    → AllowedJob g ws hs × (length ws ≤ room)
unfolding judged_job
given_allowed G f ws hs room g e =
    let parts = given_parts (judged_levels ws hs room) G f g e in
    let l = levels_allowed ws hs room parts.0 in
    (record { ground = parts.1; frame = parts.2; levels = l.0; top = top_allowed ws hs l.0 }, l.1)
