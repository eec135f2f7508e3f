-- What is given where the shear call accepts: the ground as it was judged, and a frame that has kind, R, I, alpha-y and calculated period of the frame
-- line.
--   GivenIs G f g    g is what the judgments make of a ground G and a frame line f
-- Assumes nothing.
use mathlib.Core.Path.{◌≡◌, sym, ap, ◌∙◌}
use Prim.Native.Nat.{ℕ}
use Rattle.limits.specs.declared.frame.Frame.{Frame}
use Rattle.limits.specs.declared.frame.FrameValues.{FrameValues}
use Rattle.limits.specs.declared.ground.GroundValues.{GroundValues}
use Rattle.limits.specs.declared.judging.Given.{Given}
use Rattle.limits.specs.Building.{judged_building}
use Rattle.limits.specs.Kind.{judged_kind}
use Rattle.limits.specs.Frame.{frame_of, judged_frame}
use Rattle.limits.specs.Ground.{judged_ground}
use Rattle.limits.specs.Judging.{judged_shear_call}
use Rattle.limits.specs.Outcome.{accepted}
use Rattle.limits.proofs.FramePassed.{frame_passed}
use Rattle.limits.proofs.Passed.{one_value, then_passed, bind_passed}

pub record GivenIs (G : GroundValues) (f : FrameValues) (g : Given) : Type 0 where
  pub ground : judged_ground G ≡ accepted g.ground
  pub kind : judged_kind f.kind ≡ accepted g.frame.kind
  pub calculated : g.frame.calculated ≡ f.calculated
  pub r : g.frame.r ≡ f.r
  pub i : g.frame.i ≡ f.i
  pub alpha : g.frame.alpha ≡ f.alpha

pub given_is : (G : GroundValues) (f : FrameValues) (W h : ℕ) (g : Given) → judged_shear_call G f W h ≡ accepted g → GivenIs G f g
unfolding judged_shear_call
given_is G f W h g e =
    let ground = bind_passed (judged_ground G) _ (then_passed (judged_building W h) _ e).1 in
    let frame = bind_passed (judged_frame f) (λ y. accepted (record { ground = ground.0; frame = y })) ground.2 in
    let same : record { ground = ground.0; frame = frame.0 } ≡ g = one_value frame.2 in
    let x = frame_passed f frame.0 frame.1 in
    let is : frame_of f x.kind ≡ g.frame = x.is ∙ ap (λ (y : Given). y.frame) same in
    record {
      ground = ground.1 ∙ ap (λ (y : Given). accepted y.ground) same;
      kind = x.kinded ∙ ap (λ (y : Frame). accepted y.kind) is;
      calculated = sym (ap (λ (y : Frame). y.calculated) is);
      r = sym (ap (λ (y : Frame). y.r) is);
      i = sym (ap (λ (y : Frame). y.i) is);
      alpha = sym (ap (λ (y : Frame). y.alpha) is);
    }
