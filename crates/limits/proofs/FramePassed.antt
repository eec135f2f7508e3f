-- What a frame line that is accepted has passed, judgment by judgment.
--   FramePassed v f    the judgments that the frame line v has passed, and that the frame f is made of it
-- Assumes nothing.
use mathlib.Core.Path.{◌≡◌}
use mathlib.Core.List.{[], ◌∷◌}
use Rattle.limits.specs.declared.frame.Frame.{Frame}
use Rattle.limits.specs.declared.frame.FrameValues.{FrameValues}
use Rattle.limits.specs.declared.kind.Kind.{Kind}
use Rattle.limits.specs.Kind.{judged_kind}
use Rattle.limits.specs.Frame.{judged_period, frame_of, judged_frame}
use Rattle.limits.specs.Outcome.{accepted, ◌>>◌}
use Rattle.limits.specs.Ranges.{within, listed}
use Rattle.limits.proofs.Passed.{one_value, then_passed, bind_passed}

pub record FramePassed (v : FrameValues) (f : Frame) : Type 0 where
  pub r : within 100 600 v.r 8 0 ≡ accepted tt
  pub i : listed (100 ∷ 125 ∷ 150 ∷ []) v.i 9 0 ≡ accepted tt
  pub alpha : within 100 200 v.alpha 10 0 ≡ accepted tt
  pub kind : Kind
  pub kinded : judged_kind v.kind ≡ accepted kind
  pub period : judged_period v.calculated ≡ accepted tt
  pub is : frame_of v kind ≡ f

pub frame_passed : (v : FrameValues) (f : Frame) → judged_frame v ≡ accepted f → FramePassed v f
unfolding judged_frame
frame_passed v f e =
    let r = then_passed (within 100 600 v.r 8 0) _ e in
    let i = then_passed (listed (100 ∷ 125 ∷ 150 ∷ []) v.i 9 0) _ r.1 in
    let a = then_passed (within 100 200 v.alpha 10 0) _ i.1 in
    let k = bind_passed (judged_kind v.kind) (λ k. judged_period v.calculated >> accepted (frame_of v k)) a.1 in
    let p = then_passed (judged_period v.calculated) (accepted (frame_of v k.0)) k.2 in
    record { r = r.0; i = i.0; alpha = a.0; kind = k.0; kinded = k.1; period = p.0; is = one_value p.1 }
