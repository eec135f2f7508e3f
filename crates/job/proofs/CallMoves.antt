-- Which way the figures of the shear call move, on one ground, a site or a zone of the Taipei Basin, at one period in use. The premises are that both calls
-- were answered with figures, that T is the same, and the change. Kind, calculated period and height may differ: T is all that they make. Where they do
-- not, T is the same.
-- Assumes nothing.
use Rattle.std.specs.Prelude.{Ok}
use Rattle.limits.specs.Outcome.{Answer}
use mathlib.Core.Path.{◌≡◌, sym, ap, subst, subst₂, ◌∙◌}
use Prim.Native.Nat.{ℕ, ◌≤◌, ◌<◌}
use native.Mathlib.Omega.{arith}
use Rattle.limits.specs.declared.frame.Frame.{Frame}
use Rattle.limits.specs.declared.frame.FrameValues.{FrameValues}
use Rattle.limits.specs.declared.ground.GroundValues.{GroundValues}
use Rattle.limits.specs.declared.judging.Given.{Given}
use Rattle.limits.specs.Allowed.{AllowedShearCall}
use Rattle.limits.specs.Kind.{judged_kind}
use Rattle.limits.proofs.AcceptedCalls.{shear_call_allowed}
use Rattle.limits.proofs.GivenIs.{GivenIs, given_is}
use Rattle.limits.proofs.Passed.{one_value}
use Rattle.site.specs.Ground.{ground_hazards}
use Rattle.response.specs.Period.{period_of, period_most}
use Rattle.response.specs.Unit.{unit}
use Rattle.base_shear.specs.declared.Figures.{Figures}
use Rattle.base_shear.specs.Moves.{NoLighter}
use Rattle.base_shear.specs.Ready.{Reached}
use Rattle.base_shear.specs.Shears.{figures_at}
use Rattle.job.specs.Moves.{NoneLower, AsRGrows}
use Rattle.job.specs.ShearCall.{given_hazards, building_figures, Sheared}
use Rattle.job.proofs.FiguresMove.{figures_never_lower, figures_as_r_grows}
use Rattle.job.proofs.GivenReached.{given_reached, given_between}
use Rattle.base_shear.proofs.GroundAhead.{ground_ahead}
use Rattle.job.proofs.Sheared.{taken_accepted}

-- ---- an answered call: what was given, and its figures at its own T
record Answered (G : GroundValues) (f : FrameValues) (W h : ℕ) (n : Figures) : Type 0 where
  given : Given
  is : GivenIs G f given
  allowed : AllowedShearCall given W h
  made : n.t ≡ period_of given.frame.kind given.frame.calculated h
  figures : n ≡ figures_at unit (given_hazards given) given.frame W n.t
  period : n.t ≤ period_most

answered : (G : GroundValues) (f : FrameValues) (W h : ℕ) (n : Figures) → Sheared G f W h (Ok n) → Answered G f W h n
unfolding figures_at
answered G f W h n c =
    let a = taken_accepted G f W h n c in
    let g = a.given in
    let all = shear_call_allowed G f W h g a.judged in
    let t : n.t ≡ (building_figures g W h).t = ap (λ (m : Figures). m.t) a.figures in
    record {
      given = g;
      is = given_is G f W h g a.judged;
      allowed = all;
      made = t;
      figures = a.figures ∙ ap (λ (T : ℕ). figures_at unit (given_hazards g) g.frame W T) (sym t);
      period = subst (λ (T : ℕ). T ≤ period_most) (sym t) (given_between g W h all).3;
    }

-- ---- T is of kind, calculated period and height alone
module _ (G : GroundValues) (f f' : FrameValues) (W h W' h' : ℕ) (n n' : Figures) (p : Sheared G f W h (Ok n)) (q : Sheared G f' W' h' (Ok n')) where
  pub same_period : f.kind ≡ f'.kind → f.calculated ≡ f'.calculated → h ≡ h' → n.t ≡ n'.t
  same_period kind calculated height =
      let a = answered G f W h n p in
      let a' = answered G f' W' h' n' q in
      let one_kind : a.given.frame.kind ≡ a'.given.frame.kind = one_value (sym a.is.kind ∙ ap judged_kind kind ∙ a'.is.kind) in
      let one_calculated : a.given.frame.calculated ≡ a'.given.frame.calculated =
      a.is.calculated ∙ calculated ∙ sym a'.is.calculated in
      a.made ∙ (λ j. period_of (one_kind j) (one_calculated j) (height j)) ∙ sym a'.made

-- ---- two answered calls
module _ (G : GroundValues) (f f' : FrameValues) (W h W' h' : ℕ) (n n' : Figures) (p : Sheared G f W h (Ok n)) (q : Sheared G f' W' h' (Ok n'))
    (same : n.t ≡ n'.t) where
  abbrev a : Answered G f W h n
  a = answered G f W h n p

  abbrev a' : Answered G f' W' h' n'
  a' = answered G f' W' h' n' q

  abbrev frame : Frame
  frame = a.given.frame

  abbrev frame' : Frame
  frame' = a'.given.frame

  alpha_some : 0 < frame.alpha
  alpha_some = omega (arith, a.allowed.frame.alpha)

  alpha_some' : 0 < frame'.alpha
  alpha_some' = omega (arith, a'.allowed.frame.alpha)

  reached : Reached (given_hazards a.given)
  reached = given_reached a.given W h a.allowed

  reached' : Reached (given_hazards a'.given)
  reached' = given_reached a'.given W' h' a'.allowed

  one_ground : a.given.ground ≡ a'.given.ground
  one_ground = one_value (sym a.is.ground ∙ a'.is.ground)

  no_lighter : f.i ≤ f'.i → f'.alpha ≤ f.alpha → W ≤ W' → NoLighter frame W frame' W'
  no_lighter i alpha w =
      record { i = omega (arith, i, a.is.i, a'.is.i); alpha = omega (arith, alpha, a.is.alpha, a'.is.alpha); weight = w }

  no_heavier : f'.i ≤ f.i → f.alpha ≤ f'.alpha → W' ≤ W → NoLighter frame' W' frame W
  no_heavier i alpha w =
      record { i = omega (arith, i, a.is.i, a'.is.i); alpha = omega (arith, alpha, a.is.alpha, a'.is.alpha); weight = w }

  -- a larger I, a smaller alpha-y, a larger W: none of the figures is lower
  pub never_lower : f.r ≡ f'.r → f.i ≤ f'.i → f'.alpha ≤ f.alpha → W ≤ W' → NoneLower n n'
  never_lower r i alpha w =
      let one_r : frame.r ≡ frame'.r = a.is.r ∙ r ∙ sym a'.is.r in
      let k = given_hazards a.given in
      let hazards : given_hazards a'.given ≡ k = λ j. ground_hazards (sym one_ground j) (sym one_r j) in
      let second : n' ≡ figures_at unit k frame' W' n.t = a'.figures ∙ λ j. figures_at unit (hazards j) frame' W' (sym same j) in
      subst₂ NoneLower (sym a.figures) (sym second)
      (figures_never_lower k n.t reached frame frame' W W' alpha_some' (no_lighter i alpha w))

  -- a larger R: V, V_M and V_D are no higher, V* is no lower
  pub as_r_grows : f.r ≤ f'.r → f.i ≡ f'.i → f.alpha ≡ f'.alpha → W ≡ W' → AsRGrows n n'
  as_r_grows r i alpha w =
      let x = a.given.ground in
      let R = frame.r in
      let R' = frame'.r in
      let more : R ≤ R' = omega (arith, r, a.is.r, a'.is.r) in
      let hazards : given_hazards a'.given ≡ ground_hazards x R' = λ j. ground_hazards (sym one_ground j) R' in
      let second : n' ≡ figures_at unit (ground_hazards x R') frame' W' n.t =
      a'.figures ∙ λ j. figures_at unit (hazards j) frame' W' (sym same j) in
      let range = a.allowed.frame.r in
      subst₂ AsRGrows (sym a.figures) (sym second)
      (figures_as_r_grows x R R' n.t more reached (subst Reached hazards reached')
      (ground_ahead x R a.allowed.ground range.0 range.1 n.t a.period) a.period
      frame frame' W W' alpha_some alpha_some'
      (no_lighter (omega (arith, i)) (omega (arith, alpha)) (omega (arith, w)))
      (no_heavier (omega (arith, i)) (omega (arith, alpha)) (omega (arith, w))))
