-- The shear call: the base shear of a building without its storeys. The ground G, the frame f, a total weight W in kN, a top height h in dm.
--   given_hazards g           the hazards of a judged ground, with the R of the frame
--   building_figures g W h    the five figures of a judged ground and frame: V, V_M, V*, V_D and T
--   shear_call_of G f W h     the five figures, or the first refusal
--   five n                    the figures in the listing's order: the values of an answer
--   Sheared G f W h a         a is the answer
use Rattle.std.specs.Prelude.{◌≡◌, List, [], ◌∷◌, ℕ}
use Rattle.limits.specs.declared.frame.FrameValues.{FrameValues}
use Rattle.limits.specs.declared.ground.GroundValues.{GroundValues}
use Rattle.limits.specs.declared.judging.Given.{Given}
use Rattle.limits.specs.Judging.{judged_shear_call}
use Rattle.limits.specs.Outcome.{Outcome, Answer, accepted, outcome, ◌>>=◌}
use Rattle.site.specs.Ground.{ground_hazards}
use Rattle.site.specs.declared.hazard.Hazards.{Hazards}
use Rattle.base_shear.specs.declared.Figures.{Figures}
use Rattle.base_shear.specs.Shears.{base_figures}

abbrev pub given_hazards : Given → Hazards
given_hazards g = ground_hazards g.ground g.frame.r

abbrev pub building_figures : Given → ℕ → ℕ → Figures
building_figures g W h = base_figures (given_hazards g) g.frame W h

unfoldable pub shear_call_of : GroundValues → FrameValues → ℕ → ℕ → Outcome Figures
shear_call_of G f W h = do
  g ← judged_shear_call G f W h
  accepted (building_figures g W h)

abbrev pub five : Figures → List ℕ
five n = n.v ∷ n.vm ∷ n.star ∷ n.vd ∷ n.t ∷ []

abbrev pub Sheared : GroundValues → FrameValues → ℕ → ℕ → Answer Figures → Type 0
Sheared G f W h a = outcome a ≡ shear_call_of G f W h
