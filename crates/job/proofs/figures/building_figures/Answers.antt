-- `job::figures::building_figures` meets its contract. Assumes nothing.
use mathlib.Core.Path.{sym, subst, ap, ◌∙◌}
use Rattle.base_shear.specs.Ready.{Reached}
use Rattle.base_shear.specs.Shears.{base_figures}
use Rattle.site.specs.declared.hazard.Hazards.{Hazards}
use Rattle.job.proofs.GivenReached.{given_reached}
use Rattle.job.proofs.figures.building_figures.Goals as goal

pub ground_hazards-hazards-requires : goal.ground_hazards-hazards-requires
ground_hazards-hazards-requires c =
    let p = c.requires in
    (p.ground, p.frame.r.0, p.frame.r.1)

pub base_figures-requires : goal.base_figures-requires
base_figures-requires c =
    let k = given_reached c.args.given c.args.weight c.args.height c.requires in (
      subst Reached (sym c.ground_hazards-hazards.ensures) k,
      c.requires.frame,
      c.requires.building.weight.1,
      c.requires.building.top.0,
      c.requires.building.top.1,
    )

pub returns : goal.returns
returns c =
    let a = c.args in
    c.base_figures.ensures ∙ ap (λ (k : Hazards). base_figures k a.given.frame a.weight a.height) c.ground_hazards-hazards.ensures
