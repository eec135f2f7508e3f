-- `job::shear_call::shear_call` meets its contract. Assumes nothing.
use mathlib.Core.Path.{◌≡◌, sym, ap, ◌∙◌}
use Rattle.limits.proofs.AcceptedCalls.{shear_call_allowed, judged_call}
use Rattle.limits.proofs.Exit.{handed_on}
use Rattle.limits.specs.Outcome.{accepted, outcome}
use Rattle.job.proofs.Sheared.{call_refused, call_accepted}
use Rattle.job.proofs.shear_call.shear_call.Goals as goal

pub returns-in_err-given : goal.returns-in_err-given
returns-in_err-given c =
    let a = c.args in
    let j = judged_call a.given.ground a.given.frame a.building.weight a.building.height c.judged.ensures in
    ap outcome (handed_on _ _ c.from_residual.ensures.1)
    ∙ sym (call_refused a.given.ground a.given.frame a.building.weight a.building.height (sym (c.in_err-given.ensures ∙ j)))

pub building_figures-requires : goal.building_figures-requires
building_figures-requires c =
    let a = c.args in
    let j = judged_call a.given.ground a.given.frame a.building.weight a.building.height c.judged.ensures in
    shear_call_allowed a.given.ground a.given.frame a.building.weight a.building.height _ (sym (c.in_ok-given.ensures ∙ j))

pub returns : goal.returns
returns c =
    let a = c.args in
    let j = judged_call a.given.ground a.given.frame a.building.weight a.building.height c.judged.ensures in
    ap accepted c.building_figures.ensures ∙ sym (call_accepted a.given.ground a.given.frame a.building.weight a.building.height (sym (c.in_ok-given.ensures ∙ j)))
