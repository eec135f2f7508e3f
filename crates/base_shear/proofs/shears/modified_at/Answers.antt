-- `base_shear::shears::modified_at` meets its contract. Assumes nothing.
use mathlib.Core.Path.{ap, ◌∙◌}
use native.Mathlib.Omega.{arith}
use Rattle.base_shear.proofs.Bounds.{ratio_at_most}
use Rattle.base_shear.specs.Shears.{ratio_at}
use Rattle.response.proofs.Most.{modified_most}
use Rattle.response.specs.Ratio.{modified}
use Rattle.base_shear.proofs.shears.modified_at.Goals as goal

pub modified-requires : goal.modified-requires
modified-requires c =
    let a = c.args in
    let u = c.requires.0 in
    (c.requires.1, u.most, omega (arith, c.ratio_at.ensures, ratio_at_most a.s a.h a.t u c.requires.2, u.most))

pub returns : goal.returns
returns c =
    let a = c.args in
    let u = c.requires.0 in
    let e = c.modified.ensures ∙ ap (modified a.s a.l) c.ratio_at.ensures in
    (e, omega (arith, e, modified_most a.s a.l (ratio_at a.s a.h a.t) c.requires.1, ratio_at_most a.s a.h a.t u c.requires.2, u.most))
