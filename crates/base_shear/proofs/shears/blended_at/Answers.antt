-- `base_shear::shears::blended_at` meets its contract. Assumes nothing.
use mathlib.Core.Path.{ap₂, ◌∙◌}
use native.Mathlib.Omega.{arith}
use Rattle.response.proofs.Most.{spectrum_most_lem, upper_factor_most, blended_most}
use Rattle.response.specs.Ratio.{blended}
use Rattle.base_shear.specs.Shears.{spectrum_at, upper_at}
use Rattle.base_shear.proofs.shears.blended_at.Goals as goal

pub blended-requires : goal.blended-requires
blended-requires c =
    let a = c.args in
    let h = a.h in
    let u = c.requires.0 in
    let r = c.requires.2 in
    let most = spectrum_most_lem a.s h.a h.b a.t r.shape.b_positive r.shape.a_most in
    let small = upper_factor_most a.s h.a h.b a.t h.capacity h.square u r.shape r.ductile in
    (c.requires.1, omega (arith, c.spectrum-sa.ensures, most, u.most), omega (arith, c.factor-f.ensures, small, u.most))

pub returns : goal.returns
returns c =
    let a = c.args in
    let h = a.h in
    let u = c.requires.0 in
    let r = c.requires.2 in
    let most = spectrum_most_lem a.s h.a h.b a.t r.shape.b_positive r.shape.a_most in
    let small = upper_factor_most a.s h.a h.b a.t h.capacity h.square u r.shape r.ductile in
    let e = c.blended.ensures ∙ ap₂ (blended a.l) c.spectrum-sa.ensures c.factor-f.ensures in
    (e, omega (arith, e, blended_most a.l (spectrum_at a.s h a.t) (upper_at a.s h a.t) c.requires.1, most, small, u.most))
