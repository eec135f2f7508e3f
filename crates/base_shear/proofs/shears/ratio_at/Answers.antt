-- `base_shear::shears::ratio_at` meets its contract. Assumes nothing.
use native.Mathlib.Omega.{arith}
use Rattle.response.proofs.Most.{spectrum_most_lem}
use Rattle.base_shear.proofs.LowerSome.{lower_least}
use Rattle.base_shear.proofs.shears.ratio_at.Goals as goal

pub ratio-requires : goal.ratio-requires
ratio-requires c =
    let a = c.args in
    let u = c.requires.0 in
    let r = c.requires.1 in
    let most = spectrum_most_lem a.s a.h.a a.h.b a.t r.shape.b_positive r.shape.a_most in
    (u.most, omega (arith, c.spectrum-sa.ensures, most, u.most), omega (arith, c.factor-f.ensures, lower_least a.s a.h a.t u r, u.positive))
