-- `base_shear::shears::newtons` meets its contract: 10⁴ cancels. Assumes nothing.
use mathlib.Core.Path.{◌≡◌, ap, ◌∙◌}
use Prim.Native.Nat.{ℕ, ◌*◌, ◌/◌, ◌<◌}
use native.Mathlib.Nat.{mul-pos}
use native.Mathlib.Omega.{arith}
use Rattle.base_shear.specs.Shears.{newtons}
use Rattle.response.proofs.Spectra.{left_positive}
use Rattle.whole.proofs.Rounding.{up_same}
use Rattle.base_shear.proofs.shears.newtons.Goals as goal

-- the two quotients are one number
crossed : (x n u al s : ℕ) → u * 10_000 ≡ s → x * (n * s * al) ≡ 10_000 * x * (n * u * al)
crossed x n u al s e = omega (arith, ap (λ (z : ℕ). x * n * al * z) e)

pub returns : goal.returns
unfolding newtons
returns c =
    let a = c.args in
    let p = c.requires in
    let u = a.s / 10_000 in
    let al = a.f.alpha in
    let pa : 0 < al = omega (arith, p.5.alpha.0) in
    let pu = mul-pos (mul-pos p.3 (left_positive u 10_000 a.s p.0 p.1)) pa in
    c.up.ensures
    ∙ up_same (a.f.i * a.x * a.w) (a.n * u * al) (10_000 * (a.f.i * a.x * a.w)) (a.n * a.s * al) pu
    (mul-pos (mul-pos p.3 p.1) pa)
    (crossed (a.f.i * a.x * a.w) a.n u al a.s p.0)
