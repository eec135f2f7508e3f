-- `site::coefficients::acceleration_a` meets its contract: the product fits. Assumes nothing.
use mathlib.Core.Path.{ap}
use Prim.Native.Nat.{ℕ, ◌*◌}
use native.Mathlib.Omega.{arith}
use Rattle.site.proofs.Bounds.{a_bounds}
use Rattle.site.proofs.coefficients.acceleration_a.Goals as goal

pub overflow_mul-result : goal.overflow_mul-result
overflow_mul-result c =
    let a = c.args in
    omega (arith, ap (λ (z : ℕ). z * a.s) c.fa.ensures, a_bounds a.class a.s c.requires.0 c.requires.1)
