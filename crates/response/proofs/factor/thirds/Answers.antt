-- `response::factor::thirds` meets its contract. Assumes nothing.
use Prim.Native.Nat.{◌*◌, ◌/◌}
use native.Mathlib.Nat.{div-mul-le_self, mul-le-mul_left}
use native.Mathlib.Omega.{arith}
use Rattle.response.proofs.factor.thirds.Goals as goal

pub overflow_mul-result-2 : goal.overflow_mul-result-2
overflow_mul-result-2 c =
    let s = c.args.s in
    let q = c.args.capacity in
    omega (arith, mul-le-mul_left (3 * s / q.den) c.requires.2, div-mul-le_self (3 * s) q.den, c.requires.0)
