-- `whole::roots::power` meets its contract: r is k ^ counter at each turn. Assumes nothing.
use Prim.Native.Nat.{suc}
use native.Mathlib.Nat.{pow-suc, pow-le-pow_right}
use native.Mathlib.Omega.{arith}
use Rattle.whole.proofs.roots.power.Goals as goal

pub overflow_mul-r : goal.overflow_mul-r
overflow_mul-r c =
    let i = c.loop.counter in
    grind (arith, pow-suc c.args.k i, pow-le-pow_right c.requires.0 {i = suc i} {j = c.args.p} (omega arith))
