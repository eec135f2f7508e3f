-- 10 to so many zeros is a place, and none is above the first. Assumes nothing.
use Rattle.std.proofs.Common.{arith, ◌≤◌, ◌^◌, ℕ}
use Rattle.std.proofs.Math.Nat.{pow-le-pow_right}
use Rattle.run_exhausted.proofs.place_at.Goals as goal

at_most_first : (zeros : ℕ) → zeros ≤ 7 → 10 ^ zeros ≤ 10_000_000
at_most_first zeros h = pow-le-pow_right {n = 10} (omega arith) {i = zeros} {j = 7} h

pub pow-requires : goal.pow-requires
pow-requires c = omega (arith, at_most_first c.args.zeros c.requires)

pub returns : goal.returns
returns c = (record { zeros = c.args.zeros; place = c.pow.ensures }, rw c.pow.ensures (at_most_first _ c.requires))
