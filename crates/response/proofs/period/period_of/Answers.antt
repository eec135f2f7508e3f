-- `response::period::period_of` meets its contract. Assumes nothing.
use native.Mathlib.Omega.{arith}
use Rattle.response.proofs.Periods.{approximate_bounds}
use Rattle.response.proofs.period.period_of.Goals as goal

pub in_use-requires : goal.in_use-requires
in_use-requires c = omega (arith, c.approximate.ensures, approximate_bounds c.args.kind c.args.h c.requires.0 c.requires.1)
