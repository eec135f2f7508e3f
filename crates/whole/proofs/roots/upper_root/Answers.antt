-- `whole::roots::upper_root` meets its contract: the lower root, or one more where something is left. Assumes nothing.
use native.Mathlib.Omega.{arith}
use Rattle.whole.proofs.ByDigits.{upper_nothing_left, upper_some_left}
use Rattle.whole.proofs.roots.upper_root.Goals as goal

pub returns-then-lower-eq0 : goal.returns-then-lower-eq0
returns-then-lower-eq0 c =
    let q = c.requires in
    let r = c.digits_down_to-lower in
    upper_nothing_left c.args.s c.args.square q.unit_most q.positive q.most r.result.found r.result.left r.ensures.0 r.ensures.1
    (omega (arith, c.if-lower-eq0.true))

pub returns : goal.returns
returns c =
    let q = c.requires in
    let r = c.digits_down_to-lower in
    upper_some_left c.args.s c.args.square q.unit_most q.positive q.most r.result.found r.result.left r.ensures.0 r.ensures.1
    (omega (arith, c.if-lower-eq0.false))
