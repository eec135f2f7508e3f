-- `whole::roots::lower_root` meets its contract: the digits down to the place 1 are the lower root. Assumes nothing.
use Rattle.whole.proofs.ByDigits.{lower_by_digits}
use Rattle.whole.proofs.roots.lower_root.Goals as goal

pub returns : goal.returns
returns c =
    let q = c.requires in
    let r = c.digits_down_to in
    lower_by_digits c.args.s c.args.square q.unit_most q.positive q.most r.result.found r.ensures.0
