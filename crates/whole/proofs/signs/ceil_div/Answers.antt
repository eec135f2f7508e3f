-- `whole::signs::ceil_div` meets its contract: the quotient toward 0, or one more where the remainder is above 0.
-- Assumes nothing.
use mathlib.Core.Path.{◌∙◌}
use mir.Facts.{to_z-of_z}
use Rattle.whole.proofs.Floor.{ceiling_fits, ceiling_more, ceiling_same, read_quot, read_rem}
use Rattle.whole.proofs.signs.ceil_div.Goals as goal

pub returns-then-r-gt0 : goal.returns-then-r-gt0
returns-then-r-gt0 c =
    let e = ceiling_more c.args.n c.args.d c.requires.0 (rw (read_rem c.args.n c.args.d c.ranges.n c.requires.1) at c.if-r-gt0.true) in
    rw (read_quot c.args.n c.args.d c.ranges.n c.requires.1, e) (to_z-of_z (ceiling_fits c.args.n c.args.d c.ranges.n))

pub returns : goal.returns
returns c =
    read_quot c.args.n c.args.d c.ranges.n c.requires.1
    ∙ ceiling_same c.args.n c.args.d c.requires.0 (rw (read_rem c.args.n c.args.d c.ranges.n c.requires.1) at c.if-r-gt0.false)
